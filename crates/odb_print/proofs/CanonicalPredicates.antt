-- The canonical lexemes of a predicate that some lexemes spell, spell it too, with no more NOTs and parentheses inside one
-- another: parentheses stand only where the grammar has no predicate of that kind without them.
use Rattle.std.proofs.Common.{ℕ, suc, List, true, false, sym, subst}
use Rattle.odb_model.specs.declared.sign.Sign.{Sign}
use Rattle.odb_model.specs.declared.predicate.Compare.{Compare}
use Rattle.odb_model.specs.declared.predicate.Predicate.{Predicate}
use Rattle.odb_model.specs.declared.predicate.Predicate.TheVariants as p
use Rattle.odb_model.specs.Lexeme.{Lexeme}
use Rattle.odb_model.specs.Grammar.{IsTest, IsCompare, equal, unequal, less, at_most, greater, at_least, IsPredicate, IsBooleanTerm, IsBooleanFactor}
use Rattle.odb_print.proofs.Lexemes.{Spelled, spelled, bound, spelled_step, spelled_predicate, predicate_lexemes, compare_sign}
use Rattle.odb_print.proofs.CanonicalFolds.{fold_test, fold_null, fold_not, fold_and, fold_or}
use Rattle.odb_print.proofs.CanonicalParts.{canonical_operand}

-- ---- more room

mutual
  predicate_more : {room : ℕ} {ts : List Lexeme} {a : Predicate} → IsPredicate room ts a → IsPredicate (suc room) ts a
  predicate_more (IsPredicate.term h) = IsPredicate.term (both_more h)
  predicate_more (IsPredicate.or h i) = IsPredicate.or (predicate_more h) (both_more i)

  both_more : {room : ℕ} {ts : List Lexeme} {a : Predicate} → IsBooleanTerm room ts a → IsBooleanTerm (suc room) ts a
  both_more (IsBooleanTerm.factor h) = IsBooleanTerm.factor (no_more h)
  both_more (IsBooleanTerm.and h i) = IsBooleanTerm.and (both_more h) (no_more i)

  no_more : {room : ℕ} {ts : List Lexeme} {a : Predicate} → IsBooleanFactor room ts a → IsBooleanFactor (suc room) ts a
  no_more (IsBooleanFactor.not h) = IsBooleanFactor.not (no_more h)
  no_more (IsBooleanFactor.parens h) = IsBooleanFactor.parens (predicate_more h)
  no_more (IsBooleanFactor.test h) = IsBooleanFactor.test h

-- ---- the canonical lexemes by how tightly they bind

data Own (room : ℕ) (a : Predicate) : Spelled → Type 0 where
  ors : {ts : List Lexeme} → IsPredicate room ts a → Own room a (spelled 1 ts)
  ands : {ts : List Lexeme} → IsBooleanTerm room ts a → Own room a (spelled 2 ts)
  tight : {ts : List Lexeme} → IsBooleanFactor room ts a → Own room a (spelled 3 ts)

own_more : {room : ℕ} {a : Predicate} {part : Spelled} → Own room a part → Own (suc room) a part
own_more (ors h) = ors (predicate_more h)
own_more (ands h) = ands (both_more h)
own_more (tight h) = tight (no_more h)

-- as a left operand of OR
own_or : {room : ℕ} {a : Predicate} {part : Spelled} → Own room a part → IsPredicate room (bound 1 part) a
own_or (ors h) = h
own_or (ands h) = IsPredicate.term h
own_or (tight h) = IsPredicate.term (IsBooleanTerm.factor h)

-- as an operand of AND or a right one of OR, in parentheses where they are needed
own_and : {room : ℕ} {a : Predicate} {part : Spelled} → Own room a part → IsBooleanTerm (suc room) (bound 2 part) a
own_and (ors h) = IsBooleanTerm.factor (IsBooleanFactor.parens h)
own_and (ands h) = both_more h
own_and (tight h) = IsBooleanTerm.factor (no_more h)

-- as an operand of NOT or a right one of AND
own_not : {room : ℕ} {a : Predicate} {part : Spelled} → Own room a part → IsBooleanFactor (suc room) (bound 3 part) a
own_not (ors h) = IsBooleanFactor.parens h
own_not (ands h) = IsBooleanFactor.parens (IsPredicate.term h)
own_not (tight h) = no_more h

-- what lexemes that are no OR give, and those that are no AND either
record Both (room : ℕ) (a : Predicate) (part : Spelled) : Type 0 where
  own : Own room a part
  and : IsBooleanTerm room (bound 2 part) a

record Tight (room : ℕ) (a : Predicate) (part : Spelled) : Type 0 where
  both : Both room a part
  not : IsBooleanFactor room (bound 3 part) a

is_and : {room : ℕ} {a : Predicate} {ts : List Lexeme} → IsBooleanTerm room ts a → Both room a (spelled 2 ts)
is_and h = record { own = ands h; and = h }

is_tight : {room : ℕ} {a : Predicate} {ts : List Lexeme} → IsBooleanFactor room ts a → Tight room a (spelled 3 ts)
is_tight h = record { both = record { own = tight h; and = IsBooleanTerm.factor h }; not = h }

in_parens : {room : ℕ} {a : Predicate} {part : Spelled} → Own room a part → Tight (suc room) a part
in_parens h = record { both = record { own = own_more h; and = own_and h }; not = own_not h }

-- ---- tests

canonical_compare : {sign : Sign} {op : Compare} → IsCompare sign op → IsCompare (compare_sign op) op
canonical_compare equal = equal
canonical_compare unequal = unequal
canonical_compare less = less
canonical_compare at_most = at_most
canonical_compare greater = greater
canonical_compare at_least = at_least

of_test : {room : ℕ} {ts : List Lexeme} {a : Predicate} → IsTest ts a → Tight room a (spelled_predicate a)
of_test {room = room} (IsTest.test {left = left} {right = right} {op = op} x sign y) =
    subst (Tight room (p.Test op left right)) (sym (fold_test Spelled spelled_step op left right))
    (is_tight (IsBooleanFactor.test (IsTest.test (canonical_operand x) (canonical_compare sign) (canonical_operand y))))
of_test {room = room} (IsTest.null {n = n} free) =
    subst (Tight room (p.Null n false)) (sym (fold_null Spelled spelled_step n false)) (is_tight (IsBooleanFactor.test (IsTest.null free)))
of_test {room = room} (IsTest.not_null {n = n} free) =
    subst (Tight room (p.Null n true)) (sym (fold_null Spelled spelled_step n true)) (is_tight (IsBooleanFactor.test (IsTest.not_null free)))

-- ---- predicates of other predicates

of_or : {room : ℕ} (a b : Predicate) → Own room a (spelled_predicate a) → Both room b (spelled_predicate b)
    → Own room (p.Or a b) (spelled_predicate (p.Or a b))
of_or {room = room} a b h i =
    subst (Own room (p.Or a b)) (sym (fold_or Spelled spelled_step a b)) (ors (IsPredicate.or (own_or h) i.and))

of_and : {room : ℕ} (a b : Predicate) → Both room a (spelled_predicate a) → Tight room b (spelled_predicate b)
    → Both room (p.And a b) (spelled_predicate (p.And a b))
of_and {room = room} a b h i =
    subst (Both room (p.And a b)) (sym (fold_and Spelled spelled_step a b)) (is_and (IsBooleanTerm.and h.and i.not))

of_not : {room : ℕ} (a : Predicate) → Tight room a (spelled_predicate a) → Tight (suc room) (p.Not a) (spelled_predicate (p.Not a))
of_not {room = room} a h =
    subst (Tight (suc room) (p.Not a)) (sym (fold_not Spelled spelled_step a)) (is_tight (IsBooleanFactor.not h.not))

-- ---- all predicates

mutual
  of_predicate : {room : ℕ} {ts : List Lexeme} {a : Predicate} → IsPredicate room ts a → Own room a (spelled_predicate a)
  of_predicate (IsPredicate.term h) = (of_both h).own
  of_predicate (IsPredicate.or {a = a} {b = b} h i) = of_or a b (of_predicate h) (of_both i)

  of_both : {room : ℕ} {ts : List Lexeme} {a : Predicate} → IsBooleanTerm room ts a → Both room a (spelled_predicate a)
  of_both (IsBooleanTerm.factor h) = (of_no h).both
  of_both (IsBooleanTerm.and {a = a} {b = b} h i) = of_and a b (of_both h) (of_no i)

  of_no : {room : ℕ} {ts : List Lexeme} {a : Predicate} → IsBooleanFactor room ts a → Tight room a (spelled_predicate a)
  of_no (IsBooleanFactor.not {a = a} h) = of_not a (of_no h)
  of_no (IsBooleanFactor.parens h) = in_parens (of_predicate h)
  of_no (IsBooleanFactor.test h) = of_test h

own_predicate : {room : ℕ} {a : Predicate} {part : Spelled} → Own room a part → IsPredicate room part.lexemes a
own_predicate (ors h) = h
own_predicate (ands h) = IsPredicate.term h
own_predicate (tight h) = IsPredicate.term (IsBooleanTerm.factor h)

pub canonical_predicate : {room : ℕ} {ts : List Lexeme} {a : Predicate} → IsPredicate room ts a → IsPredicate room (predicate_lexemes a) a
canonical_predicate h = own_predicate (of_predicate h)
