-- The printed text of a statement has its lexemes, where the statement is spelled by some lexemes at all.
use Rattle.std.proofs.Common.{◌≡◌, ℕ, zero, suc, ◌≤◌, ◌^◌, pos, neg_ℤ, Bool, true, false, cond, nat_lt, List, [], ◌∷◌, ◌++◌, codes, flat_map, Option, refl, sym, ap, subst, arith, append_assoc}
use Rattle.odb_values.specs.declared.value.Value.{Value}
use Rattle.odb_values.specs.declared.value.Value.TheVariants.{Int}
use Rattle.odb_model.specs.declared.keyword.Keyword.TheVariants as k
use Rattle.odb_model.specs.declared.sign.Sign.{Sign}
use Rattle.odb_model.specs.declared.sign.Sign.TheVariants as s
use Rattle.odb_model.specs.declared.predicate.Compare.{Compare}
use Rattle.odb_model.specs.declared.predicate.Operand.{Operand}
use Rattle.odb_model.specs.declared.predicate.Predicate.{Predicate, fold-Predicate}
use Rattle.odb_model.specs.declared.predicate.Predicate.TheVariants as p
use Rattle.odb_model.specs.declared.statement.What.{What}
use Rattle.odb_model.specs.declared.statement.Term.{Term}
use Rattle.odb_model.specs.declared.statement.Expression.{Expression}
use Rattle.odb_model.specs.declared.statement.Assignment.{Assignment}
use Rattle.odb_model.specs.declared.statement.ColumnText.{ColumnText}
use Rattle.odb_model.specs.declared.statement.Statement.{Statement}
use Rattle.odb_model.specs.Lexeme.{Lexeme, Word, Name, Symbol, word_text, sign_text}
use Rattle.odb_model.specs.Grammar as g
use Rattle.odb_model.specs.Grammar.{IsNamed, IsLiteral, IsOperand, AreTerms, IsExpression, IsTuple, IsAssignment, IsKind, IsMust, IsColumn, IsCompare, IsTest, IsPredicate, IsBooleanTerm, IsBooleanFactor, IsFilter, IsWhat, IsStatement, Spells}
use Rattle.odb_model.specs.Canonical.{joined, names_text, value_text, tuple_text, operand_text, term_text, expression_text, assignment_text, kind_text, column_text, what_text, compare_text, Shown, shown_step, within, filter_text, statement_text}
use Rattle.odb_print.proofs.Lexemes.{joined_lexemes, names_lexemes, value_lexemes, tuple_lexemes, operand_lexemes, term_lexemes, expression_lexemes, assignment_lexemes, kind_lexemes, column_lexemes, what_lexemes, compare_sign, Spelled, bound, spelled_step, spelled_predicate, filter_lexemes, statement_lexemes}
use Rattle.odb_print.proofs.CanonicalFolds.{fold_test, fold_null, fold_not, fold_and, fold_or}
use Rattle.odb_print.proofs.Tokens.{Lexes}
use Rattle.odb_print.proofs.TokensParts.{Part, Tail, whole, as_lexemes, ◌>>◌, ◌<>◌, tail_tail, tail_part, name, number, quoted, word, sign, nothing, blank, word_, _word_, _sign_, left, right, right_end, minus, comma_, items}

-- ---- values

negative_part : (n : ℕ) → n ≤ 2 ^ 63 → Part false (value_text (Int (neg_ℤ (pos n)))) (value_lexemes (Int (neg_ℤ (pos n))))
negative_part zero small = number zero small
negative_part (suc n) small = minus >> number (suc n) small

literal_part : (ts : List Lexeme) (v : Value) → IsLiteral ts v → Part false (value_text v) (value_lexemes v)
unfolding word_text
literal_part _ _ (g.number {n = n} small) = number n (omega arith)
literal_part _ _ (g.negative {n = n} small) = negative_part n small
literal_part _ _ (g.text is) = quoted is
literal_part _ _ g.null = word k.Null

named_part : (ts : List Lexeme) (n : List ℕ) → IsNamed ts n → Part false n (Name n ∷ [])
named_part _ _ (g.name free) = name free

operand_part : (ts : List Lexeme) (x : Operand) → IsOperand ts x → Part false (operand_text x) (operand_lexemes x)
operand_part _ _ (g.column free) = name free
operand_part _ _ (g.literal v) = literal_part _ _ v

tuple_part : (ts : List Lexeme) (vs : List Value) → IsTuple ts vs → Part false (tuple_text vs) (tuple_lexemes vs)
tuple_part _ _ (g.tuple vs) = left.part >> items value_text value_lexemes literal_part _ _ vs <> right_end

-- ---- sums

terms_tail : (ts : List Lexeme) (xs : List Term) → AreTerms ts xs → Tail false (flat_map term_text xs) (flat_map term_lexemes xs)
unfolding sign_text
terms_tail _ _ g.none = nothing
terms_tail _ _ (g.plus x xs) = tail_tail (tail_part (_sign_ s.Plus) (operand_part _ _ x)) (terms_tail _ _ xs)
terms_tail _ _ (g.minus x xs) = tail_tail (tail_part (_sign_ s.Minus) (operand_part _ _ x)) (terms_tail _ _ xs)

expression_part : (ts : List Lexeme) (x : Expression) → IsExpression ts x → Part false (expression_text x) (expression_lexemes x)
expression_part _ _ (g.sum x xs) = operand_part _ _ x <> terms_tail _ _ xs

assignment_part : (ts : List Lexeme) (x : Assignment) → IsAssignment ts x → Part false (assignment_text x) (assignment_lexemes x)
unfolding sign_text
assignment_part _ _ (g.set free x) = name free <> _sign_ s.Equal >> expression_part _ _ x

-- ---- columns

kind_tail : (ts : List Lexeme) (length : Option ℕ) → IsKind ts length → Tail false (kind_text length) (kind_lexemes length)
unfolding word_text
kind_tail _ _ g.integer = blank (word k.Integer)
kind_tail _ _ (g.varchar {n = n} small) = blank (word k.Varchar <> left >> number n (omega arith) <> right_end)

must_tail : (ts : List Lexeme) (must : Bool) → IsMust ts must
    → Tail false (cond must (codes " NOT NULL") []) (cond must (Word k.Not ∷ Word k.Null ∷ []) [])
unfolding word_text
must_tail _ _ g.may = nothing
must_tail _ _ g.must = blank (word_ k.Not >> word k.Null)

column_part : (ts : List Lexeme) (x : ColumnText) → IsColumn ts x → Part false (column_text x) (column_lexemes x)
column_part _ _ (g.column free kind null) = name free <> kind_tail _ _ kind <> must_tail _ _ null

what_part : (ts : List Lexeme) (x : What) → IsWhat ts x → Part false (what_text x) (what_lexemes x)
unfolding word_text sign_text
what_part _ _ g.all = sign s.Star
what_part _ _ (g.columns names) = items (λ n. n) (λ n. Name n ∷ []) named_part _ _ names
what_part _ _ g.count = word k.Count <> left >> sign s.Star <> right_end
what_part _ _ (g.sum free) = word k.Sum <> left >> name free <> right_end

-- ---- predicates

record IsShown (text : Shown) (spelled : Spelled) : Type 0 where
  binds : text.binds ≡ spelled.binds
  part : Part false text.text spelled.lexemes

in_parens : (b : Bool) (t : List ℕ) (ts : List Lexeme) → Part false t ts
    → Part false (cond b (codes "(" ++ t ++ codes ")") t) (cond b (Symbol s.Open ∷ ts ++ Symbol s.Close ∷ []) ts)
in_parens true t ts p = left.part >> p <> right_end
in_parens false t ts p = p

within_part : (least : ℕ) (text : Shown) (spelled : Spelled) → IsShown text spelled → Part false (within least text) (bound least spelled)
within_part least text spelled is =
    subst (λ n. Part false (within least text) (cond (nat_lt n least) (Symbol s.Open ∷ spelled.lexemes ++ Symbol s.Close ∷ []) spelled.lexemes)) is.binds
    (in_parens (nat_lt text.binds least) text.text spelled.lexemes is.part)

abbrev shown_predicate : Predicate → Shown
shown_predicate a = fold-Predicate Shown shown_step a

abbrev PredicateShown : Predicate → Type 0
PredicateShown a = IsShown (shown_predicate a) (spelled_predicate a)

inner : (least : ℕ) (a : Predicate) → PredicateShown a → Part false (within least (shown_predicate a)) (bound least (spelled_predicate a))
inner least a is = within_part least (shown_predicate a) (spelled_predicate a) is

compare_tail : (sign : Sign) (op : Compare) → IsCompare sign op → Tail true (compare_text op) (Symbol (compare_sign op) ∷ [])
unfolding sign_text
compare_tail _ _ g.equal = _sign_ s.Equal
compare_tail _ _ g.unequal = _sign_ s.Unequal
compare_tail _ _ g.less = _sign_ s.Less
compare_tail _ _ g.at_most = _sign_ s.AtMost
compare_tail _ _ g.greater = _sign_ s.Greater
compare_tail _ _ g.at_least = _sign_ s.AtLeast

shown_at : {text to : Shown} {spelled so : Spelled} → to ≡ text → so ≡ spelled → IsShown text spelled → IsShown to so
shown_at {to = to} {spelled = spelled} e f is = subst (IsShown to) (sym f) (subst (λ x. IsShown x spelled) (sym e) is)

test_shown : (ts : List Lexeme) (a : Predicate) → IsTest ts a → PredicateShown a
unfolding word_text
test_shown _ _ (g.test {left = x} {right = y} {op = op} left_is op_is right_is) =
    shown_at (fold_test Shown shown_step op x y) (fold_test Spelled spelled_step op x y) (record {
      binds = refl;
      part = as_lexemes (operand_part _ _ left_is <> compare_tail _ _ op_is >> operand_part _ _ right_is) (simp append_assoc);
    })
test_shown _ _ (g.null {n = n} free) =
    shown_at (fold_null Shown shown_step n false) (fold_null Spelled spelled_step n false)
    (record { binds = refl; part = name free <> blank (word_ k.Is >> word k.Null) })
test_shown _ _ (g.not_null {n = n} free) =
    shown_at (fold_null Shown shown_step n true) (fold_null Spelled spelled_step n true)
    (record { binds = refl; part = name free <> blank (word_ k.Is >> word_ k.Not >> word k.Null) })

not_shown : (a : Predicate) → PredicateShown a → PredicateShown (p.Not a)
unfolding word_text
not_shown a is =
    shown_at (fold_not Shown shown_step a) (fold_not Spelled spelled_step a) (record { binds = refl; part = word_ k.Not >> inner 3 a is })

and_shown : (a b : Predicate) → PredicateShown a → PredicateShown b → PredicateShown (p.And a b)
unfolding word_text
and_shown a b is also =
    shown_at (fold_and Shown shown_step a b) (fold_and Spelled spelled_step a b)
    (record { binds = refl; part = as_lexemes (inner 2 a is <> _word_ k.And >> inner 3 b also) (simp append_assoc) })

or_shown : (a b : Predicate) → PredicateShown a → PredicateShown b → PredicateShown (p.Or a b)
unfolding word_text
or_shown a b is also =
    shown_at (fold_or Shown shown_step a b) (fold_or Spelled spelled_step a b)
    (record { binds = refl; part = as_lexemes (inner 1 a is <> _word_ k.Or >> inner 2 b also) (simp append_assoc) })

mutual
  any_shown : (room : ℕ) (ts : List Lexeme) (a : Predicate) → IsPredicate room ts a → PredicateShown a
  any_shown _ _ _ (g.term d) = both_shown _ _ _ d
  any_shown _ _ _ (g.or d e) = or_shown _ _ (any_shown _ _ _ d) (both_shown _ _ _ e)

  both_shown : (room : ℕ) (ts : List Lexeme) (a : Predicate) → IsBooleanTerm room ts a → PredicateShown a
  both_shown _ _ _ (g.factor d) = no_shown _ _ _ d
  both_shown _ _ _ (g.and d e) = and_shown _ _ (both_shown _ _ _ d) (no_shown _ _ _ e)

  no_shown : (room : ℕ) (ts : List Lexeme) (a : Predicate) → IsBooleanFactor room ts a → PredicateShown a
  no_shown _ _ _ (g.not d) = not_shown _ (no_shown _ _ _ d)
  no_shown _ _ _ (g.parens d) = any_shown _ _ _ d
  no_shown _ _ _ (g.IsBooleanFactor.test d) = test_shown _ _ d

filter_tail : (ts : List Lexeme) (filter : Option Predicate) → IsFilter ts filter → Tail false (filter_text filter) (filter_lexemes filter)
unfolding word_text
filter_tail _ _ g.IsFilter.all = nothing
filter_tail _ _ (g.where_ d) = tail_part (_word_ k.Where) (any_shown _ _ _ d).part

-- ---- statements

columns_part : (ts : List Lexeme) (xs : List ColumnText) → g.IsListed IsColumn ts xs → Part false (joined column_text xs) (joined_lexemes column_lexemes xs)
columns_part ts xs is = items column_text column_lexemes column_part ts xs is

names_part : (ts : List Lexeme) (xs : List (List ℕ)) → g.IsListed IsNamed ts xs → Part false (names_text xs) (names_lexemes xs)
names_part ts xs is = items (λ n. n) (λ n. Name n ∷ []) named_part ts xs is

regroup : (a b c d e : List Lexeme) → a ++ b ++ c ++ d ++ e ≡ a ++ (b ++ c) ++ (d ++ e)
regroup a b c d e = simp append_assoc

statement_part : (ts : List Lexeme) (st : Statement) → IsStatement ts st → Part false (statement_text st) (statement_lexemes st)
unfolding word_text
statement_part _ _ g.start = word k.Start
statement_part _ _ g.commit = word k.Commit
statement_part _ _ g.rollback = word k.Rollback
statement_part _ _ (g.select what table filter) =
    as_lexemes (word_ k.Select >> what_part _ _ what <> _word_ k.From >> name table <> filter_tail _ _ filter) (simp append_assoc)
statement_part _ _ (g.insert table tuples) =
    word_ k.Insert >> word_ k.Into >> name table <> _word_ k.Values >> items tuple_text tuple_lexemes tuple_part _ _ tuples
statement_part _ _ (g.update table sets filter) =
    word_ k.Update >> name table <> _word_ k.Set >> items assignment_text assignment_lexemes assignment_part _ _ sets <> filter_tail _ _ filter
statement_part _ _ (g.delete table filter) = word_ k.Delete >> word_ k.From >> name table <> filter_tail _ _ filter
statement_part _ _ (g.create_databank n) = word_ k.Create >> word_ k.Databank >> name n
statement_part _ _ (g.create_table {n = n} {bank = bank} {columns = columns} {key = key} free columns_are key_is bank_free) =
    as_lexemes
    (word_ k.Create >> word_ k.Table >> name free <> blank left.part >> columns_part _ _ columns_are
    <> tail_part comma_ (word_ k.Primary >> word_ k.Key >> left.part) >> names_part _ _ key_is
    <> tail_part right (right.part >> (_word_ k.In).part) >> name bank_free)
    (ap (λ ls. Word k.Create ∷ Word k.Table ∷ Name n ∷ Symbol s.Open ∷ ls)
    (regroup (joined_lexemes column_lexemes columns) (Symbol s.Comma ∷ Word k.Primary ∷ Word k.Key ∷ Symbol s.Open ∷ []) (names_lexemes key)
    (Symbol s.Close ∷ Symbol s.Close ∷ Word k.In ∷ []) (Name bank ∷ [])))
statement_part _ _ (g.drop_table n) = word_ k.Drop >> word_ k.Table >> name n
statement_part _ _ (g.create_shadow n bank) = word_ k.Create >> word_ k.Shadow >> name n <> _word_ k.For >> name bank
statement_part _ _ (g.shadow_online n) = word_ k.Set >> word_ k.Shadow >> name n <> blank (word k.Online)
statement_part _ _ (g.shadow_offline n) = word_ k.Set >> word_ k.Shadow >> name n <> blank (word k.Offline)
statement_part _ _ (g.shadow_master n) = word_ k.Alter >> word_ k.Shadow >> name n <> blank (word_ k.To >> word k.Master)
statement_part _ _ (g.drop_shadow n) = word_ k.Drop >> word_ k.Shadow >> name n
statement_part _ _ (g.create_backup n bank) = word_ k.Create >> word_ k.Backup >> name n <> _word_ k.Of >> name bank
statement_part _ _ (g.backup_ready n) = word_ k.Set >> word_ k.Backup >> name n <> blank (word k.Ready)
statement_part _ _ (g.drop_backup n) = word_ k.Drop >> word_ k.Backup >> name n
statement_part _ _ (g.restore bank n) = word_ k.Restore >> name bank <> _word_ k.From >> name n

pub statement_lexes : (ts : List Lexeme) (st : Statement) → Spells ts st → Lexes (statement_text st) (statement_lexemes st)
statement_lexes _ st (g.bare is) = whole (statement_part _ st is)
statement_lexes _ st (g.ended is) = whole (statement_part _ st is)
