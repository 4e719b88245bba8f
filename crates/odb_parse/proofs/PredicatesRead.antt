-- Predicates are read.
use Rattle.std.proofs.Common.{◌≡◌, ℕ, zero, suc, ◌<◌, ◌≤◌, true, false, List, [], ◌∷◌, ◌++◌, length, Option, Some, Ok, refl, ap, ◌∙◌, arith}
use Rattle.odb_model.specs.declared.keyword.Keyword.TheVariants as k
use Rattle.odb_model.specs.declared.sign.Sign.{Sign}
use Rattle.odb_model.specs.declared.sign.Sign.TheVariants as s
use Rattle.odb_model.specs.declared.predicate.Compare.{Compare}
use Rattle.odb_model.specs.declared.predicate.Operand.{Operand}
use Rattle.odb_model.specs.declared.predicate.Predicate.{Predicate}
use Rattle.odb_model.specs.declared.predicate.Predicate.TheVariants as p
use Rattle.odb_model.specs.Lexeme.{Lexeme, Word, Symbol}
use Rattle.odb_model.specs.Grammar.{IsLiteral, IsOperand, IsCompare, IsTest, IsPredicate, IsBooleanTerm, IsBooleanFactor, IsFilter}
use Rattle.odb_model.specs.Grammar as g
use Rattle.odb_parse.specs.declared.kind.Kind.TheVariants as kind
use Rattle.odb_parse.specs.Codes.{Item, Stands}
use Rattle.odb_parse.specs.Items.{kind_in}
use Rattle.odb_parse.specs.Reading.{Outcome, Reader, skip, name, same_word, sees_word, eat_word, expect_word, expect_sign}
use Rattle.odb_parse.specs.Sums.{operand}
use Rattle.odb_parse.specs.Predicates.{compares, tested, single_test, null_test, ands_from, conjunction_of, ors_from, whole_of, negation_by, negation, conjunction, predicate, filter}
use Rattle.odb_parse.proofs.Takes.{Takes, done, next, takes_split, takes_shorter}
use Rattle.odb_parse.proofs.Following.{IsClear, clear_front, eat_word_step, sign_step, stays}
use Rattle.odb_parse.proofs.TokensRead.{ReadsAll, operand_read}

-- ---- a test

compares_is : {sign : Sign} {op : Compare} → IsCompare sign op → compares (kind.Symbol sign) ≡ Some op
compares_is g.equal = refl
compares_is g.unequal = refl
compares_is g.less = refl
compares_is g.at_most = refl
compares_is g.greater = refl
compares_is g.at_least = refl

compared_read : {sign : Sign} {op : Compare} {us : List Lexeme} {right : Operand} (left : Operand) (items rest : List Item) → IsCompare sign op
    → IsOperand us right → Takes items (Symbol sign ∷ us) rest → IsClear rest → tested left items ≡ Ok (p.Test op left right, rest)
unfolding sees_word skip
compared_read left items rest c r (next takes) clear = rw (compares_is c, (clear_front takes clear).passes, operand_read r takes clear) refl

test_read : {ls : List Lexeme} {a : Predicate} (items rest : List Item) → IsTest ls a → Takes items ls rest → IsClear rest
    → single_test items ≡ Ok (a, rest)
unfolding single_test operand name skip sees_word same_word null_test eat_word expect_word
test_read items rest (g.test {ts = ts} {us = us} {left = left} {sign = sign} l c r) takes clear =
    let split = takes_split ts (Symbol sign ∷ us) items rest takes in
    let first = operand_read l split.front (clear_front split.back clear) in
    rw (first, compared_read left split.mid rest c r split.back clear) refl
test_read items rest (g.null free) (next (next (next done))) clear = rw clear.passes refl
test_read items rest (g.not_null free) (next (next (next (next done)))) clear = rw clear.passes refl

-- ---- a test begins with no NOT and no parenthesis

abbrev IsPlain : List Item → Type 0
IsPlain items = (item all : Reader Predicate) → negation_by item all (kind_in items) items ≡ single_test items

operand_plain : {ts : List Lexeme} {x : Operand} (us : List Lexeme) (items rest : List Item) → IsOperand ts x → Takes items (ts ++ us) rest
    → IsPlain items
operand_plain us items rest (g.column free) (next takes) = λ item all. refl
operand_plain us items rest (g.literal (g.number small)) (next takes) = λ item all. refl
operand_plain us items rest (g.literal (g.negative small)) (next takes) = λ item all. refl
operand_plain us items rest (g.literal (g.text right)) (next takes) = λ item all. refl
operand_plain us items rest (g.literal g.null) (next takes) = λ item all. refl

test_plain : {ls : List Lexeme} {a : Predicate} (items rest : List Item) → IsTest ls a → Takes items ls rest → IsPlain items
test_plain items rest (g.test {us = us} {sign = sign} l c r) takes = operand_plain (Symbol sign ∷ us) items rest l takes
test_plain items rest (g.null free) (next takes) = λ item all. refl
test_plain items rest (g.not_null free) (next takes) = λ item all. refl

no_test : (room : ℕ) {ls : List Lexeme} {a : Predicate} (items rest : List Item) → IsTest ls a → Takes items ls rest → IsClear rest
    → negation room items ≡ Ok (a, rest)
unfolding negation
no_test zero items rest t takes clear = test_read items rest t takes clear
no_test (suc room) items rest t takes clear =
    test_plain items rest t takes (negation room) (whole_of (conjunction_of (negation room))) ∙ test_read items rest t takes clear

-- ---- chains that group to the left: having read some, the reader stands in its loop

record InLoop (o : Outcome Predicate) (from : ℕ → Predicate → Reader Predicate) (a : Predicate) (items : List Item) : Type 0 where
  pub turns : ℕ
  pub enough : length items < turns
  pub same : o ≡ from turns a items

-- ---- negation {AND negation}

abbrev ReadsNegation : ℕ → Type 0
ReadsNegation room = ReadsAll (negation room) (IsBooleanFactor room) IsClear

and_first : (room : ℕ) (a : Predicate) (items rest : List Item) → negation room items ≡ Ok (a, rest) → InLoop (conjunction room items) (ands_from (negation room)) a rest
unfolding conjunction conjunction_of
and_first room a items rest e = record { turns = suc (length rest); enough = omega arith; same = rw e refl }

and_turn : (room turns : ℕ) (a b : Predicate) (items mid rest : List Item) → eat_word k.And items ≡ Ok (true, mid) → negation room mid ≡ Ok (b, rest)
    → ands_from (negation room) (suc turns) a items ≡ ands_from (negation room) turns (p.And a b) rest
unfolding ands_from
and_turn room turns a b items mid rest e f = rw (e, f) refl

and_more : (room : ℕ) (us : List Lexeme) (o : Outcome Predicate) (a b : Predicate) (items rest : List Item) → ReadsNegation room
    → InLoop o (ands_from (negation room)) a items → IsBooleanFactor room us b → Takes items (Word k.And ∷ us) rest → IsClear rest
    → InLoop o (ands_from (negation room)) (p.And a b) rest
and_more room us o a b items rest each loop n takes clear =
    let step = eat_word_step takes clear in
    let shorter = takes_shorter step.takes in
    go loop.turns step.behind loop.enough loop.same step.reads step.fewer shorter (each us b step.behind rest n step.takes clear)
  where
    go : (turns : ℕ) (mid : List Item) → length items < turns → o ≡ ands_from (negation room) turns a items → eat_word k.And items ≡ Ok (true, mid)
        → length mid < length items → length rest ≤ length mid → negation room mid ≡ Ok (b, rest) → InLoop o (ands_from (negation room)) (p.And a b) rest
    go zero mid enough same e fewer shorter f = absurd (omega arith)
    go (suc turns) mid enough same e fewer shorter f =
        record { turns = turns; enough = omega arith; same = same ∙ and_turn room turns a b items mid rest e f }

and_loop : {room : ℕ} {ls : List Lexeme} {a : Predicate} → IsBooleanTerm room ls a → ReadsNegation room → (items rest : List Item) → Takes items ls rest
    → IsClear rest → InLoop (conjunction room items) (ands_from (negation room)) a rest
and_loop {room = room} (g.factor {ts = ts} {a = a} n) each items rest takes clear = and_first room a items rest (each ts a items rest n takes clear)
and_loop {room = room} (g.and {ts = ts} {us = us} {a = a} {b = b} l r) each items rest takes clear =
    let split = takes_split ts (Word k.And ∷ us) items rest takes in
    let loop = and_loop l each items split.mid split.front (clear_front split.back clear) in
    and_more room us (conjunction room items) a b split.mid rest each loop r split.back clear

and_end : (room : ℕ) (o : Outcome Predicate) (a : Predicate) (rest : List Item) → sees_word k.And rest ≡ false
    → (turns : ℕ) → length rest < turns → o ≡ ands_from (negation room) turns a rest → o ≡ Ok (a, rest)
unfolding ands_from eat_word
and_end room o a rest none zero enough same = absurd (omega arith)
and_end room o a rest none (suc turns) enough same = same ∙ rw none refl

-- what ends a chain of ANDs
pub record IsConjunctionEnd (items : List Item) : Type 0 where
  pub clear : IsClear items
  pub no_and : sees_word k.And items ≡ false

abbrev ReadsConjunction : ℕ → Type 0
ReadsConjunction room = ReadsAll (conjunction room) (IsBooleanTerm room) IsConjunctionEnd

conjunction_read : (room : ℕ) → ReadsNegation room → ReadsConjunction room
conjunction_read room each ls a items rest b takes end =
    let loop = and_loop b each items rest takes end.clear in
    and_end room (conjunction room items) a rest end.no_and loop.turns loop.enough loop.same

-- ---- conjunction {OR conjunction}

or_first : (room : ℕ) (a : Predicate) (items rest : List Item) → conjunction room items ≡ Ok (a, rest)
    → InLoop (predicate room items) (ors_from (conjunction room)) a rest
unfolding predicate whole_of
or_first room a items rest e = record { turns = suc (length rest); enough = omega arith; same = rw e refl }

or_turn : (room turns : ℕ) (a b : Predicate) (items mid rest : List Item) → eat_word k.Or items ≡ Ok (true, mid) → conjunction room mid ≡ Ok (b, rest)
    → ors_from (conjunction room) (suc turns) a items ≡ ors_from (conjunction room) turns (p.Or a b) rest
unfolding ors_from
or_turn room turns a b items mid rest e f = rw (e, f) refl

or_more : (room : ℕ) (us : List Lexeme) (o : Outcome Predicate) (a b : Predicate) (items rest : List Item) → ReadsConjunction room
    → InLoop o (ors_from (conjunction room)) a items → IsBooleanTerm room us b → Takes items (Word k.Or ∷ us) rest → IsConjunctionEnd rest
    → InLoop o (ors_from (conjunction room)) (p.Or a b) rest
or_more room us o a b items rest each loop n takes end =
    let step = eat_word_step takes end.clear in
    let shorter = takes_shorter step.takes in
    go loop.turns step.behind loop.enough loop.same step.reads step.fewer shorter (each us b step.behind rest n step.takes end)
  where
    go : (turns : ℕ) (mid : List Item) → length items < turns → o ≡ ors_from (conjunction room) turns a items → eat_word k.Or items ≡ Ok (true, mid)
        → length mid < length items → length rest ≤ length mid → conjunction room mid ≡ Ok (b, rest) → InLoop o (ors_from (conjunction room)) (p.Or a b) rest
    go zero mid enough same e fewer shorter f = absurd (omega arith)
    go (suc turns) mid enough same e fewer shorter f =
        record { turns = turns; enough = omega arith; same = same ∙ or_turn room turns a b items mid rest e f }

at_or : (us : List Lexeme) (items rest : List Item) → Takes items (Word k.Or ∷ us) rest → IsConjunctionEnd items
unfolding sees_word same_word
at_or us items rest (next takes) = record { clear = record { passes = refl }; no_and = refl }

or_loop : {room : ℕ} {ls : List Lexeme} {a : Predicate} → IsPredicate room ls a → ReadsConjunction room → (items rest : List Item) → Takes items ls rest
    → IsConjunctionEnd rest → InLoop (predicate room items) (ors_from (conjunction room)) a rest
or_loop {room = room} (g.term {ts = ts} {a = a} n) each items rest takes end = or_first room a items rest (each ts a items rest n takes end)
or_loop {room = room} (g.or {ts = ts} {us = us} {a = a} {b = b} l r) each items rest takes end =
    let split = takes_split ts (Word k.Or ∷ us) items rest takes in
    let loop = or_loop l each items split.mid split.front (at_or us split.mid rest split.back) in
    or_more room us (predicate room items) a b split.mid rest each loop r split.back end

or_end : (room : ℕ) (o : Outcome Predicate) (a : Predicate) (rest : List Item) → sees_word k.Or rest ≡ false
    → (turns : ℕ) → length rest < turns → o ≡ ors_from (conjunction room) turns a rest → o ≡ Ok (a, rest)
unfolding ors_from eat_word
or_end room o a rest none zero enough same = absurd (omega arith)
or_end room o a rest none (suc turns) enough same = same ∙ rw none refl

-- what ends a predicate
pub record IsPredicateEnd (items : List Item) : Type 0 where
  pub both : IsConjunctionEnd items
  pub no_or : sees_word k.Or items ≡ false

abbrev ReadsPredicate : ℕ → Type 0
ReadsPredicate room = ReadsAll (predicate room) (IsPredicate room) IsPredicateEnd

whole_read : (room : ℕ) → ReadsNegation room → ReadsPredicate room
whole_read room each ls a items rest b takes end =
    let loop = or_loop b (conjunction_read room each) items rest takes end.both in
    or_end room (predicate room items) a rest end.no_or loop.turns loop.enough loop.same

-- ---- NOT negation | ( pred ) | test

at_close : (items rest : List Item) → Takes items (Symbol s.Close ∷ []) rest → IsPredicateEnd items
unfolding sees_word
at_close items rest (next takes) = record { both = record { clear = record { passes = refl }; no_and = refl }; no_or = refl }

not_read : (room : ℕ) (ts : List Lexeme) (a : Predicate) (items rest : List Item) → ReadsNegation room → IsBooleanFactor room ts a
    → Takes items (Word k.Not ∷ ts) rest → IsClear rest → negation (suc room) items ≡ Ok (p.Not a, rest)
unfolding negation skip
not_read room ts a items rest each n (next {items = behind} takes) clear =
    rw ((clear_front takes clear).passes, each ts a behind rest n takes clear) refl

open_read : (room at : ℕ) (a : Predicate) (items mid rest : List Item) → predicate room items ≡ Ok (a, mid)
    → expect_sign s.Close mid ≡ Ok (tt, rest) → IsClear items → negation (suc room) (Stands (Symbol s.Open) at ∷ items) ≡ Ok (a, rest)
unfolding negation skip predicate conjunction
open_read room at a items mid rest e f clear = rw (clear.passes, e, f) refl

parens_read : (room : ℕ) (ts : List Lexeme) (a : Predicate) (items rest : List Item) → ReadsNegation room → IsPredicate room ts a
    → Takes items (Symbol s.Open ∷ ts ++ Symbol s.Close ∷ []) rest → IsClear rest → negation (suc room) items ≡ Ok (a, rest)
parens_read room ts a items rest each b (next {at = at} {items = behind} takes) clear =
    let split = takes_split ts (Symbol s.Close ∷ []) behind rest takes in
    let inner = whole_read room each ts a behind split.mid b split.front (at_close split.mid rest split.back) in
    let close = sign_step split.back clear in
    open_read room at a behind split.mid rest inner (close.reads ∙ ap (λ items. Ok (tt, items)) (stays close.takes)) (clear_front takes clear)

no_more : (room : ℕ) → ReadsNegation room → ReadsNegation (suc room)
no_more room each ls a items rest (g.not {ts = ts} {a = b} n) takes clear = not_read room ts b items rest each n takes clear
no_more room each ls a items rest (g.parens {ts = ts} b) takes clear = parens_read room ts a items rest each b takes clear
no_more room each ls a items rest (g.test t) takes clear = no_test (suc room) items rest t takes clear

no_room : ReadsNegation zero
no_room ls a items rest (g.test t) takes clear = no_test zero items rest t takes clear

negation_read : (room : ℕ) → ReadsNegation room
negation_read zero = no_room
negation_read (suc room) = no_more room (negation_read room)

pub predicate_read : (room : ℕ) → ReadsAll (predicate room) (IsPredicate room) IsPredicateEnd
predicate_read room = whole_read room (negation_read room)

-- ---- [WHERE pred]

-- what ends a filter
pub record IsFilterEnd (items : List Item) : Type 0 where
  pub predicate : IsPredicateEnd items
  pub no_where : sees_word k.Where items ≡ false

pub filter_read : {ls : List Lexeme} {f : Option Predicate} (items rest : List Item) → IsFilter ls f → Takes items ls rest → IsFilterEnd rest
    → filter items ≡ Ok (f, rest)
unfolding filter eat_word
filter_read items rest g.all done end = rw end.no_where refl
filter_read items rest (g.where_ {ts = ts} {a = a} q) takes end =
    let step = eat_word_step takes end.predicate.both.clear in
    filter_by step.behind step.reads (predicate_read 64 ts a step.behind rest q step.takes end.predicate)
  where
    filter_by : (mid : List Item) → eat_word k.Where items ≡ Ok (true, mid) → predicate 64 mid ≡ Ok (a, rest) → filter items ≡ Ok (Some a, rest)
    filter_by mid e f = rw (e, f) refl
