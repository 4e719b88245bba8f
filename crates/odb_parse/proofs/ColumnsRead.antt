-- The columns of a table are read.
use Rattle.std.proofs.Common.{◌≡◌, ℕ, zero, suc, ◌<◌, ◌≤◌, Bool, true, false, List, [], ◌∷◌, ◌++◌, length, Option, Ok, refl, ap, subst, ◌∙◌, append_assoc, arith}
use Rattle.std.proofs.lemmas.Bool.{le-leb}
use Rattle.odb_model.specs.declared.keyword.Keyword.TheVariants as k
use Rattle.odb_model.specs.declared.sign.Sign.TheVariants as s
use Rattle.odb_model.specs.declared.statement.ColumnText.{ColumnText}
use Rattle.odb_model.specs.Lexeme.{Lexeme, Word, Symbol}
use Rattle.odb_model.specs.Grammar.{IsListed, IsKind, IsMust, IsColumn}
use Rattle.odb_model.specs.Grammar as g
use Rattle.odb_parse.specs.Codes.{Item}
use Rattle.odb_parse.specs.Reading.{skip, number, same_word, same_sign, sees_word, sees_sign, eat_word, expect_word, expect_sign}
use Rattle.odb_parse.specs.Sums.{greatest}
use Rattle.odb_parse.specs.Statements.{column_length, not_null, column, columns, columns_from}
use Rattle.odb_parse.proofs.Takes.{Takes, done, next, takes_split, takes_shorter}
use Rattle.odb_parse.proofs.Following.{IsClear, clear_front, Step, eat_word_step, sign_step, name_step}

kind_read : {ls : List Lexeme} {most : Option ℕ} (items rest : List Item) → IsKind ls most → Takes items ls rest → IsClear rest
    → column_length items ≡ Ok (most, rest)
unfolding column_length sees_word same_word expect_word expect_sign sees_sign same_sign skip number
kind_read items rest g.integer (next done) clear = rw clear.passes refl
kind_read items rest (g.varchar {n = n} small) (next (next (next (next done)))) clear =
    let fits : n ≤ greatest = omega arith in
    rw (le-leb n greatest fits, clear.passes) refl

must_read : {ls : List Lexeme} {must : Bool} (items rest : List Item) → IsMust ls must → Takes items ls rest → IsClear rest
    → sees_word k.Not rest ≡ false → not_null items ≡ Ok (must, rest)
unfolding not_null eat_word sees_word same_word expect_word skip
must_read items rest g.may done clear none = rw none refl
must_read items rest g.must (next (next done)) clear none = rw clear.passes refl

column_read : {ls : List Lexeme} {c : ColumnText} (items rest : List Item) → IsColumn ls c → Takes items ls rest → IsClear rest
    → sees_word k.Not rest ≡ false → column items ≡ Ok (c, rest)
unfolding column
column_read items rest (g.column {ts = ts} {us = us} free kind needs) takes clear none =
    let called = name_step takes clear in
    let split = takes_split ts us called.behind rest called.takes in
    rw (called.reads, kind_read called.behind split.mid kind split.front (clear_front split.back clear), must_read split.mid rest needs split.back clear none)
    refl

-- no column begins with PRIMARY
no_primary : {ls : List Lexeme} {cs : List ColumnText} (us : List Lexeme) (items rest : List Item) → IsListed IsColumn ls cs
    → Takes items (ls ++ us) rest → sees_word k.Primary items ≡ false
unfolding sees_word
no_primary us items rest (g.last (g.column free kind needs)) (next takes) = refl
no_primary us items rest (g.more (g.column free kind needs) others) (next takes) = refl

at_comma : (us : List Lexeme) (items rest : List Item) → Takes items (Symbol s.Comma ∷ us) rest → sees_word k.Not items ≡ false
unfolding sees_word
at_comma us items rest (next takes) = refl

-- a column and the comma behind it
record OneColumn (c : ColumnText) (items : List Item) (us : List Lexeme) (rest : List Item) : Type 0 where
  pub comma : List Item
  pub reads : column items ≡ Ok (c, comma)
  pub step : Step (expect_sign s.Comma) tt comma us rest
  pub within : length comma ≤ length items

one_column : {ts : List Lexeme} {c : ColumnText} (us : List Lexeme) (items rest : List Item) → IsColumn ts c
    → Takes items (ts ++ Symbol s.Comma ∷ us) rest → IsClear rest → OneColumn c items us rest
one_column {ts = ts} us items rest c takes clear =
    let split = takes_split ts (Symbol s.Comma ∷ us) items rest takes in
    record {
      comma = split.mid;
      reads = column_read items split.mid c split.front (clear_front split.back clear) (at_comma us split.mid rest split.back);
      step = sign_step split.back clear;
      within = takes_shorter split.front;
    }

last_column : (turns : ℕ) (found : List ColumnText) (c : ColumnText) (items comma primary rest : List Item) → column items ≡ Ok (c, comma)
    → expect_sign s.Comma comma ≡ Ok (tt, primary) → eat_word k.Primary primary ≡ Ok (true, rest)
    → columns_from (suc turns) found items ≡ Ok (found ++ c ∷ [], rest)
unfolding columns_from
last_column turns found c items comma primary rest e f h = rw (e, f, h) refl

next_column : (turns : ℕ) (found : List ColumnText) (c : ColumnText) (items comma rest : List Item) → column items ≡ Ok (c, comma)
    → expect_sign s.Comma comma ≡ Ok (tt, rest) → sees_word k.Primary rest ≡ false
    → columns_from (suc turns) found items ≡ columns_from turns (found ++ c ∷ []) rest
unfolding columns_from eat_word
next_column turns found c items comma rest e f h = rw (e, f, h) refl

-- what stands behind the columns and `, PRIMARY`
record PastColumns (turns : ℕ) (found cs : List ColumnText) (items : List Item) (us : List Lexeme) (rest : List Item) : Type 0 where
  pub behind : List Item
  pub reads : columns_from turns found items ≡ Ok (found ++ cs, behind)
  pub takes : Takes behind us rest

abbrev primary_and : List Lexeme → List Lexeme
primary_and us = Symbol s.Comma ∷ Word k.Primary ∷ us

columns_all : (turns : ℕ) {ls : List Lexeme} {cs : List ColumnText} → IsListed IsColumn ls cs → (found : List ColumnText) (us : List Lexeme)
    (items rest : List Item) → Takes items (ls ++ primary_and us) rest → IsClear rest → length items < turns
    → PastColumns turns found cs items us rest
columns_all zero c found us items rest takes clear enough = absurd (omega arith)
columns_all (suc turns) (g.last {x = c} one) found us items rest takes clear enough =
    let first = one_column (Word k.Primary ∷ us) items rest one takes clear in
    let primary = eat_word_step first.step.takes clear in
    record {
      behind = primary.behind;
      reads = last_column turns found c items first.comma first.step.behind primary.behind first.reads first.step.reads primary.reads;
      takes = primary.takes;
    }
columns_all (suc turns) (g.more {ts = ts} {us = vs} {x = c} {xs = cs} one others) found us items rest takes clear enough =
    let regrouped = subst (λ ls. Takes items ls rest) (append_assoc ts (Symbol s.Comma ∷ vs) (primary_and us)) takes in
    let first = one_column (vs ++ primary_and us) items rest one regrouped clear in
    let within = first.within in
    let fewer = first.step.fewer in
    let none = no_primary (primary_and us) first.step.behind rest others first.step.takes in
    let all = columns_all turns others (found ++ c ∷ []) us first.step.behind rest first.step.takes clear (omega arith) in
    record {
      behind = all.behind;
      reads = next_column turns found c items first.comma first.step.behind first.reads first.step.reads none ∙ all.reads
          ∙ ap (λ found. Ok (found, all.behind)) (append_assoc found (c ∷ []) cs);
      takes = all.takes;
    }

-- the columns, and PRIMARY behind them
pub record ColumnsRead (cs : List ColumnText) (items : List Item) (us : List Lexeme) (rest : List Item) : Type 0 where
  pub behind : List Item
  pub reads : columns items ≡ Ok (cs, behind)
  pub takes : Takes behind us rest

pub columns_read : {ls : List Lexeme} {cs : List ColumnText} (us : List Lexeme) (items rest : List Item) → IsListed IsColumn ls cs
    → Takes items (ls ++ Symbol s.Comma ∷ Word k.Primary ∷ us) rest → IsClear rest → ColumnsRead cs items us rest
unfolding columns
columns_read us items rest c takes clear =
    let all = columns_all (suc (length items)) c [] us items rest takes clear (omega arith) in
    record { behind = all.behind; reads = all.reads; takes = all.takes }
