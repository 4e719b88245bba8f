-- Readers of predicates.
use Rattle.std.specs.Prelude.{ℕ, zero, suc, if◌then◌else◌, length, Option, Some, None}
use Rattle.odb_model.specs.declared.keyword.Keyword.TheVariants as k
use Rattle.odb_model.specs.declared.sign.Sign.TheVariants as s
use Rattle.odb_model.specs.declared.predicate.Compare.{Compare}
use Rattle.odb_model.specs.declared.predicate.Compare.TheVariants.{Eq, Ne, Lt, Le, Gt, Ge}
use Rattle.odb_model.specs.declared.predicate.Operand.{Operand}
use Rattle.odb_model.specs.declared.predicate.Operand.TheVariants.{Column, Literal}
use Rattle.odb_model.specs.declared.predicate.Predicate.{Predicate}
use Rattle.odb_model.specs.declared.predicate.Predicate.TheVariants as p
use Rattle.odb_parse.specs.declared.kind.Kind.{Kind}
use Rattle.odb_parse.specs.declared.kind.Kind.TheVariants as kind
use Rattle.odb_parse.specs.Items.{kind_in}
use Rattle.odb_parse.specs.Reading.{Reader, ◌>>=◌, ◌>>◌, ◌<$>◌, pure, refuse, peek, skip, sees_word, eat_word, expect_word, expect_sign}
use Rattle.odb_parse.specs.Sums.{operand}

-- how a sign compares
abbrev pub compares : Kind → Option Compare
compares (kind.Symbol s.Equal) = Some Eq
compares (kind.Symbol s.Unequal) = Some Ne
compares (kind.Symbol s.Less) = Some Lt
compares (kind.Symbol s.AtMost) = Some Le
compares (kind.Symbol s.Greater) = Some Gt
compares (kind.Symbol s.AtLeast) = Some Ge
compares _ = None

-- behind a left side
abbrev pub compared_by : Operand → Option Compare → Reader Predicate
compared_by left (Some op) = skip >> (λ right. p.Test op left right) <$> operand
compared_by left None = refuse

-- IS [NOT] NULL, behind its column
unfoldable pub null_test : Operand → Reader Predicate
null_test (Column name) = do
  skip
  negated ← eat_word k.Not
  expect_word k.Null
  pure (p.Null name negated)
null_test (Literal v) = refuse

abbrev pub tested : Operand → Reader Predicate
tested left items =
    if sees_word k.Is items then null_test left items
    else compared_by left (compares (kind_in items)) items

unfoldable pub single_test : Reader Predicate
single_test = operand >>= tested

-- {AND negation} behind a left side. The number is above that of the turns, so that it is never
-- used up.
unfoldable pub ands_from : Reader Predicate → ℕ → Predicate → Reader Predicate
ands_from item zero left = refuse
ands_from item (suc turns) left = do
  more ← eat_word k.And
  if more then item >>= (λ right. ands_from item turns (p.And left right)) else pure left

-- negation {AND negation}
unfoldable pub conjunction_of : Reader Predicate → Reader Predicate
conjunction_of item = item >>= (λ left items. ands_from item (suc (length items)) left items)

-- {OR conjunction}
unfoldable pub ors_from : Reader Predicate → ℕ → Predicate → Reader Predicate
ors_from item zero left = refuse
ors_from item (suc turns) left = do
  more ← eat_word k.Or
  if more then item >>= (λ right. ors_from item turns (p.Or left right)) else pure left

-- conjunction {OR conjunction}
unfoldable pub whole_of : Reader Predicate → Reader Predicate
whole_of item = item >>= (λ left items. ors_from item (suc (length items)) left items)

abbrev pub negation_by : Reader Predicate → Reader Predicate → Kind → Reader Predicate
negation_by item whole (kind.Word k.Not) = skip >> p.Not <$> item
negation_by item whole (kind.Symbol s.Open) = do
  skip
  inner ← whole
  expect_sign s.Close
  pure inner
negation_by item whole _ = single_test

-- with room for so many NOTs and parentheses inside one another
unfoldable pub negation : ℕ → Reader Predicate
negation zero = single_test
negation (suc room) =
    peek >>= negation_by (negation room) (whole_of (conjunction_of (negation room)))

unfoldable pub conjunction : ℕ → Reader Predicate
conjunction room = conjunction_of (negation room)

unfoldable pub predicate : ℕ → Reader Predicate
predicate room = whole_of (conjunction room)

-- [WHERE pred]
unfoldable pub filter : Reader (Option Predicate)
filter = do
  found ← eat_word k.Where
  if found then Some <$> predicate 64 else pure None
