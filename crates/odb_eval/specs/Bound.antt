-- Operands, predicates and expressions whose names are bound to places in key and row, what they give
-- on a row, and when they stand for those of a statement.
use Rattle.std.specs.Prelude.{◌≡◌, ℕ, ℤ, ◌+ℤ◌, neg_ℤ, Bool, true, ◌||◌, List, [], ◌∷◌, map, fold, Option, Some, None, if◌then◌else◌}
use Rattle.std.specs.Option.{option_map_or}
use Rattle.std.specs.List.{list_any}
use Rattle.odb_values.specs.declared.value.Value.{Value}
use Rattle.odb_values.specs.declared.value.Value.TheVariants.{Null}
use Rattle.odb_values.specs.Value.{is_null}
use Rattle.odb_model.specs.declared.predicate.Operand.{Operand}
use Rattle.odb_model.specs.declared.predicate.Operand.TheVariants as operand
use Rattle.odb_model.specs.declared.predicate.Predicate.{Predicate, fold-Predicate}
use Rattle.odb_model.specs.declared.predicate.Predicate.TheOpen.{Predicate-F}
use Rattle.odb_model.specs.declared.statement.Expression.{Expression}
use Rattle.odb_model.specs.declared.statement.Term.{Term}
use Rattle.odb_model.specs.declared.truth.Truth.{Truth}
use Rattle.odb_model.specs.Table.{Table, value_at, column_place, column_value, place_in, places_outside, in_columns}
use Rattle.odb_model.specs.Truth.{compared, operand_value, truth_if, not_of, both_of, either_of, truth_of, is_true, matches}
use Rattle.odb_model.specs.Sums.{number_of, number_value, value_of}
use Rattle.odb_eval.specs.declared.source.Source.{Source}
use Rattle.odb_eval.specs.declared.source.Source.TheVariants.{InKey, InRow, Literal}
use Rattle.odb_eval.specs.declared.filter.Filter.{Filter, fold-Filter}
use Rattle.odb_eval.specs.declared.filter.Filter.TheVariants as filter
use Rattle.odb_eval.specs.declared.filter.Filter.TheOpen.{Filter-F}
use Rattle.odb_eval.specs.declared.expression.BoundTerm.{BoundTerm}
use Rattle.odb_eval.specs.declared.expression.BoundExpression.{BoundExpression}

-- the value of a bound operand, from a key and a row
abbrev pub source_value : List Value → List Value → Source → Value
source_value key row (InKey place) = value_at key place
source_value key row (InRow place) = value_at row place
source_value key row (Literal v) = v

-- the truth of `IS NULL` for a value, or of `IS NOT NULL`
abbrev pub null_truth : Bool → Value → Truth
null_truth negated v =
    if negated then not_of (truth_if (is_null v)) else truth_if (is_null v)

abbrev pub filter_step : List Value → List Value → Filter-F Truth → Truth
filter_step key row (Filter-F.Test op left right) =
    compared op (source_value key row left) (source_value key row right)
filter_step key row (Filter-F.Null source negated) =
    null_truth negated (source_value key row source)
filter_step key row (Filter-F.Not a) = not_of a
filter_step key row (Filter-F.And a b) = both_of a b
filter_step key row (Filter-F.Or a b) = either_of a b

-- whether a bound predicate holds of a key and a row
abbrev pub filter_truth : List Value → List Value → Filter → Truth
filter_truth key row f = fold-Filter Truth (filter_step key row) f

-- a WHERE keeps a row at True; without WHERE each row is kept
abbrev pub keeps : List Value → List Value → Option Filter → Bool
keeps key row None = true
keeps key row (Some f) = is_true (filter_truth key row f)

-- a number that is taken from a sum counts as its opposite
abbrev pub bound_addend : List Value → List Value → BoundTerm → ℤ
bound_addend key row term =
    if term.minus then neg_ℤ (number_of (source_value key row term.source))
    else number_of (source_value key row term.source)

-- the sum of a bound expression's numbers, from left to right
abbrev pub bound_sum : List Value → List Value → BoundExpression → ℤ
bound_sum key row e =
    fold (λ sum term. sum +ℤ bound_addend key row term)
    (number_of (source_value key row e.first)) e.rest

-- some operand is Null
abbrev pub has_null : List Value → List Value → BoundExpression → Bool
has_null key row e =
    is_null (source_value key row e.first)
    || list_any (λ term. is_null (source_value key row term.source)) e.rest

-- the value of a bound expression of several operands; None is an overflow
abbrev pub sum_value : List Value → List Value → BoundExpression → Option Value
sum_value key row e =
    if has_null key row e then Some Null else number_value (bound_sum key row e)

abbrev pub value_by : List Value → List Value → BoundExpression → List BoundTerm → Option Value
value_by key row e [] = Some (source_value key row e.first)
value_by key row e (term ∷ rest) = sum_value key row e

-- the value of a bound expression, from a key and a row; None is an overflow
abbrev pub bound_value : List Value → List Value → BoundExpression → Option Value
bound_value key row e = value_by key row e e.rest

-- a bound operand gives what the column of this name has on each row of the table
abbrev pub IsColumnOf : Table → List ℕ → Source → Type 0
IsColumnOf t name source = (key row : List Value)
    → source_value key row source ≡ column_value t.columns (in_columns t key row) name

-- it gives what the operand gives
abbrev pub IsOperandOf : Table → Operand → Source → Type 0
IsOperandOf t operand source = (key row : List Value)
    → source_value key row source ≡ operand_value t.columns (in_columns t key row) operand

-- a bound predicate is True, False or Unknown where the predicate is
abbrev pub IsFilterOf : Table → Predicate → Filter → Type 0
IsFilterOf t p f = (key row : List Value)
    → filter_truth key row f ≡ truth_of t.columns (in_columns t key row) p

-- a bound WHERE keeps the rows that the WHERE keeps
abbrev pub IsWhereOf : Table → Option Predicate → Option Filter → Type 0
IsWhereOf t p f = (key row : List Value)
    → keeps key row f ≡ matches t.columns p (in_columns t key row)

-- a bound expression has the value that the expression has
abbrev pub IsExpressionOf : Table → Expression → BoundExpression → Type 0
IsExpressionOf t e b = (key row : List Value)
    → bound_value key row b ≡ value_of t.columns (in_columns t key row) e

-- how names are bound

abbrev pub place_source : Table → ℕ → Source
place_source t place =
    option_map_or InKey (place_in t.key place)
    (option_map_or InRow (place_in (places_outside t) place) (Literal Null))

abbrev pub column_source : Table → List ℕ → Source
column_source t name = option_map_or (place_source t) (column_place t.columns name) (Literal Null)

abbrev pub operand_source : Table → Operand → Source
operand_source t (operand.Column name) = column_source t name
operand_source t (operand.Literal v) = Literal v

abbrev pub bound_step : Table → Predicate-F Filter → Filter
bound_step t (Predicate-F.Test op left right) =
    filter.Test op (operand_source t left) (operand_source t right)
bound_step t (Predicate-F.Null name negated) = filter.Null (column_source t name) negated
bound_step t (Predicate-F.Not a) = filter.Not a
bound_step t (Predicate-F.And a b) = filter.And a b
bound_step t (Predicate-F.Or a b) = filter.Or a b

-- the predicate with its names bound
abbrev pub bound_filter : Table → Predicate → Filter
bound_filter t p = fold-Predicate Filter (bound_step t) p

abbrev pub bound_term : Table → Term → BoundTerm
bound_term t term = record { minus = term.minus; source = operand_source t term.operand }

-- the expression with its names bound
abbrev pub bound_expression : Table → Expression → BoundExpression
bound_expression t e =
    record { first = operand_source t e.first; rest = map (bound_term t) e.rest }
