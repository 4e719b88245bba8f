-- When a predicate is True, False or Unknown on a row, by the three-valued logic of ISO/IEC 9075.
use Rattle.std.specs.Prelude.{Bool, true, false, not, List, Option, Some, None, if◌then◌else◌}
use Rattle.std.specs.declared.cmp.Ordering.{Ordering}
use Rattle.std.specs.Ordering.{is_eq, is_lt, is_le, is_gt, is_ge}
use Rattle.odb_values.specs.declared.value.Value.{Value}
use Rattle.odb_values.specs.Value.{value_cmp, is_null}
use Rattle.odb_model.specs.declared.predicate.Compare.{Compare}
use Rattle.odb_model.specs.declared.predicate.Compare.TheVariants.{Eq, Ne, Lt, Le, Gt, Ge}
use Rattle.odb_model.specs.declared.predicate.Operand.{Operand}
use Rattle.odb_model.specs.declared.predicate.Operand.TheVariants.{Column as ColumnOf, Literal}
use Rattle.odb_model.specs.declared.truth.Truth.{Truth}
use Rattle.odb_model.specs.declared.truth.Truth.TheVariants.{True, False, Unknown}
use Rattle.odb_model.specs.declared.predicate.Predicate.{Predicate, fold-Predicate}
use Rattle.odb_model.specs.declared.predicate.Predicate.TheOpen.{Predicate-F}
use Rattle.odb_model.specs.Table.{Column, column_value}

abbrev pub truth_if : Bool → Truth
truth_if true = True
truth_if false = False

-- whether a comparison holds of two values in this order
abbrev pub holds : Compare → Ordering → Bool
holds Eq order = is_eq order
holds Ne order = not (is_eq order)
holds Lt order = is_lt order
holds Le order = is_le order
holds Gt order = is_gt order
holds Ge order = is_ge order

-- a comparison with Null is Unknown
abbrev pub compared : Compare → Value → Value → Truth
compared op a b =
    if is_null a then Unknown
    else if is_null b then Unknown
    else truth_if (holds op (value_cmp a b))

-- the value of an operand on a row, whose values are given in column order
abbrev pub operand_value : List Column → List Value → Operand → Value
operand_value columns values (ColumnOf name) = column_value columns values name
operand_value columns values (Literal v) = v

abbrev pub not_of : Truth → Truth
not_of True = False
not_of False = True
not_of Unknown = Unknown

-- False where a side is False, else Unknown where a side is Unknown
abbrev pub both_of : Truth → Truth → Truth
both_of False b = False
both_of True b = b
both_of Unknown False = False
both_of Unknown b = Unknown

-- True where a side is True, else Unknown where a side is Unknown
abbrev pub either_of : Truth → Truth → Truth
either_of True b = True
either_of False b = b
either_of Unknown True = True
either_of Unknown b = Unknown

abbrev pub truth_step : List Column → List Value → Predicate-F Truth → Truth
truth_step columns values (Predicate-F.Test op left right) =
    compared op (operand_value columns values left) (operand_value columns values right)
truth_step columns values (Predicate-F.Null name negated) =
    if negated then not_of (truth_if (is_null (column_value columns values name)))
    else truth_if (is_null (column_value columns values name))
truth_step columns values (Predicate-F.Not a) = not_of a
truth_step columns values (Predicate-F.And a b) = both_of a b
truth_step columns values (Predicate-F.Or a b) = either_of a b

-- whether a predicate holds of a row, whose values are given in column order
abbrev pub truth_of : List Column → List Value → Predicate → Truth
truth_of columns values filter = fold-Predicate Truth (truth_step columns values) filter

abbrev pub is_true : Truth → Bool
is_true True = true
is_true False = false
is_true Unknown = false

-- WHERE has a row at True; without WHERE every row
abbrev pub matches : List Column → Option Predicate → List Value → Bool
matches columns None values = true
matches columns (Some filter) values = is_true (truth_of columns values filter)
