-- The values of expressions, and sums. A sum is of numbers without bound; it may be stored or told
-- only where it is one of 64 bits.
use Rattle.std.specs.Prelude.{ℤ, pos, negsuc, ◌+ℤ◌, neg_ℤ, int_le, Bool, ◌&&◌, not, List, [], ◌∷◌, map, Option, Some, None, if◌then◌else◌}
use Rattle.std.specs.List.{list_any, list_all}
use Rattle.odb_values.specs.declared.value.Value.{Value}
use Rattle.odb_values.specs.declared.value.Value.TheVariants.{Null, Int}
use Rattle.odb_values.specs.Value.{is_null}
use Rattle.odb_model.specs.declared.statement.Term.{Term}
use Rattle.odb_model.specs.declared.statement.Expression.{Expression}
use Rattle.odb_model.specs.Table.{Column}
use Rattle.odb_model.specs.Truth.{operand_value}
use Rattle.odb_model.specs.Binding.{operands, is_sum}

-- the number of a value. Null adds nothing, and a text is refused before
abbrev pub number_of : Value → ℤ
number_of (Int n) = n
number_of other = pos 0

abbrev pub int_sum : List ℤ → ℤ
int_sum [] = pos 0
int_sum (n ∷ ns) = n +ℤ int_sum ns

-- from -9223372036854775808 to 9223372036854775807
abbrev pub is_i64 : ℤ → Bool
is_i64 n = int_le (negsuc 9223372036854775807) n && int_le n (pos 9223372036854775807)

-- the value of a number of 64 bits; None is an overflow
abbrev pub number_value : ℤ → Option Value
number_value n = if is_i64 n then Some (Int n) else None

-- the values of an expression's operands on a row, whose values are given in column order
abbrev pub operand_values : List Column → List Value → Expression → List Value
operand_values columns values e = map (operand_value columns values) (operands e)

-- a number that is taken from a sum counts as its opposite
abbrev pub addend : List Column → List Value → Term → ℤ
addend columns values term =
    if term.minus then neg_ℤ (number_of (operand_value columns values term.operand))
    else number_of (operand_value columns values term.operand)

abbrev pub sum_of : List Column → List Value → Expression → ℤ
sum_of columns values e =
    number_of (operand_value columns values e.first) +ℤ int_sum (map (addend columns values) e.rest)

-- An expression of one operand is its value. A longer one is Null where an operand is, else the sum;
-- None is an overflow
abbrev pub value_of : List Column → List Value → Expression → Option Value
value_of columns values e =
    if not (is_sum e) then Some (operand_value columns values e.first)
    else if list_any is_null (operand_values columns values e) then Some Null
    else number_value (sum_of columns values e)

-- the sum of the values that aren't Null, or Null where there is none; None is an overflow
abbrev pub total_of : List Value → Option Value
total_of values =
    if list_all is_null values then Some Null else number_value (int_sum (map number_of values))
