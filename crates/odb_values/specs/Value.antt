-- The width and the order of values.
use Rattle.std.specs.Prelude.{ℕ, ◌+◌, List, length, Bool, true, false}
use Rattle.std.specs.declared.cmp.Ordering.{Ordering}
use Rattle.std.specs.declared.cmp.Ordering.TheVariants.{Less, Equal, Greater}
use Rattle.std.specs.Ordering.{nat_cmp, int_cmp}
use Rattle.std.specs.Cmp.Lexicographic.{slice_cmp}
use Rattle.odb_values.specs.declared.value.Value.{Value}
use Rattle.odb_values.specs.declared.value.Value.TheVariants.{Null, Int, Text}

-- the bytes of a value's image: a byte for its kind, then 8 of a number, or 2 of a length and the
-- text
abbrev pub width_of : Value → ℕ
width_of Null = 1
width_of (Int n) = 9
width_of (Text t) = 3 + length t

-- whether a value is Null
abbrev pub is_null : Value → Bool
is_null Null = true
is_null (Int n) = false
is_null (Text t) = false

-- the order of values: Null before Int before Text, Int by number, Text by bytes
abbrev pub value_cmp : Value → Value → Ordering
value_cmp Null Null = Equal
value_cmp Null (Int b) = Less
value_cmp Null (Text b) = Less
value_cmp (Int a) Null = Greater
value_cmp (Int a) (Int b) = int_cmp a b
value_cmp (Int a) (Text b) = Less
value_cmp (Text a) Null = Greater
value_cmp (Text a) (Int b) = Greater
value_cmp (Text a) (Text b) = slice_cmp nat_cmp a b

-- the order of keys: column by column, a proper prefix first
abbrev pub values_cmp : List Value → List Value → Ordering
values_cmp = slice_cmp value_cmp
