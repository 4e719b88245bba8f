-- Spots in the order of keys: a row's place, or an end of the keys that start with some values.
use Rattle.std.specs.Prelude.{ℕ, Bool, true, false, List, [], ◌∷◌, if◌then◌else◌}
use Rattle.std.specs.declared.cmp.Ordering.{Ordering}
use Rattle.std.specs.declared.cmp.Ordering.TheVariants.{Less, Greater}
use Rattle.std.specs.Ordering.{nat_cmp, bool_cmp, ordering_then}
use Rattle.odb_values.specs.declared.value.Value.{Value}
use Rattle.odb_values.specs.Value.{value_cmp}
use Rattle.odb_model.specs.declared.table_key.TableKey.{TableKey}
use Rattle.odb_keytable.specs.declared.spot.Spot.{Spot}
use Rattle.odb_keytable.specs.declared.spot.Spot.TheVariants.{At, Start, Past}

abbrev pub table_of : Spot → ℕ
table_of (At table key) = table
table_of (Start table values) = table
table_of (Past table values) = table

abbrev pub values_of : Spot → List Value
values_of (At table key) = key
values_of (Start table values) = values
values_of (Past table values) = values

-- whether the spot is behind all keys that start with its values
abbrev pub is_past : Spot → Bool
is_past (At table key) = false
is_past (Start table values) = false
is_past (Past table values) = true

-- whether the spot is a row's place
abbrev pub is_row : Spot → Bool
is_row (At table key) = true
is_row (Start table values) = false
is_row (Past table values) = false

-- the place of a row
abbrev pub spot_at : TableKey → Spot
spot_at at = At at.table at.key

-- the table key of a row's place
abbrev pub table_key_at : Spot → TableKey
table_key_at spot = record { table = table_of spot; key = values_of spot }

-- value by value; a spot that is past its values is behind all that go on
abbrev pub marked_cmp : Bool → Bool → List Value → List Value → Ordering
marked_cmp a b [] [] = bool_cmp a b
marked_cmp a b [] (y ∷ ys) = if a then Greater else Less
marked_cmp a b (x ∷ xs) [] = if b then Less else Greater
marked_cmp a b (x ∷ xs) (y ∷ ys) = ordering_then (value_cmp x y) (marked_cmp a b xs ys)

-- by table, then by value
abbrev pub spot_cmp : Spot → Spot → Ordering
spot_cmp a b =
    ordering_then (nat_cmp (table_of a) (table_of b))
    (marked_cmp (is_past a) (is_past b) (values_of a) (values_of b))
