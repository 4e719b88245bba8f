-- How keys stand to a range. In the order of keys a range has no gap, so each key is before all of
-- it, inside, or behind all of it.
use Rattle.std.specs.Prelude.{ℕ, Bool, true, false, ◌&&◌, not, List, [], ◌∷◌, Option, None, Some, if◌then◌else◌}
use Rattle.std.specs.declared.cmp.Ordering.{Ordering}
use Rattle.std.specs.declared.cmp.Ordering.TheVariants.{Less, Equal, Greater}
use Rattle.std.specs.Ordering.{nat_cmp, ordering_then, is_lt, is_le}
use Rattle.odb_values.specs.declared.value.Value.{Value}
use Rattle.odb_values.specs.declared.edge.Edge.{Edge}
use Rattle.odb_values.specs.declared.edge.Edge.TheVariants.{Free, Closed, Beyond}
use Rattle.odb_values.specs.declared.range.Range.{Range}
use Rattle.odb_values.specs.Value.{value_cmp}
use Rattle.odb_model.specs.declared.table_key.TableKey.{TableKey}
use Rattle.odb_model.specs.State.{table_key_cmp}

abbrev pub is_free : Edge → Bool
is_free Free = true
is_free (Closed v) = false
is_free (Beyond v) = false

-- whether a value is at or above a low edge
abbrev pub reaches : Edge → Value → Bool
reaches Free x = true
reaches (Closed v) x = is_le (value_cmp v x)
reaches (Beyond v) x = is_lt (value_cmp v x)

-- whether a value is at or below a high edge
abbrev pub stays_under : Edge → Value → Bool
stays_under Free x = true
stays_under (Closed v) x = is_le (value_cmp x v)
stays_under (Beyond v) x = is_lt (value_cmp x v)

-- of the values behind the prefix: with none of them an edge has nothing to bound, and the key
-- comes before those that have one
abbrev pub rest_stand : Edge → Edge → List Value → Ordering
rest_stand low high [] = if is_free low && is_free high then Equal else Less
rest_stand low high (x ∷ rest) =
    if reaches low x then (if stays_under high x then Equal else Greater) else Less

-- of the values of a key
abbrev pub key_stand : List Value → Edge → Edge → List Value → Ordering
key_stand [] low high key = rest_stand low high key
key_stand (p ∷ prefix) low high [] = Less
key_stand (p ∷ prefix) low high (x ∷ key) =
    ordering_then (value_cmp x p) (key_stand prefix low high key)

-- Less before the range, Equal inside, Greater behind
abbrev pub stand : Range → TableKey → Ordering
stand range at =
    ordering_then (nat_cmp at.table range.table)
    (key_stand range.prefix range.low range.high at.key)

-- whether a table key comes behind a key of a table; where none is given each does
abbrev pub is_behind : ℕ → Option (List Value) → TableKey → Bool
is_behind table None at = true
is_behind table (Some last) at = is_lt (table_key_cmp (record { table = table; key = last }) at)

-- whether a table key is neither before the range nor at or before the key `after` of its table:
-- the first such one is the next of the range, or nothing is left of it
abbrev pub is_from : Range → Option (List Value) → TableKey → Bool
is_from range after at = not (is_lt (stand range at)) && is_behind range.table after at
