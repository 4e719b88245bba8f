-- Where the search for the next key of a range begins.
use Rattle.std.specs.Prelude.{ℕ, List, [], ◌∷◌, ◌++◌, Option, None, Some, if◌then◌else◌}
use Rattle.std.specs.Ordering.{is_lt}
use Rattle.std.specs.declared.ops.Bound.{Bound}
use Rattle.std.specs.declared.ops.Bound.TheVariants.{Included, Excluded}
use Rattle.odb_values.specs.declared.value.Value.{Value}
use Rattle.odb_values.specs.declared.edge.Edge.{Edge}
use Rattle.odb_values.specs.declared.edge.Edge.TheVariants.{Free, Closed, Beyond}
use Rattle.odb_values.specs.declared.range.Range.{Range}
use Rattle.odb_rowsource.specs.Stand.{is_free, stand}
use Rattle.odb_keytable.specs.declared.spot.Spot.{Spot}
use Rattle.odb_keytable.specs.declared.spot.Spot.TheVariants.{At, Start, Past}

-- the bound below the keys of a table that start with the prefix and pass the low edge; the prefix
-- itself is a key of the range where neither edge bounds anything
abbrev pub begin_at : ℕ → List Value → Edge → Edge → Bound Spot
begin_at table prefix Free high =
    if is_free high then Included (Start table prefix) else Excluded (Start table prefix)
begin_at table prefix (Closed v) high = Included (Start table (prefix ++ v ∷ []))
begin_at table prefix (Beyond v) high = Included (Past table (prefix ++ v ∷ []))

abbrev pub begin_of : Range → Bound Spot
begin_of range = begin_at range.table range.prefix range.low range.high

-- behind the key `after`, but not before the range
abbrev pub begin_from : Range → Option (List Value) → Bound Spot
begin_from range None = begin_of range
begin_from range (Some last) =
    if is_lt (stand range (record { table = range.table; key = last }))
    then begin_of range else Excluded (At range.table last)
