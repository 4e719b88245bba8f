-- Which keys are in a range.
use Rattle.std.specs.Prelude.{ℕ, Bool, true, false, ◌&&◌, ◌==◌, List, [], ◌∷◌, length, drop}
use Rattle.std.specs.List.{starts_with}
use Rattle.std.specs.Ordering.{is_lt, is_le, eq_by_cmp}
use Rattle.odb_values.specs.declared.value.Value.{Value}
use Rattle.odb_values.specs.declared.edge.Edge.{Edge}
use Rattle.odb_values.specs.declared.edge.Edge.TheVariants.{Free, Closed, Beyond}
use Rattle.odb_values.specs.declared.range.Range.{Range}
use Rattle.odb_values.specs.Value.{value_cmp}

-- whether a first value exists and lies at or above the edge (Closed) or above it (Beyond); Free
-- asks nothing
abbrev pub passes_low : Edge → List Value → Bool
passes_low Free rest = true
passes_low (Closed v) [] = false
passes_low (Closed v) (x ∷ rest) = is_le (value_cmp v x)
passes_low (Beyond v) [] = false
passes_low (Beyond v) (x ∷ rest) = is_lt (value_cmp v x)

-- whether a first value exists and lies at or below the edge (Closed) or below it (Beyond); Free
-- asks nothing
abbrev pub passes_high : Edge → List Value → Bool
passes_high Free rest = true
passes_high (Closed v) [] = false
passes_high (Closed v) (x ∷ rest) = is_le (value_cmp x v)
passes_high (Beyond v) [] = false
passes_high (Beyond v) (x ∷ rest) = is_lt (value_cmp x v)

-- whether a key starts with the prefix, and what follows it passes both edges
abbrev pub is_inside : List Value → Edge → Edge → List Value → Bool
is_inside prefix low high key =
    let rest = drop (length prefix) key in
    starts_with (eq_by_cmp value_cmp) key prefix && passes_low low rest && passes_high high rest

-- whether a key of a table is in a range: the table is the range's, and the key is inside it
abbrev pub in_range : Range → ℕ → List Value → Bool
in_range range table key = (range.table == table) && is_inside range.prefix range.low range.high key
