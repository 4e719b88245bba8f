-- The two edges of a range at once.
use Rattle.std.specs.Prelude.{Bool, true, false, not, List}
use Rattle.odb_values.specs.declared.value.Value.{Value}
use Rattle.odb_values.specs.declared.edge.Edge.{Edge}
use Rattle.odb_values.specs.declared.edge.Edge.TheVariants.{Free, Closed, Beyond}
use Rattle.odb_model.specs.declared.predicate.Compare.{Compare}
use Rattle.odb_model.specs.Where.{ColumnTest, lies_above, lies_below, low_edge, high_edge, low_of, high_of}
use Rattle.odb_plan.specs.declared.edge.Side.{Side}
use Rattle.odb_plan.specs.declared.edge.Side.TheVariants.{Low, High}

-- whether a value lies further inside than another, seen from this side
abbrev pub lies_inside : Side → Value → Value → Bool
lies_inside Low = lies_above
lies_inside High = lies_below

-- the edge on this side that a comparison gives
abbrev pub edge_by : Side → Compare → Value → Edge
edge_by Low = low_edge
edge_by High = high_edge

-- the tightest edge on this side
abbrev pub edge_of : Side → List ColumnTest → Edge
edge_of Low = low_of
edge_of High = high_of

-- whether the second of two edges is the tighter one
abbrev pub is_second : (Value → Value → Bool) → Edge → Edge → Bool
is_second inside Free e = true
is_second inside (Closed a) Free = false
is_second inside (Beyond a) Free = false
is_second inside (Closed a) (Closed b) = inside b a
is_second inside (Closed a) (Beyond b) = not (inside a b)
is_second inside (Beyond a) (Closed b) = inside b a
is_second inside (Beyond a) (Beyond b) = inside b a
