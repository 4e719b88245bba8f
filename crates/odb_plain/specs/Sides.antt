-- The two edges of a range at once.
use Rattle.std.specs.Prelude.{Bool, List, map}
use Rattle.odb_values.specs.declared.value.Value.{Value}
use Rattle.odb_values.specs.declared.edge.Edge.{Edge}
use Rattle.odb_model.specs.declared.predicate.Compare.{Compare}
use Rattle.odb_model.specs.Where.{ColumnTest, lies_above, lies_below, low_edge, high_edge, tightest}
use Rattle.odb_plain.specs.declared.edge.Side.{Side}
use Rattle.odb_plain.specs.declared.edge.Side.TheVariants.{Low, High}

-- whether a value lies further inside than another, seen from this side
abbrev pub lies_inside : Side → Value → Value → Bool
lies_inside Low = lies_above
lies_inside High = lies_below

-- the edge on this side that a comparison gives
abbrev pub edge_by : Side → Compare → Value → Edge
edge_by Low = low_edge
edge_by High = high_edge

-- the tightest edge on this side
abbrev pub edge_of : Side → List ColumnTest → Edge
edge_of side tests =
    tightest (lies_inside side) (map (λ test. edge_by side test.op test.value) tests)
