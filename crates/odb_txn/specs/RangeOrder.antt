-- An order of ranges, by which one that was read before is found. It tells nothing of their keys.
use Rattle.std.specs.declared.cmp.Ordering.{Ordering}
use Rattle.std.specs.declared.cmp.Ordering.TheVariants.{Less, Equal, Greater}
use Rattle.std.specs.Ordering.{nat_cmp, ordering_then}
use Rattle.odb_values.specs.declared.edge.Edge.{Edge}
use Rattle.odb_values.specs.declared.edge.Edge.TheVariants.{Free, Closed, Beyond}
use Rattle.odb_values.specs.declared.range.Range.{Range}
use Rattle.odb_values.specs.Value.{value_cmp, values_cmp}

-- Free before Closed before Beyond, and those of one kind by their bounds
abbrev pub edge_cmp : Edge → Edge → Ordering
edge_cmp Free Free = Equal
edge_cmp Free (Closed b) = Less
edge_cmp Free (Beyond b) = Less
edge_cmp (Closed a) Free = Greater
edge_cmp (Closed a) (Closed b) = value_cmp a b
edge_cmp (Closed a) (Beyond b) = Less
edge_cmp (Beyond a) Free = Greater
edge_cmp (Beyond a) (Closed b) = Greater
edge_cmp (Beyond a) (Beyond b) = value_cmp a b

-- by table, then by prefix, then by the low edge, then by the high edge
abbrev pub range_cmp : Range → Range → Ordering
range_cmp a b =
    ordering_then (nat_cmp a.table b.table)
    (ordering_then (values_cmp a.prefix b.prefix)
    (ordering_then (edge_cmp a.low b.low) (edge_cmp a.high b.high)))
