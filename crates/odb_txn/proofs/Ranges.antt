-- The order of ranges is total, and only equal ranges tie.
use Rattle.std.proofs.Common.{◌≡◌, ℕ, List, refl, ap, subst}
use Rattle.std.specs.declared.cmp.Ordering.{Ordering}
use Rattle.std.specs.Ordering.{nat_cmp, on, then_cmp, ordering_then}
use Rattle.std.specs.Cmp.{IsTotalOrder}
use Rattle.std.specs.FinMap.{IsAntisymmetric, nat_cmp-IsAntisymmetric}
use Rattle.std.proofs.lemmas.Cmp.{nat_cmp_total, on_total, then_total}
use Rattle.std.proofs.lemmas.Map.Lookups.{exact_pairs}
use Rattle.odb_values.specs.declared.value.Value.{Value}
use Rattle.odb_values.specs.declared.value.Value.TheVariants.{Null}
use Rattle.odb_values.specs.declared.edge.Edge.{Edge}
use Rattle.odb_values.specs.declared.edge.Edge.TheVariants.{Free, Closed, Beyond}
use Rattle.odb_values.specs.declared.range.Range.{Range}
use Rattle.odb_values.specs.Value.{value_cmp, values_cmp}
use Rattle.odb_values.specs.ValueOrder.{value_cmp_total, value_cmp_exact, values_cmp_total, values_cmp_exact}
use Rattle.odb_txn.specs.RangeOrder.{edge_cmp, range_cmp}

-- the kinds of edges in their order
abbrev kind_of : Edge → ℕ
kind_of Free = 0
kind_of (Closed v) = 1
kind_of (Beyond v) = 2

-- the bound of an edge, where it has one
abbrev bound_of : Edge → Value
bound_of Free = Null
bound_of (Closed v) = v
bound_of (Beyond v) = v

-- the order of edges again, by two parts that each edge has
abbrev by_parts : Edge → Edge → Ordering
by_parts = then_cmp (on kind_of nat_cmp) (on bound_of value_cmp)

by_parts_total : IsTotalOrder by_parts
by_parts_total = then_total (on_total kind_of nat_cmp_total) (on_total bound_of value_cmp_total)

same_by_parts : (a b : Edge) → by_parts a b ≡ edge_cmp a b
same_by_parts Free Free = refl
same_by_parts Free (Closed b) = refl
same_by_parts Free (Beyond b) = refl
same_by_parts (Closed a) Free = refl
same_by_parts (Closed a) (Closed b) = refl
same_by_parts (Closed a) (Beyond b) = refl
same_by_parts (Beyond a) Free = refl
same_by_parts (Beyond a) (Closed b) = refl
same_by_parts (Beyond a) (Beyond b) = refl

same_order : by_parts ≡ edge_cmp
same_order = λ i a b. same_by_parts a b i

pub edge_cmp_total : IsTotalOrder edge_cmp
edge_cmp_total = subst (λ (R : Edge → Edge → Ordering). IsTotalOrder R) same_order by_parts_total

-- two edges that tie are one
pub edge_cmp_exact : IsAntisymmetric edge_cmp
edge_cmp_exact Free Free e = refl
edge_cmp_exact Free (Closed b) e = cc
edge_cmp_exact Free (Beyond b) e = cc
edge_cmp_exact (Closed a) Free e = cc
edge_cmp_exact (Closed a) (Closed b) e = ap Closed (value_cmp_exact a b e)
edge_cmp_exact (Closed a) (Beyond b) e = cc
edge_cmp_exact (Beyond a) Free e = cc
edge_cmp_exact (Beyond a) (Closed b) e = cc
edge_cmp_exact (Beyond a) (Beyond b) e = ap Beyond (value_cmp_exact a b e)

pub range_cmp_total : IsTotalOrder range_cmp
range_cmp_total =
    then_total (on_total (λ r. r.table) nat_cmp_total)
    (then_total (on_total (λ r. r.prefix) values_cmp_total)
    (then_total (on_total (λ r. r.low) edge_cmp_total) (on_total (λ r. r.high) edge_cmp_total)))

abbrev Edges : Type 0
Edges = Edge × Edge

abbrev Inside : Type 0
Inside = List Value × Edges

abbrev edges_cmp : Edges → Edges → Ordering
edges_cmp p q = ordering_then (edge_cmp p.0 q.0) (edge_cmp p.1 q.1)

abbrev inside_cmp : Inside → Inside → Ordering
inside_cmp p q = ordering_then (values_cmp p.0 q.0) (edges_cmp p.1 q.1)

abbrev of_parts : ℕ × Inside → Range
of_parts p = record { table = p.0; prefix = p.1.0; low = p.1.1.0; high = p.1.1.1 }

-- two ranges that tie are one
pub range_cmp_exact : IsAntisymmetric range_cmp
range_cmp_exact a b e =
    ap of_parts
    (exact_pairs nat_cmp inside_cmp nat_cmp-IsAntisymmetric
    (exact_pairs values_cmp edges_cmp values_cmp_exact (exact_pairs edge_cmp edge_cmp edge_cmp_exact edge_cmp_exact))
    (a.table, (a.prefix, (a.low, a.high))) (b.table, (b.prefix, (b.low, b.high))) e)
