-- The range of comparisons, edge by edge.
use Rattle.std.proofs.Common.{◌≡◌, ℕ, true, false, ◌==◌, cond, List, ◌∷◌, length, ap, ◌∙◌, Option, slice_get}
use Rattle.std.specs.List.{filter}
use Rattle.odb_values.specs.declared.value.Value.{Value}
use Rattle.odb_values.specs.declared.edge.Edge.{Edge}
use Rattle.odb_values.specs.declared.range.Range.{Range}
use Rattle.odb_model.specs.Table.{Table}
use Rattle.odb_model.specs.Where.{ColumnTest, tighter, prefix_of, tests_at, low_of, high_of, range_by}
use Rattle.odb_plain.specs.declared.edge.Side.{Side}
use Rattle.odb_plain.specs.Sides.{lies_inside, edge_by, edge_of}

-- the edge with one comparison more
pub edge-more : (side : Side) (place : ℕ) (test : ColumnTest) (rest : List ColumnTest) → (test.place == place) ≡ true
    → edge_of side (filter (λ t. t.place == place) (test ∷ rest)) ≡ tighter (lies_inside side) (edge_by side test.op test.value) (edge_of side (filter (λ t. t.place == place) rest))
edge-more side place test rest here =
    ap (λ b. edge_of side (cond b (test ∷ filter (λ t. t.place == place) rest) (filter (λ t. t.place == place) rest))) here

abbrev range_with : ℕ → List Value → Edge → Edge → Range
range_with number prefix low high = record { table = number; prefix = prefix; low = low; high = high }

-- the range of comparisons, from its parts
pub range-is : (t : Table) (tests : List ColumnTest) (number : ℕ) (prefix : List Value) (next : Option ℕ) (low high : Edge) → number ≡ t.number → prefix ≡ prefix_of tests t.key → next ≡ slice_get t.key (length prefix)
    → low ≡ low_of (tests_at tests next) → high ≡ high_of (tests_at tests next) → range_with number prefix low high ≡ range_by t tests
range-is t tests number prefix next low high n p x l h =
    let place : next ≡ slice_get t.key (length (prefix_of tests t.key)) = x ∙ ap (λ values. slice_get t.key (length values)) p in
    ap (λ m. range_with m prefix low high) n
    ∙ ap (λ values. range_with t.number values low high) p
    ∙ ap (λ e. range_with t.number (prefix_of tests t.key) e high) (l ∙ ap (λ o. low_of (tests_at tests o)) place)
    ∙ ap (range_with t.number (prefix_of tests t.key) (low_of (tests_at tests (slice_get t.key (length (prefix_of tests t.key)))))) (h ∙ ap (λ o. high_of (tests_at tests o)) place)

-- a comparison of another column
pub edge-passed : (side : Side) (place : ℕ) (test : ColumnTest) (rest : List ColumnTest) → (test.place == place) ≡ false
    → edge_of side (filter (λ t. t.place == place) (test ∷ rest)) ≡ edge_of side (filter (λ t. t.place == place) rest)
edge-passed side place test rest here =
    ap (λ b. edge_of side (cond b (test ∷ filter (λ t. t.place == place) rest) (filter (λ t. t.place == place) rest))) here
