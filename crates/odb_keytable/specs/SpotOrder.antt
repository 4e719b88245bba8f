-- The order of spots is total.
use Rattle.std.proofs.Common.{◌≡◌, ℕ, Bool, true, false, List, [], ◌∷◌, refl, ap, subst}
use Rattle.std.specs.declared.cmp.Ordering.{Ordering}
use Rattle.std.specs.Ordering.{nat_cmp, on, then_cmp, ordering_then}
use Rattle.std.specs.Cmp.{IsTotalOrder}
use Rattle.std.specs.Cmp.Lexicographic.{slice_cmp}
use Rattle.std.proofs.lemmas.Cmp.{nat_cmp_total, lists_total, on_total, then_total}
use Rattle.odb_values.specs.declared.value.Value.{Value}
use Rattle.odb_values.specs.declared.value.Value.TheVariants.{Null}
use Rattle.odb_values.specs.Value.{value_cmp}
use Rattle.odb_values.specs.ValueOrder.{value_cmp_total}
use Rattle.odb_keytable.specs.declared.spot.Spot.{Spot}
use Rattle.odb_keytable.specs.Spot.{table_of, values_of, is_past, marked_cmp, spot_cmp}

-- the values of a spot, and behind them what is greater than each value, where the spot is past
abbrev tail : Bool → List (ℕ × Value)
tail false = []
tail true = (1, Null) ∷ []

abbrev cells : Bool → List Value → List (ℕ × Value)
cells past [] = tail past
cells past (x ∷ xs) = (0, x) ∷ cells past xs

abbrev cell_cmp : ℕ × Value → ℕ × Value → Ordering
cell_cmp = then_cmp (on (λ (c : ℕ × Value). c.0) nat_cmp) (on (λ (c : ℕ × Value). c.1) value_cmp)

cell_cmp_total : IsTotalOrder cell_cmp
cell_cmp_total = then_total (on_total (λ (c : ℕ × Value). c.0) nat_cmp_total) (on_total (λ (c : ℕ × Value). c.1) value_cmp_total)

cells_cmp : (a b : Bool) (xs ys : List Value) → slice_cmp cell_cmp (cells a xs) (cells b ys) ≡ marked_cmp a b xs ys
cells_cmp false false [] [] = refl
cells_cmp false true [] [] = refl
cells_cmp true false [] [] = refl
cells_cmp true true [] [] = refl
cells_cmp false b [] (y ∷ ys) = refl
cells_cmp true b [] (y ∷ ys) = refl
cells_cmp a false (x ∷ xs) [] = refl
cells_cmp a true (x ∷ xs) [] = refl
cells_cmp a b (x ∷ xs) (y ∷ ys) = ap (ordering_then (value_cmp x y)) (cells_cmp a b xs ys)

abbrev spot_cells : Spot → List (ℕ × Value)
spot_cells spot = cells (is_past spot) (values_of spot)

-- the order of spots again, by table and then by cells
abbrev by_cells : Spot → Spot → Ordering
by_cells = then_cmp (on table_of nat_cmp) (on spot_cells (slice_cmp cell_cmp))

by_cells_total : IsTotalOrder by_cells
by_cells_total = then_total (on_total table_of nat_cmp_total) (on_total spot_cells (lists_total cell_cmp_total))

same_by_cells : (a b : Spot) → by_cells a b ≡ spot_cmp a b
same_by_cells a b = ap (ordering_then (nat_cmp (table_of a) (table_of b))) (cells_cmp (is_past a) (is_past b) (values_of a) (values_of b))

same_order : by_cells ≡ spot_cmp
same_order = λ i a b. same_by_cells a b i

pub spot_cmp_total : IsTotalOrder spot_cmp
spot_cmp_total = subst (λ (R : Spot → Spot → Ordering). IsTotalOrder R) same_order by_cells_total
