use Rattle.std.proofs.Common.{ℕ, [], List, refl, sym, subst}
use Rattle.odb_memstore.specs.declared.files.Held.{Held}
use Rattle.odb_memstore.specs.Layout.{IsLaid}
use Rattle.odb_memstore.proofs.Named.{all-zero}
use Rattle.odb_memstore.proofs.files.Files.new.Goals as goal

pub invariant_of-result : goal.invariant_of-result
invariant_of-result c =
    let held = c.in_ok-with_capacity.ensures.items in
    let bytes = c.in_ok-with_capacity-2.ensures.items in
    let none : IsLaid [] [] = record { packed = refl; total = sym all-zero } in
    subst (λ (h : List Held). IsLaid h c.in_ok-with_capacity-2.field-0.items) (sym held) (subst (λ (b : List ℕ). IsLaid [] b) (sym bytes) none)
