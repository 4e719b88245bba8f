-- The record that an item's body spells.
use Rattle.std.proofs.Common.{◌≡◌, ◌⊎◌, inl, inr, ℕ, List, [], Option, Some, None, Result, Ok, ◌∙◌, ap, refl, arith}
use Rattle.std.specs.Prelude.{IfSome}
use Rattle.odb_values.specs.declared.value.Value.{Value}
use Rattle.odb_codec.specs.Image.{KeyHasImage, RowHasImage}
use Rattle.odb_codec.proofs.Entries.{key_read, row_read}
use Rattle.odb_codec.proofs.Agree.{length-values_image}
use Rattle.odb_codec.proofs.Lengths.{few_values}
use Rattle.odb_slots.specs.Bodies.{IsInGrammar, slot_image}
use Rattle.odb_slots.proofs.Imaging.{item_again}
use Rattle.odb_slots.specs.declared.item.SlotItem.{SlotItem}
use Rattle.odb_bank.specs.History.{Row}
use Rattle.odb_bank.specs.Records.{Record}
use Rattle.odb_bank.specs.Spelled.{row_with, row_in, record_with, record_in, record_from, record_of_slot, kind_of, row_image, item_for, FitsSlot}

pub in_grammar : (n : ℕ) (r : Record) → FitsSlot r → IsInGrammar (item_for n r)
in_grammar n r fits =
    let wide = length-values_image r.key.key in
    let key = fits.key.key in
    record { kind = kinds r.row; some_key = omega (arith, wide, few_values r.key.key, key.keyed.some); short_key = omega (arith, wide, key.narrow); narrow = fits.narrow }
  where
    kinds : (row : Option Row) → (kind_of row ≡ 1) ⊎ ((kind_of row ≡ 2) × (row_image row ≡ []))
    kinds None = inr (refl, refl)
    kinds (Some row) = inl refl

again_by : (n : ℕ) (k : List Value) (table stamp : ℕ) (row : Option Row) → KeyHasImage k → IfSome row RowHasImage
    → record_in (item_for n (record { key = record { table = table; key = k }; row = row; stamp = stamp })) ≡ Some (record { key = record { table = table; key = k }; row = row; stamp = stamp })
again_by n k table stamp None key row =
    ap (λ (o : Result (List Value) ℕ). record_with (item_for n (record { key = record { table = table; key = k }; row = None; stamp = stamp })) o (Some None)) (key_read k key)
again_by n k table stamp (Some row) key fits =
    let item : SlotItem = item_for n (record { key = record { table = table; key = k }; row = Some row; stamp = stamp }) in
    ap (λ (o : Result (List Value) ℕ). record_with item o (row_in item)) (key_read k key)
    ∙ ap (λ (o : Result (List Value) ℕ). record_with item (Ok k) (row_with o)) (row_read row fits)

pub spelled_again : (n : ℕ) (r : Record) (bodies : ℕ → List ℕ) → FitsSlot r → record_of_slot n (slot_image (item_for n r)) bodies ≡ Some r
spelled_again n r bodies fits =
    ap record_from (item_again (item_for n r) (in_grammar n r fits) (record { table = fits.table; stamp = fits.stamp }))
    ∙ again_by n r.key.key r.key.table r.stamp r.row fits.key fits.row
