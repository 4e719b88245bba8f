-- The items and the notes of a run's records, one after another.
use Rattle.std.proofs.Common.{◌≡◌, ◌⊎◌, inl, inr, ℕ, ◌+◌, ◌^◌, ◌<◌, ◌≤◌, List, [], ◌∷◌, ◌++◌, length, Option, Some, None, refl, sym, ◌∙◌, ap, subst, arith}
use Rattle.std.specs.Prelude.{slice_get, IfSome}
use Rattle.std.proofs.lemmas.Bool.{cases_lt}
use Rattle.std.proofs.lemmas.List.{length_push}
use Rattle.odb_codec.proofs.Agree.{length-values_image}
use Rattle.odb_codec.specs.Image.{KeyHasImage, RowHasImage}
use Rattle.odb_model.specs.Width.{width_of_change}
use Rattle.odb_slots.specs.declared.item.SlotItem.{SlotItem}
use Rattle.odb_bank.specs.declared.kept.Kept.{Kept}
use Rattle.odb_bank.specs.declared.latest.Addition.{Addition}
use Rattle.odb_bank.specs.Additions.{record_of, IsNarrow}
use Rattle.odb_bank.specs.Filling.{kept_for, AreItemsFor, AreKeptFor}
use Rattle.odb_bank.specs.Records.{Record}
use Rattle.odb_bank.specs.Spelled.{item_for, row_image, FitsSlot}
use Rattle.odb_bank.specs.History.{Row}
use Rattle.odb_bank.proofs.Behind.{append_left, pushed_last}

module _ (run : List ℕ) (records : List Record) (n f : ℕ) (r : Record) (slot : slice_get run n ≡ Some f) (its : slice_get records n ≡ Some r) where
  same_slot : (k g : ℕ) → k ≡ n → slice_get run k ≡ Some g → g ≡ f
  same_slot k g here at = let there = ap (slice_get run) here in cc (there, at, slot)

  same_record : (k : ℕ) (s : Record) → k ≡ n → slice_get records k ≡ Some s → s ≡ r
  same_record k s here at = let there = ap (slice_get records) here in cc (there, at, its)

  pub items_more : (items : List SlotItem) (item : SlotItem) → AreItemsFor run records items n → item ≡ item_for f r → FitsSlot r → AreItemsFor run records (items ++ item ∷ []) (n + 1)
  items_more items item so_far is fits = record {
    as_many = omega (arith, length_push items item, so_far.as_many);
    each = λ k g s low at there. go k g s at there low (cases_lt k n);
  }
    where
      go : (k g : ℕ) (s : Record) → slice_get run k ≡ Some g → slice_get records k ≡ Some s → k < n + 1 → (k < n) ⊎ (n ≤ k) → (slice_get (items ++ item ∷ []) k ≡ Some (item_for g s)) × FitsSlot s
      go k g s at there low (inl before) = let was = so_far.each k g s before at there in (append_left items (item ∷ []) k (item_for g s) was.0, was.1)
      go k g s at there low (inr from) =
          let here : k ≡ n = omega arith in
          let one = same_slot k g here at in
          let two = same_record k s here there in (
            ap (slice_get (items ++ item ∷ [])) (here ∙ sym so_far.as_many) ∙ pushed_last items item ∙ ap Some (is ∙ ap (λ (m : ℕ). item_for m r) (sym one) ∙ ap (item_for g) (sym two)),
            subst FitsSlot (sym two) fits,
          )

  pub kept_more : (kept : List Kept) (it : Kept) → AreKeptFor run records kept n → it ≡ kept_for f r → AreKeptFor run records (kept ++ it ∷ []) (n + 1)
  kept_more kept it so_far is = record {
    as_many = omega (arith, length_push kept it, so_far.as_many);
    each = λ k g s low at there. go k g s at there low (cases_lt k n);
  }
    where
      go : (k g : ℕ) (s : Record) → slice_get run k ≡ Some g → slice_get records k ≡ Some s → k < n + 1 → (k < n) ⊎ (n ≤ k) → slice_get (kept ++ it ∷ []) k ≡ Some (kept_for g s)
      go k g s at there low (inl before) = append_left kept (it ∷ []) k (kept_for g s) (so_far.each k g s before at there)
      go k g s at there low (inr from) =
          let here : k ≡ n = omega arith in
          let one = same_slot k g here at in
          let two = same_record k s here there in
          ap (slice_get (kept ++ it ∷ [])) (here ∙ sym so_far.as_many) ∙ pushed_last kept it ∙ ap Some (is ∙ ap (λ (m : ℕ). kept_for m r) (sym one) ∙ ap (kept_for g) (sym two))

row_width : (row : Option Row) → length (row_image row) ≡ width_of_change row
row_width None = refl
row_width (Some row) = length-values_image row

-- a narrow record fits a slot
pub fits_narrow : (a : Addition) → IsNarrow a → KeyHasImage a.key.key → IfSome a.row RowHasImage → a.key.table < 2 ^ 32 → a.stamp < 2 ^ 64 → FitsSlot (record_of a)
fits_narrow a narrow key row table stamp = record {
  key = key;
  row = row;
  table = table;
  stamp = stamp;
  narrow = omega (arith, narrow, length-values_image a.key.key, row_width a.row);
}
