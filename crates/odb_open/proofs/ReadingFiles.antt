-- What a databank file reads as is what its bytes are in order for, or damaged.
use Rattle.std.proofs.Common.{◌≡◌, ℕ, zero, suc, ◌+◌, ◌*◌, ◌^◌, ◌<◌, ◌≤◌, Bool, true, false, ◌==◌, List, length, Option, Some, None, refl, sym, ap, ◌∙◌, subst, inl, inr, arith, eq-eqb, eqb-true, le-leb, leb-true, le-ltb, lt-ltb}
use Rattle.std.specs.Prelude.{◌⊎◌, ◌&&◌, not, nat_le, find, if◌then◌else◌}
use Rattle.std.specs.List.{range_with_len}
use Rattle.std.proofs.lemmas.Bool.{cases_eq, and_from, and_parts}
use Rattle.odb_extent.specs.Opened.{Opened as Extents, no_open_place, malformed, holding, opened as extents_in, content_end}
use Rattle.odb_slots.specs.Slots.{OPEN, gate_at}
use Rattle.odb_slots.specs.Views.{spelled, view_by}
use Rattle.odb_machine.specs.Readings.{Reading, Damaged, Holds, FileReading, Asked}
use Rattle.odb_bank.specs.declared.fields.BankFields.{BankFields}
use Rattle.odb_bank.specs.Fields.{fields_in, bank_image}
use Rattle.odb_bank.specs.Spelled.{record_of_slot}
use Rattle.odb_bank.specs.Opening.{HasHead, is_lawful, IsDamagedSlot, IsInOrder, IsShort, HasDamage, IsDamagedAt}
use Rattle.odb_bank.proofs.Marks.{mark_found, mark_lacks, mark_is}
use Rattle.odb_open.specs.Files.{is_damaged_slot, reading_of_view, with_slots, with_limit, is_head, with_fields, with_extents, file_in}

-- the least number that passes a test, of n numbers from a on

find_none : (p : ℕ → Bool) (a n : ℕ) → ((m : ℕ) → a ≤ m → m < a + n → p m ≡ false) → find p (range_with_len a n) ≡ None
find_none p a zero none = refl
find_none p a (suc n) none =
    rw (none a (omega arith) (omega arith)) (find_none p (a + 1) n (λ m low high. none m (omega arith) (omega arith)))

find_least : (p : ℕ → Bool) (a n s : ℕ) → a ≤ s → s < a + n → ((m : ℕ) → a ≤ m → m < s → p m ≡ false) → p s ≡ true → find p (range_with_len a n) ≡ Some s
find_least p a zero s low high before at = absurd (omega (arith, low, high))
find_least p a (suc n) s low high before at = elim (cases_eq a s) [
  | inl same ↦ rw (subst (λ (k : ℕ). p k ≡ true) (sym same) at) (ap Some same)
  | inr other ↦ rw (before a (omega arith) (omega arith)) (find_least p (a + 1) n s (omega arith) (omega arith) (λ m l h. before m (omega arith) h) at)
]

-- the test of one slot

slot_passes : (number n : ℕ) (bytes : List ℕ) → (IsDamagedSlot number n bytes → ⊥) → is_damaged_slot number bytes n ≡ false
slot_passes number n bytes sound = by_tests (gate_at n bytes == OPEN) (is_lawful number (spelled record_of_slot n bytes)) refl refl
  where
    by_tests : (b c : Bool) → (gate_at n bytes == OPEN) ≡ b → is_lawful number (spelled record_of_slot n bytes) ≡ c → (b && not c) ≡ false
    by_tests false c e f = refl
    by_tests true true e f = refl
    by_tests true false e f = absurd (sound (eqb-true (gate_at n bytes) OPEN e, f))

slot_fails : (number n : ℕ) (bytes : List ℕ) → IsDamagedSlot number n bytes → is_damaged_slot number bytes n ≡ true
slot_fails number n bytes bad =
    ap (λ (x : Bool). x && not (is_lawful number (spelled record_of_slot n bytes))) (eq-eqb (gate_at n bytes) OPEN bad.0)
    ∙ ap not bad.1

-- what is looked at behind the head

module _ (asked : Asked) (format : asked.format ≡ 1) (low : asked.bank < 2 ^ 32) (small : asked.number < 2 ^ 64) (bytes : List ℕ) where
  head_passes : (f : BankFields) (mark : ℕ) → f.format ≡ 1 → f.bank ≡ asked.bank → f.mark ≡ mark → mark ≤ asked.number → is_head asked f ≡ true
  head_passes f mark one its same within =
      and_from _ _ (and_from _ _ (eq-eqb f.format asked.format (one ∙ sym format)) (eq-eqb f.bank asked.bank its))
      (le-leb f.mark asked.number (subst (λ (k : ℕ). k ≤ asked.number) (sym same) within))

  by_fields : (limit mark : ℕ) (o : Option BankFields) → mark ≤ asked.number → fields_in (bank_image asked.bank mark) ≡ o → with_fields asked limit o bytes ≡ with_limit asked mark limit bytes
  by_fields limit mark None within is = absurd (mark_lacks (bank_image asked.bank mark) asked.bank mark low (omega arith) is refl)
  by_fields limit mark (Some f) within is =
      let its = mark_is (bank_image asked.bank mark) asked.bank mark f low (omega arith) is refl in
      ap (λ (b : Bool). if b then with_limit asked f.mark limit bytes else Damaged 0) (head_passes f mark its.0 its.1 its.2 within)
      ∙ ap (λ (k : ℕ). with_limit asked k limit bytes) its.2

  pub behind_head : (limit mark : ℕ) → HasHead asked.bank asked.number limit mark bytes → file_in asked bytes ≡ with_limit asked mark limit bytes
  behind_head limit mark head =
      ap (λ (x : Extents). with_extents asked x bytes) head.holds
      ∙ by_fields limit mark (fields_in (bank_image asked.bank mark)) head.not_above refl

  pub long_enough : (limit mark : ℕ) → content_end limit ≤ length bytes
      → with_limit asked mark limit bytes ≡ with_slots mark (1024 * limit) (find (is_damaged_slot asked.number bytes) (range_with_len 0 (1024 * limit))) bytes
  long_enough limit mark long =
      ap (λ (b : Bool). if b then Damaged (length bytes) else with_slots mark (1024 * limit) (find (is_damaged_slot asked.number bytes) (range_with_len 0 (1024 * limit))) bytes)
      (le-ltb (length bytes) (content_end limit) long)

  pub in_order : (limit mark : ℕ) → IsInOrder asked.bank asked.number limit mark bytes
      → file_in asked bytes ≡ Holds (reading_of_view mark (1024 * limit) (view_by record_of_slot (1024 * limit) bytes))
  in_order limit mark order =
      behind_head limit mark order.head ∙ long_enough limit mark order.long
      ∙ ap (λ (o : Option ℕ). with_slots mark (1024 * limit) o bytes)
      (find_none (is_damaged_slot asked.number bytes) 0 (1024 * limit) (λ m from below. slot_passes asked.number m bytes (order.slots m (omega arith))))

  -- damaged

  by_head : (limit : ℕ) (f : BankFields) (b : Bool) → is_head asked f ≡ b → (is_head asked f ≡ true → ⊥) → ◌≡◌ {A = Reading FileReading} (if b then with_limit asked f.mark limit bytes else Damaged 0) (Damaged 0)
  by_head limit f false is never = refl
  by_head limit f true is never = absurd (never is)

  no_head : (limit : ℕ) (fields : List ℕ) (f : BankFields) → ((k mark : ℕ) → HasHead asked.bank asked.number k mark bytes → ⊥) → extents_in 4096 bytes ≡ holding limit fields
      → fields_in fields ≡ Some f → is_head asked f ≡ true → ⊥
  no_head limit fields f none holds is passes =
      let all = and_parts ((f.format == asked.format) && (f.bank == asked.bank)) (nat_le f.mark asked.number) passes in
      let pair = and_parts (f.format == asked.format) (f.bank == asked.bank) all.0 in
      none limit f.mark (record {
        holds = holds ∙ ap (holding limit) (mark_found fields asked.bank f is (eqb-true f.format asked.format pair.0 ∙ format) (eqb-true f.bank asked.bank pair.1));
        not_above = leb-true f.mark asked.number all.1;
      })

  by_read : (limit : ℕ) (fields : List ℕ) (o : Option BankFields) → ((k mark : ℕ) → HasHead asked.bank asked.number k mark bytes → ⊥) → extents_in 4096 bytes ≡ holding limit fields
      → fields_in fields ≡ o → with_fields asked limit o bytes ≡ Damaged 0
  by_read limit fields None none holds is = refl
  by_read limit fields (Some f) none holds is = by_head limit f (is_head asked f) refl (no_head limit fields f none holds is)

  by_extents : (x : Extents) → ((k mark : ℕ) → HasHead asked.bank asked.number k mark bytes → ⊥) → extents_in 4096 bytes ≡ x → with_extents asked x bytes ≡ Damaged 0
  by_extents no_open_place none is = refl
  by_extents malformed none is = refl
  by_extents (holding limit fields) none is = by_read limit fields (fields_in fields) none is refl

  damage_behind : (at limit mark : ℕ) → HasHead asked.bank asked.number limit mark bytes → IsShort at limit bytes ⊎ HasDamage asked.number at limit bytes → file_in asked bytes ≡ Damaged at
  damage_behind at limit mark head (inl short) =
      behind_head limit mark head
      ∙ ap (λ (b : Bool). if b then Damaged (length bytes) else with_slots mark (1024 * limit) (find (is_damaged_slot asked.number bytes) (range_with_len 0 (1024 * limit))) bytes)
      (lt-ltb (length bytes) (content_end limit) short.1)
      ∙ ap Damaged (sym short.0)
  damage_behind at limit mark head (inr damage) =
      behind_head limit mark head ∙ long_enough limit mark damage.long
      ∙ ap (λ (o : Option ℕ). with_slots mark (1024 * limit) o bytes)
      (find_least (is_damaged_slot asked.number bytes) 0 (1024 * limit) damage.slot (omega arith) (omega (arith, damage.least.inside))
      (λ m from below. slot_passes asked.number m bytes (damage.least.least m below)) (slot_fails asked.number damage.slot bytes damage.least.damaged))
      ∙ ap Damaged (sym damage.is)

  pub damaged : (at : ℕ) → IsDamagedAt asked.bank asked.number at bytes → file_in asked bytes ≡ Damaged at
  damaged at (inl none) = by_extents (extents_in 4096 bytes) none.1 refl ∙ ap Damaged (sym none.0)
  damaged at (inr (limit, mark, head, what)) = damage_behind at limit mark head what
