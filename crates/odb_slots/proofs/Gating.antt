-- One gate more.
use Rattle.std.proofs.Common.{◌≡◌, inl, inr, ℕ, ◌+◌, ◌<◌, List, [], ◌∷◌, length, sym, ◌∙◌, ap, subst, refl, arith}
use Rattle.std.specs.Prelude.{slice_index}
use Rattle.std.proofs.lemmas.Bool.{cases_eq, cases_lt}
use Rattle.odb_device.specs.Images.{overwritten}
use Rattle.odb_device.proofs.Bytes.{overwritten-inside, overwritten-front, overwritten-after}
use Rattle.odb_device.specs.TornSets.{InRange}
use Rattle.odb_slots.specs.Slots.{slot_place, gate_at}
use Rattle.odb_slots.specs.Sets.{GatesOf, IsOneOf, HaveGates}

gate_written : (n gate : ℕ) (bytes : List ℕ) → gate_at n (overwritten (slot_place n) (gate ∷ []) bytes) ≡ gate
unfolding gate_at
gate_written n gate bytes = let there : slot_place n ≡ slot_place n + 0 = omega arith in ap (slice_index (overwritten (slot_place n) (gate ∷ []) bytes)) there ∙ overwritten-inside (slot_place n) (gate ∷ []) bytes 0 (omega arith)

other_gate : (n m gate : ℕ) (bytes : List ℕ) → (m ≡ n → ⊥) → gate_at m (overwritten (slot_place n) (gate ∷ []) bytes) ≡ gate_at m bytes
unfolding gate_at
other_gate n m gate bytes differs = elim (cases_lt (slot_place m) (slot_place n)) [
  | inl before ↦ overwritten-front (slot_place n) (gate ∷ []) bytes (slot_place m) before
  | inr from ↦ overwritten-after (slot_place n) (gate ∷ []) bytes (slot_place m) (elim (cases_eq m n) [ inl same ↦ absurd (differs same) | inr other ↦ omega arith ])
]

pub gates_more : (gate : ℕ) (slots : List ℕ) (count : ℕ) (bytes : List ℕ) → HaveGates gate slots count bytes → HaveGates gate slots (count + 1) (overwritten (slot_place (slice_index slots count)) (gate ∷ []) bytes)
gates_more gate slots count bytes have k low = elim (cases_eq (slice_index slots k) (slice_index slots count)) [
  | inl same ↦ subst (λ (n : ℕ). gate_at n (overwritten (slot_place (slice_index slots count)) (gate ∷ []) bytes) ≡ gate) (sym same) (gate_written (slice_index slots count) gate bytes)
  | inr other ↦ other_gate (slice_index slots count) (slice_index slots k) gate bytes other ∙ have k (elim (cases_eq k count) [ inl last ↦ absurd (other (ap (slice_index slots) last)) | inr earlier ↦ omega arith ])
]

pub gate_inside : (slots : List ℕ) (count i : ℕ) → count < length slots → InRange (slot_place (slice_index slots count)) 1 i → GatesOf (IsOneOf slots) i
gate_inside slots count i low inside = (slice_index slots count, (count, low, refl), omega (arith, inside.0, inside.1))
