-- What doesn't depend on the order in which memory keeps its slots.
use Rattle.std.proofs.Common.{◌≡◌, ◌≢◌, inl, inr, ℕ, ◌*◌, ◌<◌, Bool, false, List, get_or, Option, Some, None, Ok, sym, ◌∙◌, ap, arith, eqb}
use Rattle.std.specs.Prelude.{slice_get, IfSome}
use Rattle.std.specs.List.{AllPairs, Contains, IsDistinct}
use Rattle.std.specs.List.Sorted.{IsPermutation}
use Rattle.std.proofs.lemmas.Bool.{cases_eq, eq-eqb, ne_eqb}
use Rattle.std.proofs.lemmas.List.Sorted.{IsPermutation-sym, All-permutation, Contains-permutation}
use Rattle.std.proofs.lemmas.Map.Keys.{IsDistinct-from_apart, apart_from_distinct, IsDistinct-IsPermutation}
use Rattle.std.proofs.lemmas.Option.{slice_get_within, get_or_from_slice_get, slice_get-get_or}
use Rattle.odb_device.specs.World.{File}
use Rattle.odb_slots.specs.Sets.{IsOneOf}
use Rattle.odb_extent.specs.Standing.{limit_of}
use Rattle.odb_bank.specs.declared.kept.Gate.TheVariants.{Shut, Open}
use Rattle.odb_bank.specs.declared.kept.Kept.{Kept}
use Rattle.odb_bank.specs.declared.phase.Phase.{Phase}
use Rattle.odb_bank.specs.declared.phase.Phase.TheVariants.{Idle, Bodies, Gates}
use Rattle.odb_bank.specs.Bank.{BankState, AreKnownBy, IsUsed, KeepsRun, TriesMark, IsSound}
use Rattle.odb_bank.specs.Begun.{with_kept}
use Rattle.odb_bank.specs.Finding.{IsSlotsAnswer, AreKeptInside, AreKeptApart}
use Rattle.odb_bank.specs.Known.{Known}
use Rattle.odb_bank.specs.Opening.{known_at}

-- what the one has at a place, the other has at some
pub place_of : (xs ys : List Kept) → IsPermutation xs ys → (k : ℕ) (it : Kept) → slice_get xs k ≡ Some it → (j : ℕ) × (slice_get ys j ≡ Some it)
place_of xs ys same k it is =
    let in_xs : Contains xs it = (k, slice_get_within xs k it is, get_or_from_slice_get xs k it it is) in
    let in_ys = Contains-permutation xs ys it same in_xs in
    (in_ys.0, slice_get-get_or ys in_ys.0 it in_ys.1 ∙ ap Some in_ys.2)

pub known_permuted : (xs ys : List Kept) (known : ℕ → Known) → IsPermutation xs ys → AreKnownBy xs known → AreKnownBy ys known
known_permuted xs ys known same are = record {
  each = λ k it is. let there = place_of ys xs (IsPermutation-sym xs ys same) k it is in are.each there.0 it there.1;
  others = λ n none. are.others n (λ k it is. let there = place_of xs ys same k it is in none there.0 it there.1);
}

-- slots that differ
same_slot : Kept → Kept → Bool
same_slot a c = eqb a.slot c.slot

flipped : (a c : Kept) → same_slot a c ≡ same_slot c a
unfolding same_slot
flipped a c = elim (cases_eq a.slot c.slot) [
  | inl same ↦ eq-eqb a.slot c.slot same ∙ sym (eq-eqb c.slot a.slot (sym same))
  | inr other ↦ ne_eqb a.slot c.slot other ∙ sym (ne_eqb c.slot a.slot (λ e. other (sym e)))
]

apart_same : (a c : Kept) → a.slot ≢ c.slot → same_slot a c ≡ false
unfolding same_slot
apart_same a c other = ne_eqb a.slot c.slot other

same_apart : (a c : Kept) → same_slot a c ≡ false → a.slot ≢ c.slot
unfolding same_slot
same_apart a c differs same = let equal = eq-eqb a.slot c.slot same in cc (equal, differs)

pub apart_permuted : (xs ys : List Kept) → IsPermutation xs ys → AllPairs (λ a c. a.slot ≢ c.slot) xs → AllPairs (λ a c. a.slot ≢ c.slot) ys
apart_permuted xs ys same apart = λ i j d before within.
    let first : IsDistinct same_slot xs = IsDistinct-from_apart same_slot xs (λ p q e low in_xs. apart_same (get_or xs p e) (get_or xs q e) (apart p q e low in_xs)) in
    let last : IsDistinct same_slot ys = IsDistinct-IsPermutation same_slot flipped xs ys same first in
    same_apart (get_or ys i d) (get_or ys j d) (apart_from_distinct same_slot ys i j d last before within)

pub used_permuted : (xs ys : List Kept) (n : ℕ) → IsPermutation xs ys → IsUsed xs n → IsUsed ys n
used_permuted xs ys n same used = let there = place_of xs ys same used.0 used.1 used.2 in (there.0, used.1, there.1, used.3)

module _ (b : BankState) (file : ℕ) (slots : List Kept) (same : IsPermutation b.slots slots) where
  keeps_permuted : (phase : Phase) → KeepsRun b phase → KeepsRun (with_kept b slots) phase
  keeps_permuted Idle keeps = All-permutation (λ it. it.gate ≢ Shut) b.slots slots same keeps
  keeps_permuted Bodies keeps = (λ n one. used_permuted b.slots slots n same (keeps.0 n one), All-permutation (λ it. it.gate ≡ Shut → IsOneOf b.run it.slot) b.slots slots same keeps.1)
  keeps_permuted Gates keeps = All-permutation (λ it. it.gate ≢ Shut) b.slots slots same keeps

  tries_same : (phase : Phase) → TriesMark b phase → TriesMark (with_kept b slots) phase
  tries_same Idle tried = tried
  tries_same Bodies tried = tried
  tries_same Gates tried = tried

  pub sound_permuted : IsSound file b → IsSound file (with_kept b slots)
  sound_permuted sound = record {
    number = sound.number;
    most = sound.most;
    high = sound.high;
    fields = sound.fields;
    tried = tries_same b.phase sound.tried;
    limits = sound.limits;
    reached = sound.reached;
    inside = All-permutation (λ it. it.slot < 1024 * limit_of b.extents) b.slots slots same sound.inside;
    apart = apart_permuted b.slots slots same sound.apart;
    run_inside = sound.run_inside;
    run_ascending = sound.run_ascending;
    run_kept = keeps_permuted b.phase sound.run_kept;
  }

-- what an opening finds
pub told_permuted : (number limit : ℕ) (slots tree : List Kept) → IsPermutation slots tree → (o : Option File) → IfSome o (λ f. IsSlotsAnswer number limit (Ok slots) f.bytes) → IfSome o (λ f. IsSlotsAnswer number limit (Ok tree) f.bytes)
told_permuted number limit slots tree same None are = tt
told_permuted number limit slots tree same (Some f) are = record {
  long = are.long;
  lawful = are.lawful;
  known = known_permuted slots tree (known_at (1024 * limit) f.bytes) same are.known;
}

pub apart_kept : (limit : ℕ) (slots tree : List Kept) → IsPermutation slots tree → AreKeptInside limit slots → AreKeptApart limit tree
apart_kept limit slots tree same are = record {
  inside = All-permutation (λ it. it.slot < limit) slots tree same are.inside;
  apart = apart_permuted slots tree same (λ i j d before within e. let up = are.ascending i j d before within in omega (arith, up, e));
  opened = All-permutation (λ it. it.gate ≡ Open) slots tree same are.opened;
}
