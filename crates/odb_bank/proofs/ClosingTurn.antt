-- What closing the stale slots leaves of the file, and of what it stands for.
use Rattle.std.proofs.Common.{◌≡◌, ◌≢◌, ◌⊎◌, inl, inr, ℕ, zero, suc, ◌^◌, ◌<◌, Bool, true, false, cond, List, [], ◌∷◌, length, get_or, Option, Some, None, sym, ◌∙◌, ap, subst, refl, arith}
use Rattle.std.specs.Prelude.{if◌then◌else◌, map, slice_get, not, ◌==◌, ◌||◌}
use Rattle.std.specs.List.{All, filter}
use Rattle.std.proofs.lemmas.Bool.{cases_lt, cases_eq, eq-eqb, eqb-true, or_parts}
use Rattle.std.proofs.lemmas.List.{length-map}
use Rattle.std.proofs.lemmas.List.Kept.{AllPairs-filter}
use Rattle.std.proofs.lemmas.Option.{slice_get_within, get_or_from_slice_get, slice_get-get_or}
use Rattle.odb_device.specs.World.{File, World, file_of}
use Rattle.odb_device.specs.Moments.{Runs}
use Rattle.odb_device.proofs.Time.{weakens}
use Rattle.odb_device.specs.Images.{IsImage, EachImage}
use Rattle.odb_device.specs.TornSets.{TornInFrom}
use Rattle.odb_extent.specs.Standing.{IsFileOf as IsExtentFile, HoldsKept}
use Rattle.odb_slots.specs.Sets.{GatesOf, IsOneOf, HaveGates}
use Rattle.odb_bank.specs.declared.kept.Gate.{Gate}
use Rattle.odb_bank.specs.declared.kept.Gate.TheVariants.{Shut, Open, Doubtful}
use Rattle.odb_bank.specs.declared.kept.Kept.{Kept}
use Rattle.odb_bank.specs.declared.phase.Phase.{Phase}
use Rattle.odb_bank.specs.declared.phase.Phase.TheVariants.{Idle}
use Rattle.odb_bank.specs.History.{History}
use Rattle.odb_bank.specs.Records.{Record, IsWithin}
use Rattle.odb_bank.specs.Stands.{Stands as Stand}
use Rattle.odb_bank.specs.Known.{Known, free, filled, held, either, sure, perhaps, perhaps_of, Become}
use Rattle.odb_bank.specs.Turns.{AllStand, DoubtsStale, IsStaleSlot}
use Rattle.odb_bank.specs.Bank.{BankState, slot_limit, record_by, known_by, IsKnownBy, AreKnownBy, IsBankFile, IsKnownIn, Stands, IsStandingFor, StandsFor, StandsInPhase, IsUsed, IsSound, KeepsRun, TriesMark}
use Rattle.odb_bank.specs.Files.{StandsAt}
use Rattle.odb_bank.specs.Closing.{is_doubtful, is_stale, is_closing, closing_of, staying_of, IsToClose, ClosesJust}
use Rattle.odb_bank.specs.Begun.{ClosesTold}
use Rattle.odb_bank.specs.Gates.{is_in, with_gate}
use Rattle.odb_bank.proofs.GateFiles.{IsMarked, marked_image, with_slots, sound_by}
use Rattle.odb_bank.proofs.Steps.{stands_same}
use Rattle.odb_bank.proofs.Standing.{all_closing}
use Rattle.odb_bank.proofs.Staleness.{stale_durably, closing_same, doubts_stay}
use Rattle.odb_bank.proofs.Choice.{IsThere, find_slot}
use Rattle.odb_bank.proofs.ClosingSlots.{may_at, stale_true, stale_back}
use Rattle.odb_bank.proofs.GateTurn.{map_at, out_one, noted, turned, HaveRecords, become_noted, run_records, kept_noted, image_noted, image_closed, noted_in, noted_out}

-- what a filter keeps
pub filter_in : {T : Type 0} → (p : T → Bool) (xs : List T) (k : ℕ) (x : T) → slice_get xs k ≡ Some x → p x ≡ true → (j : ℕ) × (slice_get (filter p xs) j ≡ Some x)
filter_in p [] k x is passes = absurd (cc is)
filter_in p (y ∷ xs) zero x is passes =
    let same : y ≡ x = cc is in
    (zero, ap (λ (b : Bool). slice_get (cond b (y ∷ filter p xs) (filter p xs)) zero) (ap p same ∙ passes) ∙ is)
filter_in p (y ∷ xs) (suc k) x is passes = go (p y) refl (filter_in p xs k x is passes)
  where
    go : (b : Bool) → p y ≡ b → (j : ℕ) × (slice_get (filter p xs) j ≡ Some x) → (j : ℕ) × (slice_get (filter p (y ∷ xs)) j ≡ Some x)
    go true e rest = (suc rest.0, ap (λ (b : Bool). slice_get (cond b (y ∷ filter p xs) (filter p xs)) (suc rest.0)) e ∙ rest.1)
    go false e rest = (rest.0, ap (λ (b : Bool). slice_get (cond b (y ∷ filter p xs) (filter p xs)) rest.0) e ∙ rest.1)

pub filter_from : {T : Type 0} → (p : T → Bool) (xs : List T) (j : ℕ) (x : T) → slice_get (filter p xs) j ≡ Some x → (k : ℕ) × (slice_get xs k ≡ Some x) × (p x ≡ true)
filter_from p [] j x is = absurd (cc is)
filter_from p (y ∷ xs) j x is = go (p y) refl j is (λ i here. filter_from p xs i x here)
  where
    go : (b : Bool) → p y ≡ b → (i : ℕ) → slice_get (filter p (y ∷ xs)) i ≡ Some x → ((n : ℕ) → slice_get (filter p xs) n ≡ Some x → (k : ℕ) × (slice_get xs k ≡ Some x) × (p x ≡ true))
        → (k : ℕ) × (slice_get (y ∷ xs) k ≡ Some x) × (p x ≡ true)
    go true e zero here later =
        let first = sym (ap (λ (b : Bool). slice_get (cond b (y ∷ filter p xs) (filter p xs)) zero) e) ∙ here in
        let same : y ≡ x = cc first in
        (zero, first, ap p (sym same) ∙ e)
    go true e (suc i) here later =
        let rest = later i (sym (ap (λ (b : Bool). slice_get (cond b (y ∷ filter p xs) (filter p xs)) (suc i)) e) ∙ here) in
        (suc rest.0, rest.1, rest.2)
    go false e i here later =
        let rest = later i (sym (ap (λ (b : Bool). slice_get (cond b (y ∷ filter p xs) (filter p xs)) i) e) ∙ here) in
        (suc rest.0, rest.1, rest.2)

-- of notes
filter_noted : (run : List ℕ) (p : Kept → Bool) (xs : List Kept) → ((k : ℕ) (x : Kept) → slice_get xs k ≡ Some x → is_in run x.slot ≡ p x) → ((x : Kept) → is_doubtful x.gate ≡ true → p x ≡ true)
    → filter (λ it. not (is_doubtful it.gate)) (map (with_gate run Doubtful) xs) ≡ filter (λ it. not (p it)) xs
filter_noted run p [] agrees doubts = refl
filter_noted run p (x ∷ xs) agrees doubts =
    let rest = filter_noted run p xs (λ k y is. agrees (suc k) y is) doubts in
    go (is_in run x.slot) refl (agrees zero x refl) rest
  where
    clear : p x ≡ false → (c : Bool) → is_doubtful x.gate ≡ c → is_doubtful x.gate ≡ false
    clear none false e = e
    clear none true e = let some = doubts x e in absurd (cc (none, some))

    go : (c : Bool) → is_in run x.slot ≡ c → is_in run x.slot ≡ p x → filter (λ it. not (is_doubtful it.gate)) (map (with_gate run Doubtful) xs) ≡ filter (λ it. not (p it)) xs
        → filter (λ it. not (is_doubtful it.gate)) (map (with_gate run Doubtful) (x ∷ xs)) ≡ filter (λ it. not (p it)) (x ∷ xs)
    go true is same rest =
        ap (λ (y : Kept). cond (not (is_doubtful y.gate)) (y ∷ filter (λ it. not (is_doubtful it.gate)) (map (with_gate run Doubtful) xs)) (filter (λ it. not (is_doubtful it.gate)) (map (with_gate run Doubtful) xs)))
        (ap (λ (c : Bool). if c then record x { gate = Doubtful } else x) is)
        ∙ rest
        ∙ sym (ap (λ (c : Bool). cond (not c) (x ∷ filter (λ it. not (p it)) xs) (filter (λ it. not (p it)) xs)) (sym same ∙ is))
    go false is same rest =
        ap (λ (y : Kept). cond (not (is_doubtful y.gate)) (y ∷ filter (λ it. not (is_doubtful it.gate)) (map (with_gate run Doubtful) xs)) (filter (λ it. not (is_doubtful it.gate)) (map (with_gate run Doubtful) xs)))
        (ap (λ (c : Bool). if c then record x { gate = Doubtful } else x) is)
        ∙ ap (λ (c : Bool). cond (not c) (x ∷ filter (λ it. not (is_doubtful it.gate)) (map (with_gate run Doubtful) xs)) (filter (λ it. not (is_doubtful it.gate)) (map (with_gate run Doubtful) xs))) (clear (sym same ∙ is) (is_doubtful x.gate) refl)
        ∙ ap (λ (l : List Kept). x ∷ l) rest
        ∙ sym (ap (λ (c : Bool). cond (not c) (x ∷ filter (λ it. not (p it)) xs) (filter (λ it. not (p it)) xs)) (sym same ∙ is))

slot_at : (xs : List Kept) (n : ℕ) → is_in (map (λ it. it.slot) xs) n ≡ true → (k : ℕ) × (x : Kept) × (slice_get xs k ≡ Some x) × (x.slot ≡ n)
slot_at [] n is = absurd (cc is)
slot_at (x ∷ xs) n is = elim (cases_eq x.slot n) [
  | inl same ↦ (zero, x, refl, same)
  | inr other ↦
      let rest = slot_at xs n (go (x.slot == n) refl other is) in
      (suc rest.0, rest.1, rest.2, rest.3)
]
  where
    go : (b : Bool) → (x.slot == n) ≡ b → x.slot ≢ n → is_in (map (λ it. it.slot) (x ∷ xs)) n ≡ true → is_in (map (λ it. it.slot) xs) n ≡ true
    go true e other here = absurd (other (eqb-true x.slot n e))
    go false e other here = sym (ap (λ (b : Bool). b || is_in (map (λ it. it.slot) xs) n) e) ∙ here

at_slot : (xs : List Kept) (k : ℕ) (x : Kept) → slice_get xs k ≡ Some x → is_in (map (λ it. it.slot) xs) x.slot ≡ true
at_slot [] k x is = absurd (cc is)
at_slot (y ∷ xs) zero x is = let same : y ≡ x = cc is in ap (λ (b : Bool). b || is_in (map (λ it. it.slot) xs) x.slot) (eq-eqb y.slot x.slot (ap (λ (z : Kept). z.slot) same))
at_slot (y ∷ xs) (suc k) x is = go (y.slot == x.slot) (at_slot xs k x is)
  where
    go : (b : Bool) → is_in (map (λ it. it.slot) xs) x.slot ≡ true → (b || is_in (map (λ it. it.slot) xs) x.slot) ≡ true
    go true rest = refl
    go false rest = rest

module _ (b : BankState) (file : ℕ) (sound : IsSound file b) (phase : b.phase ≡ Idle) where
  no_shut : All (λ it. it.gate ≢ Shut) b.slots
  no_shut = subst (λ (p : Phase). KeepsRun b p) phase sound.run_kept

  -- slots of one number are one
  same_place : (i j : ℕ) (a c : Kept) → slice_get b.slots i ≡ Some a → slice_get b.slots j ≡ Some c → a.slot ≡ c.slot → a ≡ c
  same_place i j a c one other same = elim (cases_lt i j) [
    | inl before ↦ absurd (apart_at i j a c before one other same)
    | inr from ↦ elim (cases_eq i j) [
      | inl here ↦ cc (ap (slice_get b.slots) here, one, other)
      | inr after ↦ absurd (apart_at j i c a (omega arith) other one (sym same))
    ]
  ]
    where
      apart_at : (p q : ℕ) (x y : Kept) → p < q → slice_get b.slots p ≡ Some x → slice_get b.slots q ≡ Some y → x.slot ≡ y.slot → ⊥
      apart_at p q x y low at_p at_q e =
          let one = get_or_from_slice_get b.slots p x x at_p in
          let other = get_or_from_slice_get b.slots q y x at_q in
          sound.apart p q x low (slice_get_within b.slots q y at_q) (ap (λ (z : Kept). z.slot) one ∙ e ∙ sym (ap (λ (z : Kept). z.slot) other))

  -- whether a slot is closed
  closed_it : (n : ℕ) → is_in (closing_of b) n ≡ true → (k : ℕ) × (it : Kept) × (slice_get b.slots k ≡ Some it) × (it.slot ≡ n) × (is_closing b.mark b.slots it ≡ true)
  closed_it n is =
      let there = slot_at (filter (is_closing b.mark b.slots) b.slots) n is in
      let from = filter_from (is_closing b.mark b.slots) b.slots there.0 there.1 there.2 in
      (from.0, there.1, from.1, there.3, from.2)

  it_closed : (k : ℕ) (it : Kept) → slice_get b.slots k ≡ Some it → is_closing b.mark b.slots it ≡ true → is_in (closing_of b) it.slot ≡ true
  it_closed k it is closes =
      let there = filter_in (is_closing b.mark b.slots) b.slots k it is closes in
      at_slot (filter (is_closing b.mark b.slots) b.slots) there.0 it there.1

  it_stays : (k : ℕ) (it : Kept) → slice_get b.slots k ≡ Some it → is_closing b.mark b.slots it ≡ false → is_in (closing_of b) it.slot ≡ false
  it_stays k it is stays = go (is_in (closing_of b) it.slot) refl
    where
      go : (c : Bool) → is_in (closing_of b) it.slot ≡ c → is_in (closing_of b) it.slot ≡ false
      go false e = e
      go true e =
          let there = closed_it it.slot e in
          let same : there.1 ≡ it = same_place there.0 k there.1 it there.2 is there.3 in
          let yes = ap (is_closing b.mark b.slots) (sym same) ∙ there.4 in
          absurd (cc (yes, stays))

  pub closed_low : (n : ℕ) → IsOneOf (closing_of b) n → n < slot_limit b
  closed_low n one = let is = closed_in n one in let there = closed_it n is in
      let all = sound.inside there.0 there.1 (slice_get_within b.slots there.0 there.1 there.2) in
      let same = get_or_from_slice_get b.slots there.0 there.1 there.1 there.2 in
      omega (arith, all, there.3, ap (λ (z : Kept). z.slot) same)
    where
      closed_in : (m : ℕ) → IsOneOf (closing_of b) m → is_in (closing_of b) m ≡ true
      closed_in m one = go (is_in (closing_of b) m) refl
        where
          go : (c : Bool) → is_in (closing_of b) m ≡ c → is_in (closing_of b) m ≡ true
          go true e = e
          go false e = absurd (out_one (closing_of b) m e one)

  closed_used : (n : ℕ) → IsOneOf (closing_of b) n → IsUsed b.slots n
  closed_used n one = go (is_in (closing_of b) n) refl
    where
      go : (c : Bool) → is_in (closing_of b) n ≡ c → IsUsed b.slots n
      go true e = let there = closed_it n e in (there.0, there.1, there.2, there.3)
      go false e = absurd (out_one (closing_of b) n e one)

  turned_free : (k : Known) → turned (λ r. free) k ≡ free
  turned_free free = refl
  turned_free (filled r) = refl
  turned_free (held r) = refl
  turned_free (either r) = refl

  not_false : (c : Bool) → not c ≡ true → c ≡ false
  not_false true e = absurd (cc e)
  not_false false e = refl

  false_not : (c : Bool) → c ≡ false → not c ≡ true
  false_not c e = ap not e

  module _ (known : ℕ → Known) (are : AreKnownBy b.slots known) where
    there_closed : HaveRecords (closing_of b) known
    there_closed = run_records (closing_of b) b.slots known are closed_used

    free_stays : (n : ℕ) → known n ≡ free → (c : Bool) → is_in (closing_of b) n ≡ c → noted (closing_of b) (λ r. free) known n ≡ free
    free_stays n none true is = noted_in (closing_of b) (λ r. free) known n is ∙ turned_free (known n)
    free_stays n none false is = noted_out (closing_of b) (λ r. free) known n is ∙ none

    -- what memory keeps afterwards
    pub kept_staying : AreKnownBy (staying_of b) (noted (closing_of b) (λ r. free) known)
    kept_staying = record { each = each; others = others }
      where
        each : (j : ℕ) (it : Kept) → slice_get (staying_of b) j ≡ Some it → IsKnownBy it (noted (closing_of b) (λ r. free) known it.slot)
        each j it is =
            let from = filter_from (λ (x : Kept). not (is_closing b.mark b.slots x)) b.slots j it is in
            let out = it_stays from.0 it from.1 (not_false (is_closing b.mark b.slots it) from.2) in
            let by = are.each from.0 it from.1 in
            record { row = by.row; has_row = by.has_row; is = noted_out (closing_of b) (λ r. free) known it.slot out ∙ by.is }

        others : (n : ℕ) → ((k : ℕ) (it : Kept) → slice_get (staying_of b) k ≡ Some it → it.slot ≢ n) → noted (closing_of b) (λ r. free) known n ≡ free
        others n none = elim (find_slot b.slots n) [
          | inr never ↦ free_stays n (are.others n never) (is_in (closing_of b) n) refl
          | inl there ↦ by_test there (is_closing b.mark b.slots there.1) refl
        ]
          where
            by_test : (there : IsThere b.slots n) → (c : Bool) → is_closing b.mark b.slots there.1 ≡ c → noted (closing_of b) (λ r. free) known n ≡ free
            by_test there true closes =
                let in_it = ap (is_in (closing_of b)) (sym there.3) ∙ it_closed there.0 there.1 there.2 closes in
                noted_in (closing_of b) (λ r. free) known n in_it ∙ turned_free (known n)
            by_test there false stays =
                let kept = filter_in (λ (x : Kept). not (is_closing b.mark b.slots x)) b.slots there.0 there.1 there.2 (false_not (is_closing b.mark b.slots there.1) stays) in
                absurd (none kept.0 there.1 kept.1 there.3)

    -- of the file
    module _ (f g : File) (end : ℕ) (images : (image : List ℕ) → IsImage f image → IsBankFile b known image) (torn : TornInFrom (GatesOf (IsOneOf (closing_of b))) end (Some f) (Some g)) where
      pub closing_images : (image : List ℕ) → IsImage g image → IsBankFile b (noted (closing_of b) either known) image
      closing_images image at = let was = torn image at in image_noted b (closing_of b) known end was.0 image there_closed closed_low (images was.0 was.1) was.2

      pub closed_images : EachImage (HaveGates 0 (closing_of b) (length (closing_of b))) (Some g) → (image : List ℕ) → IsImage g image → IsBankFile b (noted (closing_of b) (λ r. free) known) image
      closed_images done image at = image_closed b (closing_of b) known image there_closed (closing_images image at) (done image at)

    -- of the history
    sure_either : (k : Known) → sure (turned either k) ≡ None
    sure_either free = refl
    sure_either (filled r) = refl
    sure_either (held r) = refl
    sure_either (either r) = refl

    module _ (h : History) (stand : Stand h b.mark (perhaps_of known)) (doubts : DoubtsStale b.mark known) where
      pub within_limit : IsWithin (slot_limit b) (perhaps_of known)
      within_limit n past = elim (find_slot b.slots n) [
        | inr never ↦ ap perhaps (are.others n never)
        | inl there ↦
            let low = sound.inside there.0 there.1 (slice_get_within b.slots there.0 there.1 there.2) in
            let same = get_or_from_slice_get b.slots there.0 there.1 there.1 there.2 in
            absurd (omega (arith, low, there.3, ap (λ (z : Kept). z.slot) same))
      ]

      doubtful_is : (gate : Gate) → is_doubtful gate ≡ true → gate ≡ Doubtful
      doubtful_is Shut e = absurd (cc e)
      doubtful_is Open e = absurd (cc e)
      doubtful_is Doubtful e = refl

      stale_it : (k : ℕ) (it : Kept) → slice_get b.slots k ≡ Some it → is_closing b.mark b.slots it ≡ true → IsStaleSlot b.mark known it.slot
      stale_it k it is closes = go (is_doubtful it.gate) refl
        where
          by : IsKnownBy it (known it.slot)
          by = are.each k it is

          go : (c : Bool) → is_doubtful it.gate ≡ c → IsStaleSlot b.mark known it.slot
          go true e =
              let r = record_by it by.row in
              let either_so : known it.slot ≡ either r = by.is ∙ ap (λ (g : Gate). known_by g r) (doubtful_is it.gate e) in
              stale_durably h b.mark (slot_limit b) known within_limit doubts stand.truthful it.slot r (ap perhaps either_so) (doubts it.slot r either_so)
          go false e =
              let low = slice_get_within b.slots k it is in
              let same = get_or_from_slice_get b.slots k it it is in
              let open_so : it.gate ≢ Shut = subst (λ (y : Kept). y.gate ≢ Shut) same (no_shut k it low) in
              stale_true b.slots known are (slot_limit b) sound.inside b.mark k it is open_so
              (sym (ap (λ (c : Bool). c || is_stale b.mark b.slots it) e) ∙ closes)

      pub stale_each : (n : ℕ) → IsOneOf (closing_of b) n → IsStaleSlot b.mark known n
      stale_each n one = go (is_in (closing_of b) n) refl
        where
          go : (c : Bool) → is_in (closing_of b) n ≡ c → IsStaleSlot b.mark known n
          go true e = let there = closed_it n e in subst (IsStaleSlot b.mark known) there.3 (stale_it there.0 there.1 there.2 there.4)
          go false e = absurd (out_one (closing_of b) n e one)

      become : Become (IsOneOf (closing_of b)) either known (noted (closing_of b) either known)
      become = become_noted (closing_of b) either known there_closed

      pub doubts_closing : DoubtsStale b.mark (noted (closing_of b) either known)
      doubts_closing = doubts_stay b.mark (IsOneOf (closing_of b)) known (noted (closing_of b) either known) doubts stale_each become

      same_closing : (n : ℕ) → perhaps (noted (closing_of b) either known n) ≡ perhaps (known n)
      same_closing = closing_same b.mark (IsOneOf (closing_of b)) known (noted (closing_of b) either known) doubts stale_each become

      pub stand_closing : Stand h b.mark (perhaps_of (noted (closing_of b) either known))
      stand_closing = stands_same h b.mark (perhaps_of known) (perhaps_of (noted (closing_of b) either known)) same_closing stand

      pub all_stand_closing : AllStand h b.mark (noted (closing_of b) either known)
      all_stand_closing = all_closing h b.mark (slot_limit b) (noted (closing_of b) either known) (λ n past. same_closing n ∙ within_limit n past) doubts_closing stand_closing

      pub all_stand_closed : AllStand h b.mark (noted (closing_of b) (λ r. free) known)
      all_stand_closed view between = all_stand_closing view (λ n. go n (is_in (closing_of b) n) refl (between n))
        where
          go : (n : ℕ) (c : Bool) → is_in (closing_of b) n ≡ c
              → (view n ≡ sure (noted (closing_of b) (λ r. free) known n)) ⊎ (view n ≡ perhaps (noted (closing_of b) (λ r. free) known n))
              → (view n ≡ sure (noted (closing_of b) either known n)) ⊎ (view n ≡ perhaps (noted (closing_of b) either known n))
          go n true is (inl e) = inl (e ∙ ap sure (noted_in (closing_of b) (λ r. free) known n is ∙ turned_free (known n)) ∙ sym (ap sure (noted_in (closing_of b) either known n is) ∙ sure_either (known n)))
          go n true is (inr e) = inl (e ∙ ap perhaps (noted_in (closing_of b) (λ r. free) known n is ∙ turned_free (known n)) ∙ sym (ap sure (noted_in (closing_of b) either known n is) ∙ sure_either (known n)))
          go n false is (inl e) = inl (e ∙ ap sure (noted_out (closing_of b) (λ r. free) known n is ∙ sym (noted_out (closing_of b) either known n is)))
          go n false is (inr e) = inr (e ∙ ap perhaps (noted_out (closing_of b) (λ r. free) known n is ∙ sym (noted_out (closing_of b) either known n is)))

      pub stand_closed : Stand h b.mark (perhaps_of (noted (closing_of b) (λ r. free) known))
      stand_closed = all_stand_closed (perhaps_of (noted (closing_of b) (λ r. free) known)) (λ n. inr refl)

    -- no slot is in doubt then
    gate_doubtful : (gate : Gate) (r s : Record) → known_by gate r ≡ either s → is_doubtful gate ≡ true
    gate_doubtful Shut r s e = let one = ap perhaps e in absurd (cc one)
    gate_doubtful Open r s e = let one = ap sure e in absurd (cc one)
    gate_doubtful Doubtful r s e = refl

    pub none_in_doubt : (n : ℕ) (r : Record) → noted (closing_of b) (λ r. free) known n ≡ either r → ⊥
    none_in_doubt n r is = go (is_in (closing_of b) n) refl
      where
        go : (c : Bool) → is_in (closing_of b) n ≡ c → ⊥
        go true e = let none = ap perhaps (sym (noted_in (closing_of b) (λ r. free) known n e ∙ turned_free (known n)) ∙ is) in cc none
        go false e =
            let was : known n ≡ either r = sym (noted_out (closing_of b) (λ r. free) known n e) ∙ is in
            let may = may_at b.slots known are (slot_limit b) sound.inside b.mark n r (ap perhaps was) in
            let by = are.each may.place may.it may.is_it in
            let doubtful = gate_doubtful may.it.gate (record_by may.it by.row) r (sym by.is ∙ ap known may.slot ∙ was) in
            let closes : is_closing b.mark b.slots may.it ≡ true = ap (λ (c : Bool). c || is_stale b.mark b.slots may.it) doubtful in
            let yes = ap (is_in (closing_of b)) (sym may.slot) ∙ it_closed may.place may.it may.is_it closes in
            cc (yes, e)

    -- just those are closed that a turn is to close
    gate_is : (gate : Gate) → is_doubtful gate ≡ true → gate ≡ Doubtful
    gate_is Shut e = absurd (cc e)
    gate_is Open e = absurd (cc e)
    gate_is Doubtful e = refl

    or_left : (c d : Bool) → c ≡ true → (c || d) ≡ true
    or_left c d e = ap (λ (x : Bool). x || d) e

    or_second : (c d : Bool) → d ≡ true → (c || d) ≡ true
    or_second true d e = refl
    or_second false d e = e

    close_it : (k : ℕ) (it : Kept) → slice_get b.slots k ≡ Some it → is_closing b.mark b.slots it ≡ true → IsToClose b.mark known it.slot
    close_it k it is closes = go (is_doubtful it.gate) refl
      where
        by : IsKnownBy it (known it.slot)
        by = are.each k it is

        go : (c : Bool) → is_doubtful it.gate ≡ c → IsToClose b.mark known it.slot
        go true e = inr (record_by it by.row, by.is ∙ ap (λ (g : Gate). known_by g (record_by it by.row)) (gate_is it.gate e))
        go false e =
            let low = slice_get_within b.slots k it is in
            let same = get_or_from_slice_get b.slots k it it is in
            let open_so : it.gate ≢ Shut = subst (λ (y : Kept). y.gate ≢ Shut) same (no_shut k it low) in
            inl (stale_true b.slots known are (slot_limit b) sound.inside b.mark k it is open_so
            (sym (ap (λ (c : Bool). c || is_stale b.mark b.slots it) e) ∙ closes))

    to_close : (n : ℕ) → is_in (closing_of b) n ≡ true → IsToClose b.mark known n
    to_close n is =
        let there = closed_it n is in
        subst (IsToClose b.mark known) there.3 (close_it there.0 there.1 there.2 there.4)

    closed_by : (n : ℕ) → IsToClose b.mark known n → is_in (closing_of b) n ≡ true
    closed_by n (inl stale) =
        let may = may_at b.slots known are (slot_limit b) sound.inside b.mark n stale.it stale.may_be_open in
        let here : IsStaleSlot b.mark known may.it.slot = subst (IsStaleSlot b.mark known) (sym may.slot) stale in
        let is : is_stale b.mark b.slots may.it ≡ true = stale_back b.slots known are (slot_limit b) sound.inside b.mark may.place may.it may.is_it no_shut here in
        ap (is_in (closing_of b)) (sym may.slot) ∙ it_closed may.place may.it may.is_it (or_second (is_doubtful may.it.gate) (is_stale b.mark b.slots may.it) is)
    closed_by n (inr doubt) =
        let may = may_at b.slots known are (slot_limit b) sound.inside b.mark n doubt.0 (ap perhaps doubt.1) in
        let by = are.each may.place may.it may.is_it in
        let doubtful = gate_doubtful may.it.gate (record_by may.it by.row) doubt.0 (sym by.is ∙ ap known may.slot ∙ doubt.1) in
        ap (is_in (closing_of b)) (sym may.slot) ∙ it_closed may.place may.it may.is_it (or_left (is_doubtful may.it.gate) (is_stale b.mark b.slots may.it) doubtful)

    pub closes_just : ClosesJust b.mark known (noted (closing_of b) (λ r. free) known)
    closes_just n = go (is_in (closing_of b) n) refl
      where
        go : (c : Bool) → is_in (closing_of b) n ≡ c
            → (IsToClose b.mark known n × (perhaps (noted (closing_of b) (λ r. free) known n) ≡ None))
            ⊎ ((IsToClose b.mark known n → ⊥) × (sure (noted (closing_of b) (λ r. free) known n) ≡ sure (known n)) × (perhaps (noted (closing_of b) (λ r. free) known n) ≡ perhaps (known n)))
        go true e = inl (to_close n e, ap perhaps (noted_in (closing_of b) (λ r. free) known n e ∙ turned_free (known n)))
        go false e = inr (
          (λ is. let yes = closed_by n is in cc (yes, e)),
          ap sure (noted_out (closing_of b) (λ r. free) known n e),
          ap perhaps (noted_out (closing_of b) (λ r. free) known n e),
        )

  -- the file and what it stands for, while the gates are written and once they are on the disk
  abbrev pub with_kept : List Kept → BankState
  with_kept slots = record b { slots = slots }

  module _ (known : ℕ → Known) (f g : File) (end : ℕ) (is : IsKnownIn b known f) (torn : TornInFrom (GatesOf (IsOneOf (closing_of b))) end (Some f) (Some g)) (slots : List Kept) where
    pub doubt_known : slots ≡ map (with_gate (closing_of b) Doubtful) b.slots → IsKnownIn (with_kept slots) (noted (closing_of b) either known) g
    doubt_known same = record {
      kept = subst (λ (l : List Kept). AreKnownBy l (noted (closing_of b) either known)) (sym same) (kept_noted (closing_of b) Doubtful b.slots known is.kept);
      images = λ image at. let here = closing_images known is.kept f g end is.images torn image at in record { extents = here.extents; slots = here.slots };
    }

    pub shut_known : slots ≡ staying_of b → EachImage (HaveGates 0 (closing_of b) (length (closing_of b))) (Some g) → IsKnownIn (with_kept slots) (noted (closing_of b) (λ r. free) known) g
    shut_known same done = record {
      kept = subst (λ (l : List Kept). AreKnownBy l (noted (closing_of b) (λ r. free) known)) (sym same) (kept_staying known is.kept);
      images = λ image at. let here = closed_images known is.kept f g end is.images torn done image at in record { extents = here.extents; slots = here.slots };
    }

  module _ (h : History) (f : File) (standing : IsStandingFor h b f) where
    so : StandsInPhase h b Idle standing.known
    so = subst (λ (p : Phase). StandsInPhase h b p standing.known) phase standing.stands

    its : AreKnownBy b.slots standing.known
    its = let is = standing.is_known in is.kept

    pub all_closing_stand : AllStand h b.mark (noted (closing_of b) either standing.known)
    all_closing_stand = let both = so in all_stand_closing standing.known its h both.0 both.1

    pub closing_moment : (marked : IsMarked b) (g : File) (end : ℕ) → TornInFrom (GatesOf (IsOneOf (closing_of b))) end (Some f) (Some g) → (image : List ℕ) → IsImage g image → StandsAt b.bank h b.mark image
    closing_moment marked g end torn image at =
        let is = standing.is_known in
        marked_image b marked h (omega (arith, standing.low, standing.within)) (noted (closing_of b) either standing.known) image (closing_images standing.known its f g end is.images torn image at) all_closing_stand

    module _ (marked : IsMarked b) (g : File) (end : ℕ) (torn : TornInFrom (GatesOf (IsOneOf (closing_of b))) end (Some f) (Some g)) (slots : List Kept) where
      pub doubt_standing : slots ≡ map (with_gate (closing_of b) Doubtful) b.slots → IsStandingFor h (with_kept slots) g
      doubt_standing same = let both = so in record {
        known = noted (closing_of b) either standing.known;
        is_known = doubt_known standing.known f g end standing.is_known torn slots same;
        low = standing.low;
        within = standing.within;
        stands = subst (λ (p : Phase). StandsInPhase h (with_kept slots) p (noted (closing_of b) either standing.known)) (sym phase)
            (stand_closing standing.known its h both.0 both.1, doubts_closing standing.known its h both.0 both.1);
        images = λ image at. inl (closing_moment marked g end torn image at);
      }

      pub shut_standing : slots ≡ staying_of b → EachImage (HaveGates 0 (closing_of b) (length (closing_of b))) (Some g) → IsStandingFor h (with_kept slots) g
      shut_standing same done = let both = so in record {
        known = noted (closing_of b) (λ r. free) standing.known;
        is_known = shut_known standing.known f g end standing.is_known torn slots same done;
        low = standing.low;
        within = standing.within;
        stands = subst (λ (p : Phase). StandsInPhase h (with_kept slots) p (noted (closing_of b) (λ r. free) standing.known)) (sym phase)
            (stand_closed standing.known its h both.0 both.1, λ n r doubt. absurd (none_in_doubt standing.known its n r doubt));
        images = λ image at. inl (closing_moment marked g end torn image at);
      }

  pub marked_idle : ((bytes : List ℕ) → IsExtentFile b.extents bytes → HoldsKept b.extents bytes) → b.mark < 2 ^ 64 → IsMarked b
  marked_idle holds small = record { holds = holds; limits = sound.limits; most = sound.most; fields = sound.fields; tried = subst (TriesMark b) phase sound.tried; small = small }

  -- of a file that may not be told
  module _ (end : ℕ) where
    pub close_doubts : (slots : List Kept) (o now : Option File) → slots ≡ map (with_gate (closing_of b) Doubtful) b.slots → Stands b o → TornInFrom (GatesOf (IsOneOf (closing_of b))) end o now → Stands (with_kept slots) now
    close_doubts slots None now same stands torn = subst (Stands (with_kept slots)) (sym torn) tt
    close_doubts slots (Some f) None same stands torn = tt
    close_doubts slots (Some f) (Some g) same stands torn = (noted (closing_of b) either stands.0, doubt_known stands.0 f g end stands.1 torn slots same)

    pub close_shuts : (slots : List Kept) (o now : Option File) → slots ≡ staying_of b → Stands b o → TornInFrom (GatesOf (IsOneOf (closing_of b))) end o now → EachImage (HaveGates 0 (closing_of b) (length (closing_of b))) now → Stands (with_kept slots) now
    close_shuts slots None now same stands torn done = subst (Stands (with_kept slots)) (sym torn) tt
    close_shuts slots (Some f) None same stands torn done = tt
    close_shuts slots (Some f) (Some g) same stands torn done = (noted (closing_of b) (λ r. free) stands.0, shut_known stands.0 f g end stands.1 torn slots same done)

    pub closes_told : (slots : List Kept) (o now : Option File) → slots ≡ staying_of b → TornInFrom (GatesOf (IsOneOf (closing_of b))) end o now → EachImage (HaveGates 0 (closing_of b) (length (closing_of b))) now → ClosesTold b (with_kept slots) o now
    closes_told slots None now same torn done = tt
    closes_told slots (Some f) None same torn done = tt
    closes_told slots (Some f) (Some g) same torn done = λ known is. (noted (closing_of b) (λ r. free) known, shut_known known f g end is torn slots same done, closes_just known is.kept)

    pub history_doubt : (marked : IsMarked b) (h : History) (slots : List Kept) (o now : Option File) → slots ≡ map (with_gate (closing_of b) Doubtful) b.slots → StandsFor h b o → TornInFrom (GatesOf (IsOneOf (closing_of b))) end o now → StandsFor h (with_kept slots) now
    history_doubt marked h slots None now same stands torn = subst (StandsFor h (with_kept slots)) (sym torn) tt
    history_doubt marked h slots (Some f) None same stands torn = tt
    history_doubt marked h slots (Some f) (Some g) same stands torn = doubt_standing h f stands marked g end torn slots same

    pub history_shut : (marked : IsMarked b) (h : History) (slots : List Kept) (o now : Option File) → slots ≡ staying_of b → StandsFor h b o → TornInFrom (GatesOf (IsOneOf (closing_of b))) end o now → EachImage (HaveGates 0 (closing_of b) (length (closing_of b))) now
        → StandsFor h (with_kept slots) now
    history_shut marked h slots None now same stands torn done = subst (StandsFor h (with_kept slots)) (sym torn) tt
    history_shut marked h slots (Some f) None same stands torn done = tt
    history_shut marked h slots (Some f) (Some g) same stands torn done = shut_standing h f stands marked g end torn slots same done

    close_moments : (marked : IsMarked b) (h : History) (o now : Option File) → StandsFor h b o → TornInFrom (GatesOf (IsOneOf (closing_of b))) end o now → EachImage (StandsAt b.bank h b.mark) now
    close_moments marked h None now stands torn = subst (EachImage (StandsAt b.bank h b.mark)) (sym torn) tt
    close_moments marked h (Some f) None stands torn = tt
    close_moments marked h (Some f) (Some g) stands torn = closing_moment h f stands marked g end torn

    pub close_run : (marked : IsMarked b) (h : History) (at : ℕ) (old new : World) → StandsFor h b (file_of at old) → Runs at (TornInFrom (GatesOf (IsOneOf (closing_of b))) end (file_of at old)) old new → Runs at (EachImage (StandsAt b.bank h b.mark)) old new
    close_run marked h at old new stands run = weakens at (TornInFrom (GatesOf (IsOneOf (closing_of b))) end (file_of at old)) (EachImage (StandsAt b.bank h b.mark)) old new (λ o torn. close_moments marked h (file_of at old) o stands torn) run

  -- what memory keeps is what stays
  pub kept_is : (slots : List Kept) → slots ≡ map (with_gate (closing_of b) Doubtful) b.slots → filter (λ it. not (is_doubtful it.gate)) slots ≡ staying_of b
  kept_is slots same = ap (filter (λ it. not (is_doubtful it.gate))) same
      ∙ filter_noted (closing_of b) (is_closing b.mark b.slots) b.slots (λ k x is. agrees k x is (is_closing b.mark b.slots x) refl) (λ x doubtful. ap (λ (c : Bool). c || is_stale b.mark b.slots x) doubtful)
    where
      agrees : (k : ℕ) (x : Kept) → slice_get b.slots k ≡ Some x → (c : Bool) → is_closing b.mark b.slots x ≡ c → is_in (closing_of b) x.slot ≡ is_closing b.mark b.slots x
      agrees k x is true e = it_closed k x is e ∙ sym e
      agrees k x is false e = it_stays k x is e ∙ sym e

  -- and it is sound
  open_noted : All (λ it. it.gate ≢ Shut) (map (with_gate (closing_of b) Doubtful) b.slots)
  open_noted k d low e =
      let there = map_at (with_gate (closing_of b) Doubtful) b.slots k (get_or (map (with_gate (closing_of b) Doubtful) b.slots) k d) (slice_get-get_or (map (with_gate (closing_of b) Doubtful) b.slots) k d low) in
      let x = there.0 in
      let was : k < length b.slots = omega (arith, low, length-map b.slots (with_gate (closing_of b) Doubtful)) in
      let same = get_or_from_slice_get b.slots k x x there.1 in
      let before : x.gate ≢ Shut = subst (λ (y : Kept). y.gate ≢ Shut) same (no_shut k x was) in
      go x before (is_in (closing_of b) x.slot) (sym (ap (λ (y : Kept). y.gate) there.2) ∙ e)
    where
      go : (x : Kept) → x.gate ≢ Shut → (c : Bool) → (if c then record x { gate = Doubtful } else x).gate ≡ Shut → ⊥
      go x before true e = cc e
      go x before false e = before e

  pub sound_doubt : (slots : List Kept) → slots ≡ map (with_gate (closing_of b) Doubtful) b.slots → IsSound file (with_kept slots)
  sound_doubt slots same =
      let tried : TriesMark b Idle = subst (TriesMark b) phase sound.tried in
      let noted_so = sound_by file b sound (closing_of b) Doubtful Idle tried open_noted in
      subst (λ (l : List Kept). IsSound file (with_kept l)) (sym same) (subst (λ (p : Phase). IsSound file (with_slots b p (map (with_gate (closing_of b) Doubtful) b.slots))) (sym phase) noted_so)

  stays_at : (k : ℕ) (d : Kept) → k < length (staying_of b) → (j : ℕ) × (slice_get b.slots j ≡ Some (get_or (staying_of b) k d))
  stays_at k d low =
      let from = filter_from (λ (x : Kept). not (is_closing b.mark b.slots x)) b.slots k (get_or (staying_of b) k d) (slice_get-get_or (staying_of b) k d low) in
      (from.0, from.1)

  stays_inside : All (λ it. it.slot < slot_limit b) (staying_of b)
  stays_inside k d low =
      let there = stays_at k d low in
      let x = get_or (staying_of b) k d in
      let inside = sound.inside there.0 x (slice_get_within b.slots there.0 x there.1) in
      omega (arith, inside, ap (λ (z : Kept). z.slot) (get_or_from_slice_get b.slots there.0 x x there.1))

  stays_open : All (λ it. it.gate ≢ Shut) (staying_of b)
  stays_open k d low =
      let there = stays_at k d low in
      let x = get_or (staying_of b) k d in
      subst (λ (y : Kept). y.gate ≢ Shut) (get_or_from_slice_get b.slots there.0 x x there.1) (no_shut there.0 x (slice_get_within b.slots there.0 x there.1))

  pub stays_known : All (λ it. it.gate ≡ Open) (staying_of b)
  stays_known k d low =
      let x = get_or (staying_of b) k d in
      let from = filter_from (λ (y : Kept). not (is_closing b.mark b.slots y)) b.slots k x (slice_get-get_or (staying_of b) k d low) in
      let parts = or_parts (is_doubtful x.gate) (is_stale b.mark b.slots x) (not_false (is_closing b.mark b.slots x) from.2) in
      gate_open x.gate (stays_open k d low) parts.0
    where
      gate_open : (g : Gate) → g ≢ Shut → is_doubtful g ≡ false → g ≡ Open
      gate_open Open other clear = refl
      gate_open Shut other clear = absurd (other refl)
      gate_open Doubtful other clear = absurd (cc clear)

  pub sound_shut : (slots : List Kept) → slots ≡ staying_of b → IsSound file (with_kept slots)
  sound_shut slots same = subst (λ (l : List Kept). IsSound file (with_kept l)) (sym same) (record {
    number = sound.number;
    most = sound.most;
    high = sound.high;
    fields = sound.fields;
    tried = subst (λ (p : Phase). TriesMark (with_kept (staying_of b)) p) (sym phase) (subst (TriesMark b) phase sound.tried);
    limits = sound.limits;
    reached = sound.reached;
    inside = stays_inside;
    apart = AllPairs-filter (λ (a c : Kept). a.slot ≢ c.slot) (λ x. not (is_closing b.mark b.slots x)) b.slots sound.apart;
    run_inside = sound.run_inside;
    run_ascending = sound.run_ascending;
    run_kept = subst (λ (p : Phase). KeepsRun (with_kept (staying_of b)) p) (sym phase) stays_open;
  })
