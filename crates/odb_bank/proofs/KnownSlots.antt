-- What torn gates and bodies leave of what is known.
use Rattle.std.proofs.Common.{◌≡◌, ◌≢◌, ◌⊎◌, inl, inr, ℕ, ◌+◌, ◌<◌, ◌≤◌, List, [], length, Option, Some, sym, ◌∙◌, ap, subst, refl, arith}
use Rattle.std.specs.Prelude.{slice_index}
use Rattle.std.proofs.lemmas.Bool.{cases_lt, cases_eq}
use Rattle.odb_device.specs.TornSets.{InRange, TornIn}
use Rattle.odb_slots.specs.Between.{IsLong, NeedsItsBody, Between}
use Rattle.odb_slots.specs.Views.{Spelling, spelled, view_by}
use Rattle.odb_slots.specs.Bodies.{slot_image}
use Rattle.odb_bank.specs.Records.{Record}
use Rattle.odb_slots.specs.Slots.{OPEN, slot_place, gate_at, body_at, behind}
use Rattle.odb_slots.specs.Sets.{GatesOf, BodiesOf, IsOneOf, HaveGates, HasSlot, HasItem, HasItems}
use Rattle.odb_bank.specs.Known.{Known, free, filled, held, either, Fits, sure, perhaps, sure_of, perhaps_of, behind_gate, IsFileOf, Become, AreFilled}
use Rattle.odb_slots.specs.declared.item.SlotItem.{SlotItem}
use Rattle.odb_slots.proofs.Places.{gate_stays, body_stays, stays_long, gate_no_body, same_body, same_gate, spelled_same, view_past, view_at, behind_open, behind_closed}
use Rattle.odb_slots.proofs.Filling.{each_of}

module _ (spell : Spelling Record) (own : NeedsItsBody spell) where
  -- what is open is between what is sure and what may be
  pub known_between : (limit : ℕ) (known : ℕ → Known) (bytes : List ℕ) → IsFileOf spell limit known bytes → Between (sure_of known) (perhaps_of known) (view_by spell limit bytes)
  known_between limit known bytes is n = elim (cases_lt n limit) [
    | inr past ↦ inl (view_past spell own limit n bytes past ∙ sym (ap sure (is.beyond n past)))
    | inl low ↦ subst (λ (o : Option Record). (o ≡ sure (known n)) ⊎ (o ≡ perhaps (known n))) (sym (view_at spell own limit n bytes low)) (go (known n) (gate_at n bytes) (spelled spell n bytes) (is.fits n low))
  ]
    where
      go : (k : Known) (gate : ℕ) (it : Option Record) → Fits k gate it → (behind gate it ≡ sure k) ⊎ (behind gate it ≡ perhaps k)
      go free gate it shut = inl (behind_closed gate it shut)
      go (filled r) gate it f = inl (behind_closed gate it f.0)
      go (held r) gate it f = inl (behind_open gate it f.0 ∙ f.1)
      go (either r) gate it f = elim (cases_eq gate OPEN) [
        | inl is_open ↦ inr (behind_open gate it is_open ∙ f)
        | inr closed ↦ inl (behind_closed gate it closed)
      ]

  -- what is known behind a gate stands there
  spells : (k : Known) (gate : ℕ) (it : Option Record) (r : Record) → Fits k gate it → behind_gate k ≡ Some r → it ≡ Some r
  spells free gate it r f is = absurd (cc is)
  spells (filled s) gate spelled r f is = f.1 ∙ is
  spells (held s) gate spelled r f is = f.1 ∙ is
  spells (either s) gate spelled r f is = f ∙ is

  nothing_behind : (k : Known) (r : Record) → k ≡ free → behind_gate k ≡ Some r → ⊥
  nothing_behind k r is_free is = cc (ap behind_gate is_free, is)

  -- torn gates: from then on any of them may be open
  pub known_gates : (S : ℕ → Type 0) (limit end : ℕ) (known later : ℕ → Known) (old new : List ℕ) → Become S either known later → IsFileOf spell limit known old → TornIn (GatesOf S) end old new → IsFileOf spell limit later new
  known_gates S limit end known later old new become is t = record { long = stays_long (GatesOf S) limit end old new is.long t; fits = fits; beyond = beyond }
    where
      body : (n : ℕ) → n < limit → body_at n new ≡ body_at n old
      body n low = body_stays (GatesOf S) limit end n old new low is.long t (λ i here p. gate_no_body p.0 n (subst (InRange (slot_place n + 1) 1023) p.2 here))

      fits : (n : ℕ) → n < limit → Fits (later n) (gate_at n new) (spelled spell n new)
      fits n low = elim (become n) [
        | inl other ↦
            let gate = gate_stays (GatesOf S) limit end n old new low is.long t (λ p. other.0 (subst S (sym (same_gate n p.0 p.2)) p.1)) in
            subst (λ (k : Known). Fits k (gate_at n new) (spelled spell n new)) (sym other.1)
            (subst (λ (g : ℕ). Fits (known n) g (spelled spell n new)) (sym gate) (subst (λ (o : Option Record). Fits (known n) (gate_at n old) o) (sym (spelled_same spell own n old new (body n low))) (is.fits n low)))
        | inr one ↦
            let r = one.1 in
            subst (λ (k : Known). Fits k (gate_at n new) (spelled spell n new)) (sym r.2) (spelled_same spell own n old new (body n low) ∙ spells (known n) (gate_at n old) (spelled spell n old) r.0 (is.fits n low) r.1)
      ]

      beyond : (n : ℕ) → limit ≤ n → later n ≡ free
      beyond n far = elim (become n) [
        | inl other ↦ other.1 ∙ is.beyond n far
        | inr one ↦ let r = one.1 in absurd (nothing_behind (known n) r.0 (is.beyond n far) r.1)
      ]

  -- and once they are on the disk
  pub known_set : (S : ℕ → Type 0) (to : Record → Known) (limit : ℕ) (known later : ℕ → Known) (bytes : List ℕ) → Become S to known later
      → ((n : ℕ) (r : Record) → S n → spelled spell n bytes ≡ Some r → Fits (to r) (gate_at n bytes) (spelled spell n bytes)) → IsFileOf spell limit known bytes → IsFileOf spell limit later bytes
  known_set S to limit known later bytes become set is = record {
    long = is.long;
    fits = λ n low. elim (become n) [
      | inl other ↦ subst (λ (k : Known). Fits k (gate_at n bytes) (spelled spell n bytes)) (sym other.1) (is.fits n low)
      | inr one ↦
          let r = one.1 in
          subst (λ (k : Known). Fits k (gate_at n bytes) (spelled spell n bytes)) (sym r.2) (set n r.0 one.0 (spells (known n) (gate_at n bytes) (spelled spell n bytes) r.0 (is.fits n low) r.1))
    ];
    beyond = λ n far. elim (become n) [
      | inl other ↦ other.1 ∙ is.beyond n far
      | inr one ↦ let r = one.1 in absurd (nothing_behind (known n) r.0 (is.beyond n far) r.1)
    ];
  }

  set_gate : (gate : ℕ) (slots : List ℕ) (n : ℕ) (bytes : List ℕ) → HaveGates gate slots (length slots) bytes → IsOneOf slots n → gate_at n bytes ≡ gate
  set_gate gate slots n bytes have one = ap (λ (k : ℕ). gate_at k bytes) (sym one.2) ∙ have one.0 one.1

  pub known_opened : (slots : List ℕ) (limit : ℕ) (known later : ℕ → Known) (bytes : List ℕ) → Become (IsOneOf slots) held known later → HaveGates OPEN slots (length slots) bytes → IsFileOf spell limit known bytes → IsFileOf spell limit later bytes
  known_opened slots limit known later bytes become have is = known_set (IsOneOf slots) held limit known later bytes become (λ n r one it. (set_gate OPEN slots n bytes have one, it)) is

  pub known_closed : (slots : List ℕ) (limit : ℕ) (known later : ℕ → Known) (bytes : List ℕ) → Become (IsOneOf slots) (λ r. free) known later → HaveGates 0 slots (length slots) bytes → IsFileOf spell limit known bytes → IsFileOf spell limit later bytes
  known_closed slots limit known later bytes become have is = known_set (IsOneOf slots) (λ r. free) limit known later bytes become (λ n r one it e. shut (sym (set_gate 0 slots n bytes have one) ∙ e)) is
    where
      shut : (◌≡◌ {A = ℕ} 0 OPEN) → ⊥
      shut e = cc

  -- torn bodies of free slots: the same is known
  pub known_bodies : (S : ℕ → Type 0) (limit end : ℕ) (known : ℕ → Known) (old new : List ℕ) → ((n : ℕ) → S n → known n ≡ free) → IsFileOf spell limit known old → TornIn (BodiesOf S) end old new → IsFileOf spell limit known new
  known_bodies S limit end known old new are_free is t = record { long = stays_long (BodiesOf S) limit end old new is.long t; fits = λ n low. go n low (known n) refl; beyond = is.beyond }
    where
      gate : (n : ℕ) → n < limit → gate_at n new ≡ gate_at n old
      gate n low = gate_stays (BodiesOf S) limit end n old new low is.long t (λ p. gate_no_body n p.0 p.2)

      kept : (n : ℕ) → n < limit → (known n ≡ free → ⊥) → spelled spell n new ≡ spelled spell n old
      kept n low used = spelled_same spell own n old new (body_stays (BodiesOf S) limit end n old new low is.long t (λ i here p. used (are_free n (subst S (sym (same_body n p.0 i here p.2)) p.1))))

      was : (n : ℕ) → n < limit → (k : Known) → known n ≡ k → Fits k (gate_at n old) (spelled spell n old)
      was n low k e = subst (λ (x : Known). Fits x (gate_at n old) (spelled spell n old)) e (is.fits n low)

      go : (n : ℕ) → n < limit → (k : Known) → known n ≡ k → Fits k (gate_at n new) (spelled spell n new)
      go n low free e = λ o. was n low free e (sym (gate n low) ∙ o)
      go n low (filled r) e = let w = was n low (filled r) e in (λ o. w.0 (sym (gate n low) ∙ o), kept n low (λ f. cc (e, f)) ∙ w.1)
      go n low (held r) e = let w = was n low (held r) e in (gate n low ∙ w.0, kept n low (λ f. cc (e, f)) ∙ w.1)
      go n low (either r) e = kept n low (λ f. cc (e, f)) ∙ was n low (either r) e

  -- and once they are on the disk
  pub known_filled : (items : List SlotItem) (limit : ℕ) (known later : ℕ → Known) (bytes : List ℕ) → AreFilled spell items known later → HasItems items bytes → ((n : ℕ) → HasSlot items n → n < limit)
      → IsFileOf spell limit known bytes → IsFileOf spell limit later bytes
  known_filled items limit known later bytes fill have below is = record { long = is.long; fits = fits; beyond = beyond }
    where
      fits : (n : ℕ) → n < limit → Fits (later n) (gate_at n bytes) (spelled spell n bytes)
      fits n low = elim (fill n) [
        | inl same ↦ subst (λ (k : Known). Fits k (gate_at n bytes) (spelled spell n bytes)) (sym same) (is.fits n low)
        | inr new ↦
            let closed : gate_at n bytes ≢ OPEN = subst (λ (k : Known). Fits k (gate_at n bytes) (spelled spell n bytes)) new.was_free (is.fits n low) in
            let stood : HasItem new.item bytes = each_of (λ i. HasItem i bytes) items new.place new.item new.is_item have in
            let there : body_at n bytes ≡ slot_image new.item = subst (λ (m : ℕ). body_at m bytes ≡ slot_image new.item) new.slot stood.body in
            let spelt : spelled spell n bytes ≡ Some new.fills =
            own n (body_at n bytes) (λ p. []) (λ p. body_at p bytes) ∙ ap (λ (b : List ℕ). spell n b (λ p. [])) there ∙ new.spells in
            subst (λ (k : Known). Fits k (gate_at n bytes) (spelled spell n bytes)) (sym new.now) (closed, spelt)
      ]

      beyond : (n : ℕ) → limit ≤ n → later n ≡ free
      beyond n far = elim (fill n) [
        | inl same ↦ same ∙ is.beyond n far
        | inr new ↦ absurd (omega (arith, below n (new.place, new.item, new.is_item, new.slot)))
      ]

  -- behind the old limit there are zeros: a larger limit adds no record
  zero_shut : (gate : ℕ) → gate ≡ 0 → gate ≢ OPEN
  zero_shut gate is e = cc (is, e)

  pub known_grows : (limit larger : ℕ) (known : ℕ → Known) (bytes : List ℕ) → limit ≤ larger → IsLong larger bytes
      → ((i : ℕ) → slot_place limit ≤ i → i < slot_place larger → slice_index bytes i ≡ 0) → IsFileOf spell limit known bytes → IsFileOf spell larger known bytes
  unfolding gate_at
  known_grows limit larger known bytes more long zeros is = record {
    long = long;
    fits = λ n low. elim (cases_lt n limit) [
      | inl inside ↦ is.fits n inside
      | inr past ↦ subst (λ (k : Known). Fits k (gate_at n bytes) (spelled spell n bytes)) (sym (is.beyond n past)) (zero_shut (gate_at n bytes) (zeros (slot_place n) (omega arith) (omega arith)))
    ];
    beyond = λ n far. is.beyond n (omega arith);
  }

  -- and under a lesser limit there are the same records where the slots beyond it are free
  pub view_under : (limit larger : ℕ) (known : ℕ → Known) (bytes : List ℕ) → limit ≤ larger → ((n : ℕ) → limit ≤ n → known n ≡ free) → IsFileOf spell larger known bytes
      → (n : ℕ) → view_by spell limit bytes n ≡ view_by spell larger bytes n
  view_under limit larger known bytes more beyond is n = elim (cases_lt n limit) [
    | inl low ↦ view_at spell own limit n bytes low ∙ sym (view_at spell own larger n bytes (omega arith))
    | inr past ↦ elim (cases_lt n larger) [
      | inr far ↦ view_past spell own limit n bytes past ∙ sym (view_past spell own larger n bytes far)
      | inl low ↦
          let shut : gate_at n bytes ≢ OPEN = subst (λ (k : Known). Fits k (gate_at n bytes) (spelled spell n bytes)) (beyond n past) (is.fits n low) in
          view_past spell own limit n bytes past ∙ sym (view_at spell own larger n bytes low ∙ behind_closed (gate_at n bytes) (spelled spell n bytes) shut)
    ]
  ]
