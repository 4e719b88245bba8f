-- From bytes to views: what torn bodies and torn gates leave of what the slots have.
use Rattle.std.proofs.Common.{◌≡◌, ◌≢◌, inl, inr, ℕ, ◌+◌, ◌<◌, ◌≤◌, List, Option, None, sym, ◌∙◌, ap, subst, refl, arith}
use Rattle.std.proofs.lemmas.Bool.{cases_lt, cases_eq, eq-eqb, ne_eqb, lt-ltb, le-ltb}
use Rattle.odb_device.specs.TornSets.{InRange, TornIn}
use Rattle.odb_device.proofs.Frames.{frame, looks_part}
use Rattle.odb_slots.specs.Slots.{OPEN, slot_place, gate_at, body_at, behind}
use Rattle.odb_slots.specs.Views.{Spelling, spelled, view_by}
use Rattle.odb_slots.specs.Sets.{GatesOf, BodiesOf}
use Rattle.odb_slots.specs.Between.{IsLong, NeedsItsBody, Between, DiffersIn, IsBetween}

-- where slots stand
pub gate_no_body : (n m : ℕ) → InRange (slot_place m + 1) 1023 (slot_place n) → ⊥
gate_no_body n m inside = omega (arith, inside.0, inside.1)

pub same_body : (n m i : ℕ) → InRange (slot_place n + 1) 1023 i → InRange (slot_place m + 1) 1023 i → n ≡ m
same_body n m i here there = omega (arith, here.0, here.1, there.0, there.1)

pub same_gate : (n m : ℕ) → slot_place n ≡ slot_place m → n ≡ m
same_gate n m e = omega arith

-- a gate is looked at as one byte, a body as 1,023
pub gate_stays : (P : ℕ → Type 0) (limit end n : ℕ) (old new : List ℕ) → n < limit → IsLong limit old → TornIn P end old new → (P (slot_place n) → ⊥) → gate_at n new ≡ gate_at n old
unfolding gate_at
gate_stays P limit end n old new low long t out = t.outside (slot_place n) (omega arith) out

pub body_stays : (P : ℕ → Type 0) (limit end n : ℕ) (old new : List ℕ) → n < limit → IsLong limit old → TornIn P end old new
    → ((i : ℕ) → InRange (slot_place n + 1) 1023 i → P i → ⊥) → body_at n new ≡ body_at n old
unfolding body_at
body_stays P limit end n old new low long t apart =
    frame (InRange (slot_place n + 1) 1023) P (slot_place n + 1 + 1023) end _ old new (looks_part (slot_place n + 1) 1023) apart (omega arith) t

pub stays_long : (P : ℕ → Type 0) (limit end : ℕ) (old new : List ℕ) → IsLong limit old → TornIn P end old new → IsLong limit new
stays_long P limit end old new long t = omega (arith, t.no_shorter)

pub behind_open : {T : Type 0} → (gate : ℕ) (it : Option T) → gate ≡ OPEN → behind gate it ≡ it
behind_open gate it e = rw (eq-eqb gate OPEN e) refl

pub behind_closed : {T : Type 0} → (gate : ℕ) (it : Option T) → gate ≢ OPEN → behind gate it ≡ None
behind_closed gate it ne = rw (ne_eqb gate OPEN ne) refl

module _ {T : Type 0} (spell : Spelling T) (own : NeedsItsBody spell) where
  pub spelled_same : (n : ℕ) (old new : List ℕ) → body_at n new ≡ body_at n old → spelled spell n new ≡ spelled spell n old
  spelled_same n old new same =
      own n (body_at n new) (λ p. body_at p old) (λ p. body_at p new) ∙ ap (λ (b : List ℕ). spell n b (λ p. body_at p old)) same

  -- what a view has at a slot
  pub view_past : (limit n : ℕ) (bytes : List ℕ) → limit ≤ n → view_by spell limit bytes n ≡ None
  view_past limit n bytes past = rw (le-ltb n limit past) refl

  pub view_at : (limit n : ℕ) (bytes : List ℕ) → n < limit → view_by spell limit bytes n ≡ behind (gate_at n bytes) (spelled spell n bytes)
  view_at limit n bytes low = rw (lt-ltb n limit low) refl

  pub view_same : (limit n : ℕ) (old new : List ℕ) → (n < limit → gate_at n new ≡ gate_at n old) → (n < limit → gate_at n old ≡ OPEN → body_at n new ≡ body_at n old)
      → view_by spell limit new n ≡ view_by spell limit old n
  view_same limit n old new gate body = elim (cases_lt n limit) [
    | inr past ↦ view_past limit n new past ∙ sym (view_past limit n old past)
    | inl low ↦ view_at limit n new low ∙ elim (cases_eq (gate_at n old) OPEN) [
      | inl is_open ↦ ap (λ (g : ℕ). behind g (spelled spell n new)) (gate low) ∙ ap (behind (gate_at n old)) (spelled_same n old new (body low is_open))
      | inr closed ↦ behind_closed (gate_at n new) (spelled spell n new) (λ e. closed (sym (gate low) ∙ e)) ∙ sym (behind_closed (gate_at n old) (spelled spell n old) closed)
    ] ∙ sym (view_at limit n old low)
  ]

  -- torn in bodies of closed slots: the same
  pub bodies_torn : (S : ℕ → Type 0) (limit end : ℕ) (old new : List ℕ) → IsLong limit old → TornIn (BodiesOf S) end old new → ((n : ℕ) → S n → gate_at n old ≢ OPEN)
      → (n : ℕ) → view_by spell limit new n ≡ view_by spell limit old n
  bodies_torn S limit end old new long t closed n = view_same limit n old new
      (λ low. gate_stays (BodiesOf S) limit end n old new low long t (λ p. gate_no_body n p.0 p.2))
      (λ low is_open. body_stays (BodiesOf S) limit end n old new low long t (λ i here p. let same = same_body n p.0 i here p.2 in closed p.0 p.1 (subst (λ (k : ℕ). gate_at k old ≡ OPEN) same is_open)))

  -- torn in gates: any of them open, with what stands behind them
  pub gates_torn : (S : ℕ → Type 0) (limit end : ℕ) (less more : ℕ → Option T) (old new : List ℕ) → DiffersIn S less more → IsBetween spell S limit less more old
      → TornIn (GatesOf S) end old new → IsBetween spell S limit less more new
  gates_torn S limit end less more old new differs is t = record { long = stays_long (GatesOf S) limit end old new is.long t; between = between; bodies = bodies }
    where
      body : (n : ℕ) → n < limit → body_at n new ≡ body_at n old
      body n low = body_stays (GatesOf S) limit end n old new low is.long t (λ i here p. gate_no_body p.0 n (subst (InRange (slot_place n + 1) 1023) p.2 here))

      bodies : (n : ℕ) → S n → n < limit → spelled spell n new ≡ more n
      bodies n in_s low = spelled_same n old new (body n low) ∙ is.bodies n in_s low

      between : Between less more (view_by spell limit new)
      between n = elim (differs n) [
        | inr outside ↦
            let same = view_same limit n old new
            (λ low. gate_stays (GatesOf S) limit end n old new low is.long t (λ p. outside.0 (subst S (sym (same_gate n p.0 p.2)) p.1))) (λ low is_open. body n low) in
            elim (is.between n) [ inl e ↦ inl (same ∙ e) | inr e ↦ inr (same ∙ e) ]
        | inl inside ↦ elim (cases_lt n limit) [
          | inr past ↦ inl (view_past limit n new past ∙ sym inside.1)
          | inl low ↦ elim (cases_eq (gate_at n new) OPEN) [
            | inl is_open ↦ inr (view_at limit n new low ∙ behind_open (gate_at n new) (spelled spell n new) is_open ∙ bodies n inside.0 low)
            | inr closed ↦ inl (view_at limit n new low ∙ behind_closed (gate_at n new) (spelled spell n new) closed ∙ sym inside.1)
          ]
        ]
      ]
