-- What bytes that stand for a pair hold.
use Rattle.std.proofs.Common.{◌≡◌, ◌≢◌, inl, inr, ℕ, ◌-◌, ◌≤◌, Bool, false, List, length, refl, sym, ◌∙◌, ap, subst, arith}
use Rattle.std.proofs.lemmas.Bool.{cases_eq, cases_Bool}
use Rattle.std.proofs.lemmas.Bool.Decides.{nat_tests}
use Rattle.odb_pair.specs.Places.{OPEN, gate, sequence, payload, next, holding, Holds}
use Rattle.odb_pair.specs.Standing.{PairState, StandsFor, HoldsKept}

next_twice : (n : ℕ) → next (next n) ≡ n → ⊥
unfolding next
next_twice n e = omega arith

module _ (c : List ℕ) (long : 1024 ≤ length c) where
  first_alone : gate 0 c ≡ OPEN → gate 1 c ≢ OPEN → Holds (payload 0 c) c
  first_alone open0 shut1 = grind (arith, nat_tests)

  second_alone : gate 1 c ≡ OPEN → gate 0 c ≢ OPEN → Holds (payload 1 c) c
  second_alone open1 shut0 = grind (arith, nat_tests)

  second_later : gate 0 c ≡ OPEN → gate 1 c ≡ OPEN → sequence 1 c ≡ next (sequence 0 c) → Holds (payload 1 c) c
  second_later open0 open1 later = grind (arith, nat_tests)

  first_later : gate 0 c ≡ OPEN → gate 1 c ≡ OPEN → sequence 0 c ≡ next (sequence 1 c) → Holds (payload 0 c) c
  first_later open0 open1 later =
      let not_both : sequence 1 c ≢ next (sequence 0 c) = λ e. next_twice (sequence 1 c) (ap next (sym later) ∙ sym e) in
      grind (arith, nat_tests)

  -- for either place p and the other, o
  alone : (p o : ℕ) → p ≤ 1 → o ≡ 1 - p → gate p c ≡ OPEN → gate o c ≢ OPEN → Holds (payload p c) c
  alone p o small other is_open shut = elim (cases_eq p 0) [
    | inl first ↦
        let second : o ≡ 1 = omega arith in
        subst (λ (k : ℕ). Holds (payload k c) c) (sym first) (first_alone (ap (λ (k : ℕ). gate k c) (sym first) ∙ is_open) (λ e. shut (ap (λ (k : ℕ). gate k c) second ∙ e)))
    | inr none ↦
        let second : p ≡ 1 = omega arith in
        let first : o ≡ 0 = omega arith in
        subst (λ (k : ℕ). Holds (payload k c) c) (sym second) (second_alone (ap (λ (k : ℕ). gate k c) (sym second) ∙ is_open) (λ e. shut (ap (λ (k : ℕ). gate k c) first ∙ e)))
  ]

  later : (p o : ℕ) → p ≤ 1 → o ≡ 1 - p → gate p c ≡ OPEN → gate o c ≡ OPEN → sequence p c ≡ next (sequence o c) → Holds (payload p c) c
  later p o small other is_open also_open follows = elim (cases_eq p 0) [
    | inl first ↦
        let second : o ≡ 1 = omega arith in
        subst (λ (k : ℕ). Holds (payload k c) c) (sym first)
        (first_later (ap (λ (k : ℕ). gate k c) (sym first) ∙ is_open) (ap (λ (k : ℕ). gate k c) (sym second) ∙ also_open) (ap (λ (k : ℕ). sequence k c) (sym first) ∙ follows ∙ ap (λ (k : ℕ). next (sequence k c)) second))
    | inr none ↦
        let second : p ≡ 1 = omega arith in
        let first : o ≡ 0 = omega arith in
        subst (λ (k : ℕ). Holds (payload k c) c) (sym second)
        (second_later (ap (λ (k : ℕ). gate k c) (sym first) ∙ also_open) (ap (λ (k : ℕ). gate k c) (sym second) ∙ is_open) (ap (λ (k : ℕ). sequence k c) (sym second) ∙ follows ∙ ap (λ (k : ℕ). next (sequence k c)) first))
  ]

pub opens : (pair : PairState) (c : List ℕ) → StandsFor pair c → HoldsKept pair c
opens pair c h =
    let p = pair.place in
    let o = 1 - pair.place in
    let small : o ≤ 1 = omega arith in
    let back : p ≡ 1 - o = omega (arith, h.place) in
    elim (cases_eq (gate o c) OPEN) [
      | inr shut ↦ inl (alone c h.long p o h.place refl h.is_open shut ∙ ap holding h.value)
      | inl also_open ↦ elim (h.other (not_closed also_open)) [
        | inl tried ↦ inr (later c h.long o p small back also_open h.is_open (tried.0 ∙ ap next (sym h.number)) ∙ ap holding tried.1)
        | inr older ↦ inl (later c h.long p o h.place refl h.is_open also_open (h.number ∙ sym older) ∙ ap holding h.value)
      ]
    ]
  where
    not_closed : gate (1 - pair.place) c ≡ OPEN → pair.closed ≡ false
    not_closed is_open = elim (cases_Bool pair.closed) [
      | inl shut ↦ absurd (h.closed shut is_open)
      | inr other ↦ other
    ]

-- where the value kept is all that was tried
pub opens_settled : (pair : PairState) (c : List ℕ) → pair.tried ≡ pair.value → StandsFor pair c → Holds pair.value c
opens_settled pair c same h = elim (opens pair c h) [
  | inl kept ↦ kept
  | inr tried ↦ tried ∙ ap holding same
]

-- settled or not, the bytes are the pair's
pub stands_marked : (pair : PairState) (settled : Bool) (c : List ℕ) → StandsFor pair c → StandsFor (record pair { settled = settled }) c
stands_marked pair settled c h = record { place = h.place; long = h.long; is_open = h.is_open; number = h.number; value = h.value; closed = h.closed; other = h.other }
