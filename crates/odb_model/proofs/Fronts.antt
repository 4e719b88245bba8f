-- A front of a line, and the CR that an LF's line drops.
use Rattle.std.proofs.Common.{◌≡◌, ℕ, ◌+◌, ◌-◌, ◌<◌, ◌≤◌, true, false, ◌==◌, cond, List, [], ◌∷◌, ◌++◌, length, take, drop, subst, eqb-true, lt-ltb, refl, sym, ap, ◌∙◌, arith, inl, inr, length-append}
use Rattle.std.specs.Prelude.{◌⊎◌, nat_lt}
use Rattle.std.proofs.lemmas.List.{take-append-le, take-append-drop, take_all, length-take-le, append-nil}
use Rattle.std.proofs.Math.Seq.{take-append-add}
use Rattle.std.proofs.lemmas.Bool.{cases_lt, le-ltb}
use Rattle.std.proofs.Math.Nat.{eq-or-lt_of_le}
use Rattle.odb_model.specs.Script.{without_cr}

-- what is dropped is nothing, or one CR
pub dropped_cr : (o : List ℕ) → (without_cr o ≡ o) ⊎ (o ≡ without_cr o ++ 13 ∷ [])
dropped_cr [] = inl refl
dropped_cr (b ∷ []) =
    elim (b == 13) as (λ c. (b == 13) ≡ c → (cond c [] (b ∷ []) ≡ b ∷ []) ⊎ (b ∷ [] ≡ cond c [] (b ∷ []) ++ 13 ∷ [])) [
      | true ↦ λ e. inr (ap (λ x. x ∷ []) (eqb-true b 13 e))
      | false ↦ λ e. inl refl
    ] refl
dropped_cr (b ∷ c ∷ bytes) = elim (dropped_cr (c ∷ bytes)) as (λ w. (without_cr (b ∷ c ∷ bytes) ≡ b ∷ c ∷ bytes) ⊎ (b ∷ c ∷ bytes ≡ without_cr (b ∷ c ∷ bytes) ++ 13 ∷ [])) [
  | inl same ↦ inl (ap (λ x. b ∷ x) same)
  | inr cr ↦ inr (ap (λ x. b ∷ x) cr)
]

-- the line is this, or longer than n bytes and begins so
abbrev pub IsFrontOf : ℕ → List ℕ → List ℕ → Type 0
IsFrontOf n front line = (front ≡ line) ⊎ ((n < length line) × (front ≡ take n line))

front_of_longer : (n : ℕ) (line more : List ℕ) → n ≤ length line → IsFrontOf n (take n (line ++ more)) line
front_of_longer n line more long =
    elim (eq-or-lt_of_le long) as (λ w. IsFrontOf n (take n (line ++ more)) line) [
      | inl same ↦ inl (take-append-le n line more long ∙ take_all n line (omega arith))
      | inr less ↦ inr (less, take-append-le n line more long)
    ]

-- a shorter front of a front
take-front : (n : ℕ) (o : List ℕ) → n < length o → take n (take (n + 1) o) ≡ take n o
take-front n o long =
    let within : n ≤ length (take (n + 1) o) = rw (length-take-le (n + 1) o (omega arith)) (omega arith) in
    sym (take-append-le n (take (n + 1) o) (drop (n + 1) o) within) ∙ ap (take n) (take-append-drop (n + 1) o)

-- more bytes go onto what is kept, as far as there is room
pub kept-more : (n : ℕ) (o b : List ℕ) → take n o ++ take (n - length (take n o)) b ≡ take n (o ++ b)
kept-more n o b =
    elim (cases_lt (length o) n) as (λ w. take n o ++ take (n - length (take n o)) b ≡ take n (o ++ b)) [
      | inl shorter ↦
          let all : take n o ≡ o = take_all n o (omega arith) in
          let rest : length o + (n - length o) ≡ n = omega arith in
          ap (λ x. x ++ take (n - length x) b) all ∙ sym (take-append-add o b (n - length o)) ∙ ap (λ k. take k (o ++ b)) rest
      | inr longer ↦
          let none : n - length (take n o) ≡ 0 = rw (length-take-le n o longer) (omega arith) in
          ap (λ k. take n o ++ take k b) none ∙ append-nil (take n o) ∙ sym (take-append-le n o b longer)
    ]

-- what is read of an ended line of which n + 1 bytes are kept
pub front-ended : (n : ℕ) (o : List ℕ) → IsFrontOf n (cond (nat_lt n (length (take (n + 1) o))) (take n (take (n + 1) o)) (without_cr (take (n + 1) o))) (without_cr o)
front-ended n o =
    elim (cases_lt n (length o)) as (λ w. IsFrontOf n (cond (nat_lt n (length (take (n + 1) o))) (take n (take (n + 1) o)) (without_cr (take (n + 1) o))) (without_cr o)) [
      | inl longer ↦
          let full : nat_lt n (length (take (n + 1) o)) ≡ true = lt-ltb n (length (take (n + 1) o)) (rw (length-take-le (n + 1) o (omega arith)) (omega arith)) in
          let read : cond (nat_lt n (length (take (n + 1) o))) (take n (take (n + 1) o)) (without_cr (take (n + 1) o)) ≡ take n o =
          ap (λ b. cond b (take n (take (n + 1) o)) (without_cr (take (n + 1) o))) full ∙ take-front n o longer in
          subst (λ (x : List ℕ). IsFrontOf n x (without_cr o)) (sym read) (elim (dropped_cr o) as (λ w. IsFrontOf n (take n o) (without_cr o)) [
            | inl same ↦ inr (subst (λ (x : List ℕ). n < length x) (sym same) longer, ap (take n) (sym same))
            | inr cr ↦
                let count : length o ≡ length (without_cr o) + 1 = ap length cr ∙ length-append (without_cr o) (13 ∷ []) in
                subst (λ (x : List ℕ). IsFrontOf n (take n x) (without_cr o)) (sym cr) (front_of_longer n (without_cr o) (13 ∷ []) (omega arith))
          ])
      | inr shorter ↦
          let all : take (n + 1) o ≡ o = take_all (n + 1) o (omega arith) in
          let short : nat_lt n (length (take (n + 1) o)) ≡ false = ap (λ x. nat_lt n (length x)) all ∙ le-ltb n (length o) shorter in
          inl (ap (λ b. cond b (take n (take (n + 1) o)) (without_cr (take (n + 1) o))) short ∙ ap without_cr all)
    ]

-- what is read of a last line of which n + 1 bytes are kept
pub front-last : (n : ℕ) (o : List ℕ) → IsFrontOf n (take n (take (n + 1) o)) o
front-last n o =
    elim (cases_lt n (length o)) as (λ w. IsFrontOf n (take n (take (n + 1) o)) o) [
      | inl longer ↦ inr (longer, take-front n o longer)
      | inr shorter ↦ inl (ap (take n) (take_all (n + 1) o (omega arith)) ∙ take_all n o shorter)
    ]
