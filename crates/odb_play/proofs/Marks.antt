-- Where an LF stands, and a CR at the end.
use Rattle.std.proofs.Common.{◌≡◌, ℕ, ◌+◌, ◌<◌, true, false, ◌==◌, ◌||◌, cond, List, [], ◌∷◌, ◌++◌, length, take, drop, subst, add-one, refl, sym, ap, ◌∙◌, Some, None, arith, inl, inr, eqb-true, suc}
use Rattle.std.specs.Prelude.{position}
use Rattle.std.specs.List.{list_any, position_from}
use Rattle.std.proofs.lemmas.Iterator.Adapters.{position_from-zero}
use Rattle.odb_model.specs.Script.{without_cr}
use Rattle.odb_model.proofs.Fronts.{dropped_cr}
use Rattle.odb_reply.specs.Unbroken.{HasNoLf}

-- where an LF is sought and not found, there is none
no_lf_from : (k : ℕ) (bytes : List ℕ) → position_from (λ b. b == 10) k bytes ≡ None → HasNoLf bytes
no_lf_from k [] e = refl
no_lf_from k (b ∷ bytes) e =
    elim (b == 10) as (λ c. cond c (Some k) (position_from (λ x. x == 10) (k + 1) bytes) ≡ None → (c || list_any (λ x. x == 10) bytes) ≡ false) [
      | true ↦ λ found. cc
      | false ↦ λ more. no_lf_from (k + 1) bytes more
    ] e

pub no_lf : (bytes : List ℕ) → position (λ b. b == 10) bytes ≡ None → HasNoLf bytes
no_lf bytes e = no_lf_from 0 bytes (sym (position_from-zero (λ b. b == 10) bytes) ∙ e)

-- the first LF stands n bytes on: none is before it, and this is how the bytes go on
pub record IsLfAt (n : ℕ) (bytes : List ℕ) : Type 0 where
  pub within : n < length bytes
  pub before : HasNoLf (take n bytes)
  pub split : bytes ≡ take n bytes ++ 10 ∷ drop (n + 1) bytes

one_further : (b n : ℕ) (bytes : List ℕ) → (b == 10) ≡ false → IsLfAt n bytes → IsLfAt (suc n) (b ∷ bytes)
one_further b n bytes other at = record {
  within = omega (arith, at.within);
  before = ap (λ c. c || list_any (λ x. x == 10) (take n bytes)) other ∙ at.before;
  split = ap (λ x. b ∷ x) (at.split ∙ ap (λ k. take n bytes ++ 10 ∷ drop k bytes) (add-one n)) ∙ sym (ap (λ k. b ∷ (take n bytes ++ 10 ∷ drop k (b ∷ bytes))) (add-one (suc n)));
}

found_from : (k : ℕ) (bytes : List ℕ) (n : ℕ) → position_from (λ b. b == 10) k bytes ≡ Some n → (i : ℕ) × (n ≡ k + i) × IsLfAt i bytes
found_from k [] n e = cc
found_from k (b ∷ bytes) n e =
    elim (b == 10) as (λ c. (b == 10) ≡ c → cond c (Some k) (position_from (λ x. x == 10) (k + 1) bytes) ≡ Some n → (i : ℕ) × (n ≡ k + i) × IsLfAt i (b ∷ bytes)) [
      | true ↦ λ same found.
          let here : k ≡ n = cc in
          let place : n ≡ k + 0 = omega arith in
          (0, place, record { within = omega arith; before = refl; split = ap (λ x. x ∷ bytes) (eqb-true b 10 same) })
      | false ↦ λ other found.
          let more = found_from (k + 1) bytes n found in
          let there : n ≡ k + 1 + more.0 = more.1 in
          let place : n ≡ k + suc more.0 = omega arith in
          (suc more.0, place, one_further b more.0 bytes other more.2)
    ] refl e

pub lf_at : (bytes : List ℕ) (n : ℕ) → position (λ b. b == 10) bytes ≡ Some n → IsLfAt n bytes
lf_at bytes n e =
    let found = found_from 0 bytes n (sym (position_from-zero (λ b. b == 10) bytes) ∙ e) in
    let there : n ≡ 0 + found.0 = found.1 in
    let same : n ≡ found.0 = omega arith in
    subst (λ (x : ℕ). IsLfAt x bytes) (sym same) found.2

pub without_cr-cr : (bytes : List ℕ) → without_cr (bytes ++ 13 ∷ []) ≡ bytes
without_cr-cr [] = refl
without_cr-cr (b ∷ []) = refl
without_cr-cr (b ∷ c ∷ bytes) = ap (λ x. b ∷ x) (without_cr-cr (c ∷ bytes))

pub without_cr-none : (bytes : List ℕ) → ((front : List ℕ) → bytes ≡ front ++ 13 ∷ [] → ⊥) → bytes ≡ without_cr bytes
without_cr-none bytes none = elim (dropped_cr bytes) as (λ w. bytes ≡ without_cr bytes) [ inl same ↦ sym same | inr cr ↦ absurd (none (without_cr bytes) cr) ]
