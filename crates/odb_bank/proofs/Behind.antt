-- Lists one behind another.
use Rattle.std.proofs.Common.{◌≡◌, ◌⊎◌, inl, inr, ℕ, zero, suc, ◌+◌, ◌<◌, List, [], ◌∷◌, ◌++◌, length, Some, ◌∙◌, ap, refl, arith}
use Rattle.std.specs.Prelude.{slice_get}

pub append_cases : {T : Type 0} → (xs ys : List T) (k : ℕ) (x : T) → slice_get (xs ++ ys) k ≡ Some x → (slice_get xs k ≡ Some x) ⊎ ((j : ℕ) × (slice_get ys j ≡ Some x) × (k ≡ length xs + j))
append_cases [] ys k x is = inr (k, is, omega arith)
append_cases (y ∷ xs) ys zero x is = inl is
append_cases (y ∷ xs) ys (suc k) x is = elim (append_cases xs ys k x is) [ inl here ↦ inl here | inr there ↦ inr (there.0, there.1, omega (arith, there.2)) ]

pub append_left : {T : Type 0} → (xs ys : List T) (k : ℕ) (x : T) → slice_get xs k ≡ Some x → slice_get (xs ++ ys) k ≡ Some x
append_left [] ys k x is = absurd (cc is)
append_left (y ∷ xs) ys zero x is = is
append_left (y ∷ xs) ys (suc k) x is = append_left xs ys k x is

pub append_right : {T : Type 0} → (xs ys : List T) (j : ℕ) (x : T) → slice_get ys j ≡ Some x → slice_get (xs ++ ys) (length xs + j) ≡ Some x
append_right [] ys j x is = let same : 0 + j ≡ j = omega arith in ap (slice_get ys) same ∙ is
append_right (y ∷ xs) ys j x is = let same : suc (length xs) + j ≡ suc (length xs + j) = omega arith in ap (slice_get (y ∷ (xs ++ ys))) same ∙ append_right xs ys j x is

pub pushed_last : {T : Type 0} → (xs : List T) (x : T) → slice_get (xs ++ x ∷ []) (length xs) ≡ Some x
pushed_last [] x = refl
pushed_last (y ∷ xs) x = pushed_last xs x

pub item_there : {T : Type 0} → (xs : List T) (k : ℕ) → k < length xs → (x : T) × (slice_get xs k ≡ Some x)
item_there [] k low = absurd (omega arith)
item_there (x ∷ xs) zero low = (x, refl)
item_there (x ∷ xs) (suc k) low = item_there xs k (omega arith)
