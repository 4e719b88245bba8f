-- Whether a list has something that passes a test.
use Rattle.std.proofs.Common.{◌≡◌, ℕ, zero, suc, Bool, true, false, List, [], ◌∷◌, Some, sym, ◌∙◌, ap, refl}
use Rattle.std.specs.Prelude.{slice_get, ◌||◌}
use Rattle.std.specs.List.{list_any}
use Rattle.std.proofs.lemmas.Bool.{or_parts}

module _ {T : Type 0} (f : T → Bool) where
  pub any_at : (xs : List T) (k : ℕ) (x : T) → slice_get xs k ≡ Some x → f x ≡ true → list_any f xs ≡ true
  any_at [] k x is passes = absurd (cc is)
  any_at (y ∷ xs) zero x is passes = let same : y ≡ x = cc is in ap (λ (b : Bool). b || list_any f xs) (ap f same ∙ passes)
  any_at (y ∷ xs) (suc k) x is passes = go (f y) (any_at xs k x is passes)
    where
      go : (b : Bool) → list_any f xs ≡ true → (b || list_any f xs) ≡ true
      go true rest = refl
      go false rest = rest

  pub any_found : (xs : List T) → list_any f xs ≡ true → (k : ℕ) × (x : T) × (slice_get xs k ≡ Some x) × (f x ≡ true)
  any_found [] is = absurd (cc is)
  any_found (y ∷ xs) is = go (f y) refl (λ e. any_found xs (sym (ap (λ (b : Bool). b || list_any f xs) e) ∙ is))
    where
      go : (b : Bool) → f y ≡ b → (f y ≡ false → (k : ℕ) × (x : T) × (slice_get xs k ≡ Some x) × (f x ≡ true)) → (k : ℕ) × (x : T) × (slice_get (y ∷ xs) k ≡ Some x) × (f x ≡ true)
      go true e later = (zero, y, refl, e)
      go false e later = let rest = later e in (suc rest.0, rest.1, rest.2, rest.3)

  pub any_none : (xs : List T) → ((k : ℕ) (x : T) → slice_get xs k ≡ Some x → f x ≡ false) → list_any f xs ≡ false
  any_none [] none = refl
  any_none (y ∷ xs) none = ap (λ (b : Bool). b || list_any f xs) (none zero y refl) ∙ any_none xs (λ k x is. none (suc k) x is)

  pub none_of : (xs : List T) → list_any f xs ≡ false → (k : ℕ) (x : T) → slice_get xs k ≡ Some x → f x ≡ false
  none_of [] is k x at = absurd (cc at)
  none_of (y ∷ xs) is zero x at = let parts = or_parts (f y) (list_any f xs) is in let same : y ≡ x = cc at in ap f (sym same) ∙ parts.0
  none_of (y ∷ xs) is (suc k) x at = let parts = or_parts (f y) (list_any f xs) is in none_of xs parts.1 k x at
