-- What looks only at some of the bytes.
use Rattle.std.specs.Prelude.{◌≡◌, ℕ, ◌<◌, ◌≤◌, List, length, slice_index}

-- the two have at least so many bytes, and below that agree at each place in A
pub record AgreeIn (A : ℕ → Type 0) (least : ℕ) (a b : List ℕ) : Type 0 where
  pub long : least ≤ length a
  pub as_long : least ≤ length b
  pub same : (i : ℕ) → i < least → A i → slice_index b i ≡ slice_index a i

-- f looks only at the bytes below `least` at places in A
abbrev pub LooksAt : {T : Type 0} → (ℕ → Type 0) → ℕ → (List ℕ → T) → Type 0
LooksAt A least f = (a b : List ℕ) → AgreeIn A least a b → f b ≡ f a

-- P holds of bytes that agree there with bytes of which it holds
abbrev pub AsksOf : (ℕ → Type 0) → ℕ → (List ℕ → Type 0) → Type 0
AsksOf A least P = (a b : List ℕ) → AgreeIn A least a b → P a → P b
