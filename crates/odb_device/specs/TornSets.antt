-- Bytes of which a crash may have changed those at many places.
use Rattle.std.specs.Prelude.{◌≡◌, ℕ, ◌+◌, ◌<◌, ◌≤◌, max, List, length, slice_index, Option, Some, None}
use Rattle.odb_device.specs.World.{File}
use Rattle.odb_device.specs.Images.{IsImage, EachImage}

-- one of the n places from `at` on
abbrev pub InRange : ℕ → ℕ → ℕ → Type 0
InRange at n i = (at ≤ i) × (i < at + n)

-- The bytes at places in P may be others, and the part past the old end too, up to the length
-- `end`; the rest stays.
pub record TornIn (P : ℕ → Type 0) (end : ℕ) (old new : List ℕ) : Type 0 where
  pub no_shorter : length old ≤ length new
  pub no_longer : length new ≤ max (length old) end
  pub outside : (i : ℕ) → i < length old → (P i → ⊥) → slice_index new i ≡ slice_index old i

-- each image is one from before, but for the places in P
abbrev pub TornInFrom : (ℕ → Type 0) → ℕ → Option File → Option File → Type 0
TornInFrom P end None new = new ≡ None
TornInFrom P end (Some old) new =
    EachImage (λ image. (before : List ℕ) × IsImage old before × TornIn P end before image) new
