-- What torn writes leave of what the slots have.
use Rattle.std.specs.Prelude.{◌≡◌, ◌⊎◌, ℕ, ◌<◌, ◌≤◌, List, length, Option, None}
use Rattle.odb_slots.specs.Slots.{slot_place}
use Rattle.odb_slots.specs.Views.{Spelling, spelled, view_by}

-- the file has its slots up to the limit
abbrev pub IsLong : ℕ → List ℕ → Type 0
IsLong limit bytes = slot_place limit ≤ length bytes

-- what is spelled in a slot needs the slot's own body alone
abbrev pub NeedsItsBody : {T : Type 0} → Spelling T → Type 0
NeedsItsBody spell =
    (n : ℕ) (body : List ℕ) (one other : ℕ → List ℕ) → spell n body other ≡ spell n body one

-- each slot has what the one view has, or what the other has
abbrev pub Between : {T : Type 0} → (ℕ → Option T) → (ℕ → Option T) → (ℕ → Option T) → Type 0
Between less more view = (n : ℕ) → (view n ≡ less n) ⊎ (view n ≡ more n)

-- the two views differ in slots of S alone, which the first has closed
abbrev pub DiffersIn : {T : Type 0} → (ℕ → Type 0) → (ℕ → Option T) → (ℕ → Option T) → Type 0
DiffersIn S less more =
    (n : ℕ) → (S n × (less n ≡ None)) ⊎ ((S n → ⊥) × (less n ≡ more n))

-- The bytes have any of the gates of S open, and behind them, open or not, what the larger view
-- has.
pub record IsBetween {T : Type 0} (spell : Spelling T) (S : ℕ → Type 0) (limit : ℕ)
    (less more : ℕ → Option T) (bytes : List ℕ) : Type 0 where
  pub long : IsLong limit bytes
  pub between : Between less more (view_by spell limit bytes)
  pub bodies : (n : ℕ) → S n → n < limit → spelled spell n bytes ≡ more n
