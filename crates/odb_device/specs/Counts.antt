-- What each direction records: its count of faults, its bytes, and the end of its input.
use Rattle.std.specs.Prelude.{◌≡◌, ℕ, ◌+◌, ◌-◌, ◌^◌, ◌≤◌, min, Bool, ◌==◌, ◌||◌, List, ◌++◌, Option, option_map}

-- a count rose: it is greater than before, or stands at its type's end
abbrev pub Rose : ℕ → ℕ → Type 0
Rose before now = min (before + 1) (2 ^ 64 - 1) ≤ now

-- just these bytes come behind those before, where they are told
abbrev pub Adds : List ℕ → Option (List ℕ) → Option (List ℕ) → Type 0
Adds bytes before now = now ≡ option_map (λ b. b ++ bytes) before

-- some bytes, or none, come behind those before
abbrev pub Grows : Option (List ℕ) → Option (List ℕ) → Type 0
Grows before now = (more : List ℕ) × Adds more before now

-- these bytes lie between those before and those now: they add to the first, and the last to them
abbrev pub LiesBetween : Option (List ℕ) → Option (List ℕ) → Option (List ℕ) → Type 0
LiesBetween before said now = Grows before said × Grows said now

-- the end of the input is recorded where a call answered n = 0, and stays recorded
abbrev pub Ends : ℕ → Bool → Bool → Type 0
Ends n before now = now ≡ (n == 0 || before)
