-- Numbers as decimals without a leading zero.
use Rattle.std.specs.Prelude.{◌≡◌, ℕ, ◌^◌, ◌<◌, ◌≤◌, List, ◌++◌, length, slice_index}
use Rattle.std.specs.Fmt.{decimal}
use Rattle.std.specs.Str.Parse.{AllDigits, digits_value}

-- the bytes are the decimal of this number, which is below 10^15
abbrev pub IsDecimalOf : List ℕ → ℕ → Type 0
IsDecimalOf bytes n = (n < 10 ^ 15) × (bytes ≡ decimal n)

-- the bytes are digits, with this value
abbrev pub IsValueOf : List ℕ → ℕ → Type 0
IsValueOf bytes n = AllDigits 10 bytes × (n ≡ digits_value 10 bytes)

-- as many as a number below 10^15 has, and the first is 0 only where it is the only one
pub record IsTrimmed (digits : List ℕ) : Type 0 where
  pub some : 0 < length digits
  pub few : length digits ≤ 15
  pub first : slice_index digits 0 ≡ 48 → length digits ≡ 1

-- between two texts of a line stands the decimal of this number, which is below a limit
abbrev pub StandsBetween : ℕ → List ℕ → List ℕ → List ℕ → ℕ → Type 0
StandsBetween limit line before after n = (n < limit) × (line ≡ before ++ decimal n ++ after)

-- no number below the limit stands there
abbrev pub NoneBetween : ℕ → List ℕ → List ℕ → List ℕ → Type 0
NoneBetween limit line before after =
    (n : ℕ) → n < limit → line ≡ before ++ decimal n ++ after → ⊥
