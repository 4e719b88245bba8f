-- A number at the front of some bytes.
use Rattle.std.specs.Prelude.{◌≡◌, ℕ, ◌^◌, ◌<◌, ◌≤◌, List, [], ◌∷◌, ◌++◌, length, slice_index}
use Rattle.std.specs.Char.{IsNotAsciiDigit}
use Rattle.std.specs.Fmt.{decimal}

-- the bytes begin with no digit
abbrev pub EndsNumber : List ℕ → Type 0
EndsNumber [] = Unit {0}
EndsNumber (b ∷ bytes) = IsNotAsciiDigit b

-- the bytes begin with the decimal of a number below 10^9, and no further digit follows
pub record StartsWithNumber (bytes : List ℕ) (n : ℕ) (rest : List ℕ) : Type 0 where
  pub few : n < 10 ^ 9
  pub spelled : bytes ≡ decimal n ++ rest
  pub ends : EndsNumber rest

-- digits are as many as a number below 10^9 has, and the first is 0 only where it is the only one
pub record IsShort (digits : List ℕ) : Type 0 where
  pub some : 0 < length digits
  pub few : length digits ≤ 9
  pub first : slice_index digits 0 ≡ 48 → length digits ≡ 1
