-- Numbers in words.
use Rattle.std.specs.Prelude.{◌≡◌, ℕ, ◌≤◌, List}
use Rattle.std.specs.Fmt.{decimal}

-- the word is the decimal of this number, which lies in a range
abbrev pub IsDecimalIn : ℕ → ℕ → List ℕ → ℕ → Type 0
IsDecimalIn least most word n = (word ≡ decimal n) × (least ≤ n) × (n ≤ most)
