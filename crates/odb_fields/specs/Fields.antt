-- Numbers in fields, one behind another: each big-endian, in as many bytes as its width says.
use Rattle.std.specs.Prelude.{ℕ, ◌<◌, ◌^◌, ◌-◌, ◌==◌, List, [], ◌∷◌, ◌++◌, drop, replicate, sum, Option, Some, None, if◌then◌else◌}
use Rattle.std.specs.Cmp.Lexicographic.{pointwise}
use Rattle.byteorder.specs.Endian.{big_bytes, big_number}

-- there is a number for each width, and it fits
abbrev pub Fit : List ℕ → List ℕ → Type 0
Fit [] [] = Unit {0}
Fit [] (n ∷ numbers) = ⊥
Fit (w ∷ widths) [] = ⊥
Fit (w ∷ widths) (n ∷ numbers) = (n < 256 ^ w) × Fit widths numbers

-- the fields as bytes
abbrev pub fields_image : List ℕ → List ℕ → List ℕ
fields_image [] numbers = []
fields_image (w ∷ widths) [] = []
fields_image (w ∷ widths) (n ∷ numbers) = big_bytes w n ++ fields_image widths numbers

-- the numbers at the front of bytes
abbrev pub numbers_in : List ℕ → List ℕ → List ℕ
numbers_in [] bytes = []
numbers_in (w ∷ widths) bytes = big_number w bytes ∷ numbers_in widths (drop w bytes)

-- the fields, and zeros up to this size
abbrev pub padded_image : ℕ → List ℕ → List ℕ → List ℕ
padded_image size widths numbers =
    fields_image widths numbers ++ replicate (size - sum widths) 0

-- the numbers that bytes are such an image of; None where they are none
abbrev pub fields_of : ℕ → List ℕ → List ℕ → Option (List ℕ)
fields_of size widths bytes =
    let numbers = numbers_in widths bytes in
    if pointwise ◌==◌ (padded_image size widths numbers) bytes then Some numbers else None
