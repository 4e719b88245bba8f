-- Files by their numbers, each with its bytes.
use Rattle.std.specs.Prelude.{◌≡◌, ℕ, zero, suc, ◌+◌, ◌-◌, ◌^◌, if◌then◌else◌, ◌==◌, List, [], ◌∷◌, ◌++◌, length, take, drop, replicate}

-- the bytes of a file; one that isn't there has none
abbrev pub bytes_of : List (ℕ × List ℕ) → ℕ → List ℕ
bytes_of [] file = []
bytes_of (f ∷ files) file = if f.0 == file then f.1 else bytes_of files file

-- the file has these bytes, where it was or behind the others
abbrev pub with_bytes : List (ℕ × List ℕ) → ℕ → List ℕ → List (ℕ × List ℕ)
with_bytes [] file bytes = (file, bytes) ∷ []
with_bytes (f ∷ files) file bytes =
    if f.0 == file then (f.0, bytes) ∷ files else f ∷ with_bytes files file bytes

-- the file has what this makes of its bytes
abbrev pub with_changed : List (ℕ × List ℕ) → ℕ → (List ℕ → List ℕ) → List (ℕ × List ℕ)
with_changed files file change = with_bytes files file (change (bytes_of files file))

-- the files are the same, but for the bytes of this one
abbrev pub AreSameBut : ℕ → List (ℕ × List ℕ) → List (ℕ × List ℕ) → Type 0
AreSameBut file old new = (bytes : List ℕ) → with_bytes new file bytes ≡ with_bytes old file bytes

-- the file is there, so that it may be given the bytes that it has
abbrev pub IsThere : List (ℕ × List ℕ) → ℕ → Type 0
IsThere files file = files ≡ with_bytes files file (bytes_of files file)

-- with zeros behind, at least so long
abbrev pub extended : ℕ → List ℕ → List ℕ
extended end bytes = bytes ++ replicate (end - length bytes) 0

-- with a piece written over what is there
abbrev pub pasted : ℕ → List ℕ → List ℕ → List ℕ
pasted at piece bytes = take at bytes ++ piece ++ drop (at + length piece) bytes

-- the sum of what the numbers below n have
unfoldable pub sum_below : ℕ → (ℕ → ℕ) → ℕ
sum_below zero f = 0
sum_below (suc n) f = f n + sum_below n f

-- the lengths of all files together, where each number below 2^32 is that of a file
unfoldable pub all_lengths : (ℕ → ℕ) → ℕ
all_lengths length_of = sum_below (2 ^ 32) length_of

-- the lengths of all of these files together
abbrev pub lengths_of : List (ℕ × List ℕ) → ℕ
lengths_of files = all_lengths (λ file. length (bytes_of files file))
