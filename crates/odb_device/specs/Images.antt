-- What a crash may leave of a file, and what the calls do to it.
use Rattle.std.specs.Prelude.{◌≡◌, ◌⊎◌, ℕ, ◌+◌, ◌-◌, ◌<◌, ◌≤◌, max, List, [], ◌∷◌, ◌++◌, length, take, drop, replicate, slice_index, Option, Some, None, IfSome}
use Rattle.odb_device.specs.World.{File}

-- byte i lies in none of the ranges
abbrev pub IsOutside : List (ℕ × ℕ) → ℕ → Type 0
IsOutside [] i = Unit {0}
IsOutside (r ∷ ranges) i = ((i < r.0) ⊎ (r.0 + r.1 ≤ i)) × IsOutside ranges i

-- the greatest end of the ranges, at least n
abbrev pub end_of : List (ℕ × ℕ) → ℕ → ℕ
end_of [] n = n
end_of (r ∷ ranges) n = max (r.0 + r.1) (end_of ranges n)

-- A crash may leave these bytes: those of the last sync, but for the ranges written since, by a
-- write that succeeded or failed, and for whatever lies past the synced end, up to the greatest end
-- written since.
pub record IsImage (file : File) (image : List ℕ) : Type 0 where
  pub no_shorter : length file.synced ≤ length image
  pub no_longer : length image ≤ end_of file.ranges (length file.synced)
  pub outside : (i : ℕ) → i < length file.synced → IsOutside file.ranges i
      → slice_index image i ≡ slice_index file.synced i

-- an image of a told file; of one that isn't told, any bytes
abbrev pub IsImageOf : Option File → List ℕ → Type 0
IsImageOf file image = IfSome file (λ f. IsImage f image)

-- each image has P, where the file is told
abbrev pub EachImage : (List ℕ → Type 0) → Option File → Type 0
EachImage P file = IfSome file (λ f. (image : List ℕ) → IsImage f image → P image)

-- what is read now is one of the images, where the file is told
abbrev pub ReadsImage : Option File → Type 0
ReadsImage file = IfSome file (λ f. IsImage f f.bytes)

-- all of the file is on the disk, where it is told
abbrev pub IsKept : Option File → Type 0
IsKept file = IfSome file (λ f. (f.synced ≡ f.bytes) × (f.ranges ≡ []))

-- n bytes from `at` on may be others, and the part past the old end too; the rest stays
pub record Torn (at n : ℕ) (old new : List ℕ) : Type 0 where
  pub no_shorter : length old ≤ length new
  pub no_longer : length new ≤ max (length old) (at + n)
  pub outside : (i : ℕ) → i < length old → (i < at) ⊎ (at + n ≤ i)
      → slice_index new i ≡ slice_index old i

-- each image is one from before, but for n bytes from `at` on
abbrev pub TornFrom : ℕ → ℕ → Option File → Option File → Type 0
TornFrom at n None new = new ≡ None
TornFrom at n (Some old) new =
    EachImage (λ image. (before : List ℕ) × IsImage old before × Torn at n before image) new

-- the n bytes from `at` on, as far as there are so many
abbrev pub part : ℕ → ℕ → List ℕ → List ℕ
part at n bytes = take n (drop at bytes)

-- old with these bytes at `at`, and zeros in a gap before them
unfoldable pub overwritten : ℕ → List ℕ → List ℕ → List ℕ
overwritten at bytes old =
    take at (old ++ replicate (at - length old) 0) ++ bytes ++ drop (at + length bytes) old

-- after a write
abbrev pub written : ℕ → List ℕ → File → File
written at bytes file = record {
  bytes = overwritten at bytes file.bytes;
  synced = file.synced;
  ranges = (at, length bytes) ∷ file.ranges;
}

-- after a write of n bytes that failed, when a read gives these bytes
abbrev pub torn : ℕ → ℕ → List ℕ → File → File
torn at n now file = record { bytes = now; synced = file.synced; ranges = (at, n) ∷ file.ranges }

-- after a sync
abbrev pub kept : File → File
kept file = record { bytes = file.bytes; synced = file.bytes; ranges = [] }

-- after a sync that failed, when a read gives these bytes
abbrev pub reading : List ℕ → File → File
reading now file = record { bytes = now; synced = file.synced; ranges = file.ranges }
