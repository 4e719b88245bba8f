-- How the bytes of files lie in memory, one behind another.
use Rattle.std.specs.Prelude.{◌≡◌, ℕ, suc, ◌+◌, ◌≤◌, if◌then◌else◌, ◌==◌, List, [], ◌∷◌, length, take, drop}
use Rattle.odb_memstore.specs.declared.files.Held.{Held}
use Rattle.odb_memstore.specs.Numbered.{bytes_of, with_bytes, lengths_of}

-- the files of these entries, whose bytes lie one behind another
abbrev pub contents : List Held → List ℕ → List (ℕ × List ℕ)
contents [] bytes = []
contents (h ∷ held) bytes = (h.file, take h.len bytes) ∷ contents held (drop h.len bytes)

-- the lengths of the entries together
abbrev pub held_length : List Held → ℕ
held_length [] = 0
held_length (h ∷ held) = h.len + held_length held

-- the place of the file's entry, counted from 0; past the last where it has none
abbrev pub place_of : List Held → ℕ → ℕ
place_of [] file = 0
place_of (h ∷ held) file = if h.file == file then 0 else suc (place_of held file)

-- where the file's bytes begin; past the last where it has no entry
abbrev pub start_of : List Held → ℕ → ℕ
start_of [] file = 0
start_of (h ∷ held) file = if h.file == file then 0 else h.len + start_of held file

-- how many bytes the file has
abbrev pub length_of : List Held → ℕ → ℕ
length_of [] file = 0
length_of (h ∷ held) file = if h.file == file then h.len else length_of held file

-- the lengths of these files, entry by entry
abbrev pub total_length : List (ℕ × List ℕ) → ℕ
total_length [] = 0
total_length (f ∷ files) = length f.1 + total_length files

-- The bytes are just those of the entries, and the lengths of the files that these give are those
-- of all files: no number has two entries.
pub record IsLaid (held : List Held) (bytes : List ℕ) : Type 0 where
  pub packed : held_length held ≡ length bytes
  pub total : total_length (contents held bytes) ≡ lengths_of (contents held bytes)

-- the same files, but that this one surely has an entry
abbrev pub Enters : ℕ → List Held → List Held → Type 0
Enters file old new =
    (bytes : List ℕ) → held_length old ≤ length bytes
    → contents new bytes ≡ with_bytes (contents old bytes) file (bytes_of (contents old bytes) file)
