-- What files in memory are to their callers.
use Rattle.std.specs.Prelude.{ℕ, ◌+◌, ◌-◌, ◌≤◌, List, length}
use Rattle.odb_memstore.specs.Numbered.{bytes_of, lengths_of}

-- the files, for how many there are places, and how many bytes all of them together have room for
pub record Shelf : Type 0 where
  pub files : List (ℕ × List ℕ)
  pub places : ℕ
  pub room : ℕ

-- there is room for this file to be so long, beside the others
abbrev pub HasRoomTo : Shelf → ℕ → ℕ → Type 0
HasRoomTo shelf file end =
    lengths_of shelf.files + (end - length (bytes_of shelf.files file)) ≤ shelf.room

-- no places and no room are given up
pub record LosesNoSpace (old new : Shelf) : Type 0 where
  pub places : old.places ≤ new.places
  pub room : old.room ≤ new.room
