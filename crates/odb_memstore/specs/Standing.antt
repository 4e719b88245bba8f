-- How what a host in memory holds goes with its record.
use Rattle.std.specs.Prelude.{◌≡◌, ℕ, ◌+◌, ◌<◌, ◌≤◌, ◌^◌, List, [], ◌∷◌, length}
use Rattle.odb_memstore.specs.declared.recorder.Call.{Call}
use Rattle.odb_memstore.specs.declared.recorder.Call.TheVariants.{Look, Write, Sync, Take, Say}
use Rattle.odb_memstore.specs.declared.recorder.Recorded.{Recorded}
use Rattle.odb_memstore.specs.Numbered.{bytes_of}
use Rattle.odb_memstore.specs.Recording.{places_left}
use Rattle.odb_memstore.specs.Shelf.{Shelf}
use Rattle.odb_memstore.specs.Replay.{said_by}
use Rattle.odb_memstore.specs.Tape.{Tape, file_now}

-- the piece of a write lies among n bytes, and the write ends where a file may end
abbrev pub HasPiece : ℕ → Call → Type 0
HasPiece n (Write file at from len) = (from + len ≤ n) × (at + len ≤ 2 ^ 40)
HasPiece n (Look file) = Unit {0}
HasPiece n (Sync file) = Unit {0}
HasPiece n Take = Unit {0}
HasPiece n (Say len) = Unit {0}

-- so do the pieces of all these calls
abbrev pub HavePieces : ℕ → List Recorded → Type 0
HavePieces n [] = Unit {0}
HavePieces n (c ∷ calls) = HasPiece n c.call × HavePieces n calls

-- the record has the pieces of its calls, and all that they said; and a call of the store isn't
-- recorded only where no place is left
pub record IsWhole (tape : Tape) : Type 0 where
  pub pieces : HavePieces (length tape.pieces) tape.recording.calls
  pub said : said_by tape.recording.calls ≡ length tape.said
  pub taken : tape.taken ≤ length tape.input
  pub refused : 0 < tape.recording.refused.store
      → tape.recording.places ≤ length tape.recording.calls

-- a call that needs no room, and changes no bytes
abbrev pub IsBare : Call → Type 0
IsBare (Look file) = Unit {0}
IsBare (Sync file) = Unit {0}
IsBare Take = Unit {0}
IsBare (Write file at from len) = ⊥
IsBare (Say len) = ⊥

-- The files held are those of the record, with room for so many bytes and a place for each call
-- that is still to come.
pub record Stands (current : Shelf) (room_of_pieces room_of_said : ℕ) (tape : Tape) : Type 0 where
  pub whole : IsWhole tape
  pub bytes : (file : ℕ) → bytes_of current.files file ≡ (file_now tape file).bytes
  pub places : length current.files + places_left tape.recording ≤ current.places
  pub room : tape.room ≤ current.room
  pub pieces_room : tape.room ≤ room_of_pieces
  pub said_room : tape.room ≤ room_of_said
