-- What a book keeps, and what it makes of a transaction.
use Rattle.std.specs.Prelude.{◌≡◌, ℕ, ◌+◌, ◌≤◌, false, nat_lt, nat_le, List, [], ◌∷◌, length, Option, Some, None, Result, Ok, Err, IsTrue, if◌then◌else◌}
use Rattle.odb_model.specs.declared.write.Write.{Write}
use Rattle.odb_model.specs.declared.entry.Entry.{Entry}
use Rattle.odb_model.specs.Width.{record_width}
use Rattle.odb_model.specs.Intentions.{intended}
use Rattle.odb_codec.specs.Image.{HasImage, entry_image}
use Rattle.odb_transdb.specs.Standing.{Db, room_of}
use Rattle.odb_validate.specs.declared.error.Aged.{Aged}
use Rattle.odb_validate.specs.Window.{Windowed, last_number, reserve}
use Rattle.odb_validate.specs.Validation.{validated}
use Rattle.odb_txn.specs.Transaction.{Kept}
use Rattle.odb_machine.specs.Book.{most_entries}
use Rattle.odb_commit.specs.declared.ready.Ready.{Ready}
use Rattle.odb_commit.specs.declared.ready.Ready.TheVariants.{Ended, Sealing}
use Rattle.odb_commit.specs.declared.error.CommitError.{CommitError}
use Rattle.odb_commit.specs.declared.error.CommitError.TheVariants as e

-- the log of commits, the window of the history, and the number of the entry in doubt
pub record Parts : Type 0 where
  pub transdb : Db
  pub window : Windowed
  pub halted : Option ℕ

-- how many entries the history has
abbrev pub count : Parts → ℕ
count b = last_number b.window

-- where no entry is in doubt, the window ends where the log does, and the log takes records
pub record IsAligned (b : Parts) : Type 0 where
  pub ends : b.halted ≡ None → count b + 1 ≡ b.transdb.active.next
  pub usable : b.halted ≡ None → b.transdb.active.in_doubt ≡ false

-- what is made of a transaction: it is refused; it ends without a write, where there are so many
-- entries; or this entry is to be sealed
pub data Preparation : Type 0 where
  Refuses : CommitError → Preparation
  Ends : ℕ → Preparation
  ToSeal : Entry → Preparation

-- what a session would add to the history with these writes
abbrev pub entry_after : Parts → ℕ → List Write → Entry
entry_after b s writes = record { number = count b + 1; by = s; writes = writes }

-- HISTORYFULL where the history has as many entries as it may have, FULL where the record needs more
-- bytes than are left
abbrev pub sealing_of : Parts → Entry → Preparation
sealing_of b entry =
    if nat_le most_entries (count b) then Refuses e.HistoryFull
    else if nat_lt (room_of b.transdb) (record_width entry)
    then Refuses (e.Full (record_width entry) (room_of b.transdb))
    else ToSeal entry

abbrev pub by_writes : Parts → ℕ → List Write → Preparation
by_writes b s [] = Ends (count b)
by_writes b s (w ∷ ws) = sealing_of b (entry_after b s (w ∷ ws))

abbrev pub by_validation : Parts → ℕ → List Write → Result (Option ℕ) Aged → Preparation
by_validation b s writes (Err aged) = Refuses (e.Aged aged.oldest aged.start)
by_validation b s writes (Ok (Some number)) = Refuses (e.Conflict number)
by_validation b s writes (Ok None) = by_writes b s writes

abbrev pub by_halt : Option ℕ → Preparation → Preparation
by_halt (Some number) other = Refuses (e.Halted number)
by_halt None other = other

-- What is made of a transaction. It is refused where an entry is in doubt; where its oldest read is
-- before the window; where an entry overwrote what it read. It ends where it leaves nothing; else the
-- history may be full, or the log
abbrev pub prepared : Parts → Kept → Preparation
prepared b txn =
    by_halt b.halted
    (by_validation b txn.session (intended txn.own)
    (validated b.window.start b.window.entries txn.reads))

-- `prepare` answers so; memory may be missing at any
abbrev pub IsPrepared : Preparation → Result Ready CommitError → Type 0
IsPrepared p (Ok (Ended number)) = p ≡ Ends number
IsPrepared p (Ok (Sealing entry image)) = (p ≡ ToSeal entry) × (image ≡ entry_image entry)
IsPrepared p (Err e.NoMemory) = Unit {0}
IsPrepared p (Err error) = p ≡ Refuses error

-- the entry of this image is the next one, its place is reserved, and the log has room for its record
pub record CanSeal (b : Parts) (entry : Entry) (image : List ℕ) : Type 0 where
  pub settled : b.halted ≡ None
  pub usable : b.transdb.active.in_doubt ≡ false
  pub place : IsTrue b.window.is_reserved
  pub number : entry.number ≡ count b + 1
  pub next : entry.number ≡ b.transdb.active.next
  pub lawful : HasImage entry
  pub image_is : image ≡ entry_image entry
  pub room : 13 + length image ≤ room_of b.transdb

-- what is ready is an entry that the book can seal
abbrev pub IsReady : Parts → Ready → Type 0
IsReady b (Ended number) = ⊥
IsReady b (Sealing entry image) = CanSeal b entry image

-- behind `prepare` the book is as it was, but that an entry to be sealed has its place reserved, and
-- can be sealed
abbrev pub IsLeft : Result Ready CommitError → Parts → Parts → Type 0
IsLeft (Ok (Sealing entry image)) old new =
    (new ≡ record old { window = reserve old.window }) × CanSeal new entry image
IsLeft other old new = new ≡ old
