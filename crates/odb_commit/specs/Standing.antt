-- For which book of the definitions a book stands.
use Rattle.std.specs.Prelude.{◌≡◌, ℕ, ◌+◌, ◌-◌, nat_lt, nat_le, List, length, drop, option_map, None, if◌then◌else◌}
use Rattle.odb_model.specs.declared.write.Write.{Write}
use Rattle.odb_model.specs.declared.entry.Entry.{Entry}
use Rattle.odb_model.specs.State.{IsHistory}
use Rattle.odb_machine.specs.Sides.{Sides}
use Rattle.odb_transdb.specs.declared.header.Header.{Header}
use Rattle.odb_model.specs.Width.{records_width}
use Rattle.odb_transdb.specs.Header.{side_size, active_first}
use Rattle.odb_transdb.specs.Standing.{Db, IsPlaced}
use Rattle.odb_validate.specs.Window.{IsWindow}
use Rattle.odb_commit.specs.declared.error.CommitError.TheVariants as e
use Rattle.odb_machine.specs.Book.{Book, Verdict, Halted, Aged, Conflict, Ended, Writes, next_entry, need_of, room_of, most_entries}
use Rattle.odb_commit.specs.Parts.{Parts, Preparation, Refuses, Ends, ToSeal}

-- TRANSDB as a book of the definitions has it
abbrev pub sides_of : Header → Sides
sides_of h = record {
  side_size = side_size h;
  active = h.active;
  other = h.other;
  first0 = h.first0;
  first1 = h.first1;
}

-- the next record is that of the history's next entry, and the records of those on the active side
-- fill it up to the place of that one
pub record Fills (db : Db) (h : List Entry) : Type 0 where
  pub next : length h + 1 ≡ db.active.next
  pub filled :
      records_width (drop (active_first db.header - 1) h) ≡ db.active.place - db.active.start
  pub placed : IsPlaced db

-- The window is that of the book's history, whose entries after the first `since` were pushed; the log
-- is that of the book's sides, and where no entry is in doubt the history fills it
pub record StandsFor (since : ℕ) (kept : Parts) (b : Book) : Type 0 where
  pub numbered : IsHistory b.history
  pub window : IsWindow since b.history kept.window
  pub halted : kept.halted ≡ option_map (λ entry. entry.number) b.in_doubt
  pub sides : b.sides ≡ sides_of kept.transdb.header
  pub log : b.in_doubt ≡ None → Fills kept.transdb b.history

-- how the entry of these writes is prepared
abbrev pub sealing_in : Book → ℕ → List Write → Preparation
sealing_in b s writes =
    if nat_le most_entries (length b.history) then Refuses e.HistoryFull
    else if nat_lt (room_of b) (need_of b s writes)
    then Refuses (e.Full (need_of b s writes) (room_of b))
    else ToSeal (next_entry b s writes)

-- how a transaction of this session with this verdict is prepared
abbrev pub preparation_of : Book → ℕ → Verdict → Preparation
preparation_of b s (Halted number) = Refuses (e.Halted number)
preparation_of b s (Aged oldest start) = Refuses (e.Aged oldest start)
preparation_of b s (Conflict number) = Refuses (e.Conflict number)
preparation_of b s (Ended number) = Ends number
preparation_of b s (Writes writes) = sealing_in b s writes
