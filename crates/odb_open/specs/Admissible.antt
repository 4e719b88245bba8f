-- By which choices a database may be opened.
use Rattle.std.specs.Prelude.{◌≡◌, ◌≢◌, ℕ, ◌+◌, ◌≤◌, nat_lt, List, take, drop, filter, Contains}
use Rattle.odb_model.specs.declared.entry.Entry.{Entry}
use Rattle.odb_model.specs.State.{State, replay}
use Rattle.odb_model.specs.Databanks.{Databank, databanks}
use Rattle.odb_model.specs.Shadows.{New, NamedCopy, copies_of}
use Rattle.odb_machine.specs.Copies.{Choice}
use Rattle.odb_machine.specs.Readings.{Holds, TransdbReading, last_number}
use Rattle.odb_machine.specs.Joined.{entries_held, held_by, file_for}
use Rattle.odb_bank.specs.History.{history_of}
use Rattle.odb_bank.specs.Files.{StandsAt}
use Rattle.odb_open.specs.Files.{transdb_in, log_read}
use Rattle.odb_open.specs.Images.{Image}

-- by the dictionary the file is a copy of the databank that isn't new
pub record IsCopyOf (s : State) (bank file : ℕ) : Type 0 where
  pub copy : NamedCopy
  pub named : Contains (copies_of s) copy
  pub of_file : copy.file ≡ file
  pub of_bank : copy.bank ≡ bank
  pub finished : copy.standing ≢ New

-- LOGDB and TRANSDB hold every entry above the mark, as this history has them
pub record HoldsLater (image : Image) (t : TransdbReading) (h : List Entry) (mark : ℕ) :
    Type 0 where
  pub from : held_by t (log_read (image 1)) ≤ mark + 1
  pub entries :
      filter (λ e. nat_lt mark e.number) (entries_held t (log_read (image 1))) ≡ drop mark h

-- A databank can be read from this file: it is a copy of it that isn't new; the bytes are in order and
-- stand for the history, complete to their mark, which isn't above its number; and every later entry
-- is held
pub record IsReadable
    (image : Image) (t : TransdbReading) (h : List Entry) (bank file : ℕ) : Type 0 where
  pub copy : IsCopyOf (replay h) bank file
  pub mark : ℕ
  pub stands : StandsAt bank (history_of bank h) mark (image file)
  pub later : HoldsLater image t h mark

-- the choice names a databank that is there
abbrev pub NamesDatabank : State → Choice → Type 0
NamesDatabank s c = (b : Databank) × Contains (databanks s) b × (b.number ≡ c.bank)

-- The choices are admissible in the image, with this history: each names a databank, and each databank
-- can be read from the file that is chosen for it, or from its master, with as many entries of the
-- history as TRANSDB tells. Of two choices of one databank the first counts
pub record IsAdmissible (choices : List Choice) (image : Image) (h : List Entry) : Type 0 where
  pub transdb : TransdbReading
  pub reads : transdb_in (image 0) ≡ Holds transdb
  pub named : (c : Choice) → Contains choices c
      → NamesDatabank (replay (take (last_number transdb) h)) c
  pub banks : (b : Databank) → Contains (databanks (replay (take (last_number transdb) h))) b
      → IsReadable image transdb (take (last_number transdb) h) b.number (file_for choices b)
