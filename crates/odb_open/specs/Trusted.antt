-- Which files are known, at an opening, to hold only what comes from the history.
use Rattle.std.specs.Prelude.{◌≡◌, ℕ, ◌-◌, ◌≤◌, Bool, true, List, length, drop, take, Contains}
use Rattle.odb_device.specs.World.{Moment}
use Rattle.odb_device.specs.Images.{EachImage}
use Rattle.odb_model.specs.declared.entry.Entry.{Entry}
use Rattle.odb_model.specs.State.{replay}
use Rattle.odb_model.specs.Shadows.{NamedCopy, copies_of}
use Rattle.odb_machine.specs.Readings.{Holds, LogReading}
use Rattle.odb_bank.specs.History.{history_of}
use Rattle.odb_bank.specs.Files.{StandsAtMark}
use Rattle.odb_open.specs.Files.{log_in}

-- LOGDB's entries are the history's
pub record IsTrueLog (h : List Entry) (bytes : List ℕ) : Type 0 where
  pub logdb : LogReading
  pub reads : log_in bytes ≡ Holds logdb
  pub last : ℕ
  pub within : last ≤ length h
  pub entries : logdb.entries ≡ drop (logdb.first - 1) (take last h)

-- Where a file is trusted, each image of it is true to the history: that of LOGDB, and that of each
-- copy that the dictionary names. The history is the one that was found, with an entry that was in
-- doubt and is there; so `trusted` is chosen behind it
pub record AreTrusted (trusted : ℕ → Bool) (h : List Entry) (moment : Moment) : Type 0 where
  pub logdb : trusted 1 ≡ true → EachImage (IsTrueLog h) (moment.files 1)
  pub copies : (c : NamedCopy) → Contains (copies_of (replay h)) c → trusted c.file ≡ true
      → EachImage (StandsAtMark c.bank (history_of c.bank h)) (moment.files c.file)
