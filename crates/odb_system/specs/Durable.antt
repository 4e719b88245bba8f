-- What file 0 holds of a system's log, and what a step may do to the files.
use Rattle.std.specs.Prelude.{◌≡◌, ℕ, ◌+◌, Bool, true, false, List, length, Option, Some, None, IfSome}
use Rattle.odb_device.specs.World.{File, World}
use Rattle.odb_device.specs.Calls.{FileCountRose}
use Rattle.odb_device.specs.Moments.{Runs}
use Rattle.odb_model.specs.declared.entry.Entry.{Entry}
use Rattle.odb_model.specs.declared.side.OtherSide.TheVariants.{Clean}
use Rattle.odb_transdb.specs.Standing.{Db, Stands}
use Rattle.odb_transdb.specs.Turning.{StandsSince}
use Rattle.odb_system.specs.Held.{Held}

-- A turn was broken off, or may have been: the other side is Clean, and whichever header a crash
-- leaves, the log holds the last of these entries, which go from number 1 on to before the next one
pub record IsBrokenOff (db : Db) (file : Option File) : Type 0 where
  pub clean : db.header.other ≡ Clean
  pub entries : List Entry
  pub since : StandsSince db entries file
  pub whole : IfSome file (λ _. length entries + 1 ≡ db.active.next)

-- where the pair is settled the log stands for the file; else a turn was broken off
abbrev pub StandsBy : Bool → Db → Option File → Type 0
StandsBy true db file = Stands db file
StandsBy false db file = IsBrokenOff db file

-- so where no entry is in doubt
abbrev pub IsDurableBy : Option ℕ → Db → Option File → Type 0
IsDurableBy None db file = StandsBy db.pair.settled db file
IsDurableBy (Some number) db file = Unit {0}

abbrev pub IsDurable : Held → Option File → Type 0
IsDurable held file = IsDurableBy held.book.halted held.book.transdb file

-- the file's count rose from one world to another
abbrev pub Risen : World → World → ℕ → Type 0
Risen old new file = FileCountRose file old new

-- file 0 may have changed, and nothing else
abbrev pub ChangesLog : World → World → Type 0
ChangesLog old new = Runs 0 (λ _. Unit {0}) old new
