-- What `play` starts with.
use Rattle.std.specs.Prelude.{◌≡◌, List, Some, IfSome}
use Rattle.odb_device.specs.World.{World, file_of}
use Rattle.odb_model.specs.declared.status.Status.{Status}
use Rattle.odb_model.specs.declared.status.Status.TheVariants.{Done, Usage, ReadFault, WriteFault, FileFault, NoDatabase, Exists, Damaged, NotHeld, InputTooLong, NoMemory, NotACopy, Unfinished}
use Rattle.odb_model.specs.declared.entry.Entry.{Entry}
use Rattle.odb_machine.specs.Machine.{Machine, first_machine}
use Rattle.odb_transdb.specs.Header.{first_held}
use Rattle.odb_transdb.specs.Opened.{holding, opened, entries_in}
use Rattle.odb_transdb.specs.declared.error.TransdbError.{TransdbError}
use Rattle.odb_transdb.specs.declared.error.TransdbError.TheVariants.{NoDatabase as NoPair, Damaged as BadBytes, Full, FaultBefore, InDoubt, NotClean, Held as NotCovered, Fault, NoMemory as NoRoom}
use Rattle.odb_commit.specs.Standing.{sides_of}
use Rattle.odb_system.specs.Held.{Held, StandsFor, format_in}
use Rattle.odb_system.specs.Durable.{IsDurable}

-- the machine of these entries, in a database with the header of a system's log
abbrev pub machine_of : Held → List Entry → Machine
machine_of held entries =
    first_machine (format_in held) (sides_of held.book.transdb.header) entries

-- a system of the entries that TRANSDB holds, of which the first has the number 1
pub record IsStarted (held : Held) (old new : World) : Type 0 where
  pub entries : List Entry
  pub stands : StandsFor held (machine_of held entries)
  pub durable : IsDurable held (file_of 0 new)
  pub opens : IfSome (file_of 0 old)
      (λ f. opened f.bytes ≡ holding held.book.transdb.header entries)
  pub holds : IfSome (file_of 0 new) (λ f. entries_in (Some f) ≡ entries)
  pub whole : first_held held.book.transdb.header ≡ 1

-- the status that a refused opening ends with; five of the errors it never has
abbrev pub status_of : TransdbError → Status
status_of NoPair = NoDatabase
status_of (BadBytes at) = Damaged 0 at
status_of NoRoom = NoMemory
status_of Fault = FileFault 0
status_of FaultBefore = FileFault 0
status_of (Full need room) = FileFault 0
status_of NotClean = FileFault 0
status_of (NotCovered mark last) = FileFault 0
status_of (InDoubt number) = FileFault 0

-- the statuses that refuse an opening
abbrev pub RefusesOpening : Status → Type 0
RefusesOpening (FileFault file) = Unit {0}
RefusesOpening NoDatabase = Unit {0}
RefusesOpening (Damaged file at) = Unit {0}
RefusesOpening (NotHeld bank mark first) = Unit {0}
RefusesOpening NoMemory = Unit {0}
RefusesOpening Done = ⊥
RefusesOpening Usage = ⊥
RefusesOpening ReadFault = ⊥
RefusesOpening WriteFault = ⊥
RefusesOpening Exists = ⊥
RefusesOpening InputTooLong = ⊥
RefusesOpening (NotACopy bank file) = ⊥
RefusesOpening (Unfinished file) = ⊥
