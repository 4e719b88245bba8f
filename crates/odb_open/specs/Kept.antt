-- What a crash may leave of each file while a machine stands.
use Rattle.std.specs.Prelude.{◌≡◌, ℕ, ◌-◌, ◌≤◌, Bool, true, false, List, length, drop, take, Contains, IsSome}
use Rattle.odb_device.specs.World.{Moment}
use Rattle.odb_model.specs.declared.entry.Entry.{Entry}
use Rattle.odb_machine.specs.Sides.{first_in}
use Rattle.odb_machine.specs.Log.{Log, Held, Span}
use Rattle.odb_machine.specs.Copies.{Copy}
use Rattle.odb_machine.specs.Readings.{Holds, TransdbReading, LogReading, last_number}
use Rattle.odb_machine.specs.MachineState.{Machine, IsSettled, copies_asked}
use Rattle.odb_machine.specs.Covered.{is_asked, IsCovering}
use Rattle.odb_bank.specs.History.{history_of}
use Rattle.odb_bank.specs.Files.{StandsAt}
use Rattle.odb_open.specs.Files.{transdb_in, log_in}
use Rattle.odb_open.specs.Images.{Image}

-- a first number in the image is the machine's; where that may lag, it may be lower
abbrev pub IsFirstBy : Bool → ℕ → ℕ → Type 0
IsFirstBy false first there = there ≡ first
IsFirstBy true first there = there ≤ first

-- TRANSDB opens to the history's number, or to one more where an entry is in doubt. It holds the
-- entries from its first number on, and nothing else
pub record IsTransdbKept (m : Machine) (bytes : List ℕ) : Type 0 where
  pub transdb : TransdbReading
  pub reads : transdb_in bytes ≡ Holds transdb
  pub history : List Entry
  pub settled : IsSettled m m.in_doubt history
  pub entries : transdb.entries ≡ drop (first_in transdb.sides - 1) history
  pub number : last_number transdb ≡ length history
  pub first : IsFirstBy m.may_lag (first_in m.sides) (first_in transdb.sides)
  pub format : transdb.format ≡ m.format

-- LOGDB holds the history's entries from its first number on, at least to its last one
pub record IsLogKept (m : Machine) (span : Span) (bytes : List ℕ) : Type 0 where
  pub logdb : LogReading
  pub reads : log_in bytes ≡ Holds logdb
  pub last : ℕ
  pub entries : logdb.entries ≡ drop (logdb.first - 1) (take last m.history)
  pub from : span.last ≤ last
  pub to : last ≤ length m.history
  pub first : IsFirstBy m.may_lag span.first logdb.first

-- LOGDB that is out, or that isn't there, may be anything
abbrev pub AsksLog : Machine → Log → List ℕ → Type 0
AsksLog m (Held span) bytes = m.honest 1 ≡ true → IsLogKept m span bytes
AsksLog m other bytes = Unit {0}

-- a databank file is in order, and stands for the history, complete to its mark, which isn't below the
-- machine's
pub record IsCopyKept (m : Machine) (c : Copy) (bytes : List ℕ) : Type 0 where
  pub mark : ℕ
  pub stands : StandsAt c.bank (history_of c.bank m.history) mark bytes
  pub from : c.mark ≤ mark

-- What the machine asks of an image of the file with this number: of TRANSDB; of LOGDB, where that is
-- honest and takes part; of each honest copy that is neither new nor out
pub record IsKept (m : Machine) (file : ℕ) (bytes : List ℕ) : Type 0 where
  pub transdb : file ≡ 0 → IsTransdbKept m bytes
  pub logdb : file ≡ 1 → AsksLog m m.log bytes
  pub copies : (c : Copy) → Contains (copies_asked m) c → c.file ≡ file
      → m.honest file ≡ true → is_asked c ≡ true → IsCopyKept m c bytes

-- the machine keeps an image of all files: what its numbers say of the files together, and each file
pub record Keeps (m : Machine) (image : Image) : Type 0 where
  pub covering : IsCovering m
  pub files : (file : ℕ) → IsKept m file (image file)

-- What is honest is told. Each step keeps it, since no call changes which files a store tells; so what
-- is asked of the files that are told is all that is asked
abbrev pub HonestAreTold : Machine → Moment → Type 0
HonestAreTold m moment = (file : ℕ) → m.honest file ≡ true → IsSome (moment.files file)
