-- What the files of a database read as, in numbers, lists and maps. Which bytes read so is said where
-- the formats are; what a step does is said of this alone.
use Rattle.std.specs.Prelude.{ℕ, ◌+◌, ◌-◌, ◌≤◌, ◌==◌, Bool, is_some, List, length, Option, None, if◌then◌else◌}
use Rattle.std.specs.List.{All}
use Rattle.std.specs.FinMap.{entries}
use Rattle.odb_model.specs.declared.entry.Entry.{Entry}
use Rattle.odb_model.specs.State.{State, IsNumberedFrom}
use Rattle.odb_machine.specs.Sides.{Sides, active_first, first_in}
use Rattle.odb_machine.specs.Log.{most_logged}
use Rattle.odb_machine.specs.Versions.{Version, Records, HaveVersions}

-- Nothing is there, or nothing was read; the file isn't in order, which shows at this byte; or it holds
-- this. Of all files TRANSDB alone reads as missing, where there is no database
pub data Reading (A : Type 0) : Type 0 where
  Missing : Reading A
  Damaged : ℕ → Reading A
  Holds : A → Reading A

-- TRANSDB: its format, its sides, and the entries of the live side and then of the active one
pub record TransdbReading : Type 0 where
  pub format : ℕ
  pub sides : Sides
  pub entries : List Entry

-- LOGDB: the number of its first entry, its entries, and the bytes from the beginning of its content to
-- the end of its list
pub record LogReading : Type 0 where
  pub first : ℕ
  pub entries : List Entry
  pub used : ℕ

-- A databank file: its mark, the open records of each key in ascending order of their stamps, those of
-- one stamp in the order of their slots, and the rows that they make
pub record FileReading : Type 0 where
  pub mark : ℕ
  pub records : Records
  pub rows : State

-- what a databank file is read for: the format of the database, the databank, and how many entries the
-- history has, above which no mark and no stamp may be
pub record Asked : Type 0 where
  pub format : ℕ
  pub bank : ℕ
  pub number : ℕ

-- what each file reads as, where the store tells it
pub record Readings : Type 0 where
  pub transdb : Option (Reading TransdbReading)
  pub logdb : Option (Reading LogReading)
  pub databank : ℕ → Option (Asked → Reading FileReading)

-- no file is told
abbrev pub nothing_told : Readings
nothing_told = record { transdb = None; logdb = None; databank = λ file. None }

-- TRANSDB is file 0, LOGDB is file 1
abbrev pub is_told_in : Readings → ℕ → Bool
is_told_in reads file =
    if file == 0 then is_some reads.transdb
    else if file == 1 then is_some reads.logdb
    else is_some (reads.databank file)

-- the number of the last entry, one less than the first number where there is none
abbrev pub last_number : TransdbReading → ℕ
last_number t = first_in t.sides + length t.entries - 1

abbrev pub last_logged : LogReading → ℕ
last_logged log = log.first + length log.entries - 1

-- What an opening lets through, whether the store tells the file or not: entries are numbered from the
-- first on; in TRANSDB the list of a live side ends where the active one begins; LOGDB has at most its
-- extents; and a databank file has no mark and no stamp above the number of entries
pub record IsTransdbReading (t : TransdbReading) : Type 0 where
  pub numbered : IsNumberedFrom (first_in t.sides) t.entries
  pub active : t.sides.active ≤ 1
  pub from : 1 ≤ first_in t.sides
  pub follows : first_in t.sides ≤ active_first t.sides
  pub meets : active_first t.sides ≤ last_number t + 1

pub record IsLogReading (log : LogReading) : Type 0 where
  pub numbered : IsNumberedFrom log.first log.entries
  pub from : 1 ≤ log.first
  pub room : log.used ≤ most_logged

abbrev pub IsStampedWithin : ℕ → Version → Type 0
IsStampedWithin number v = (1 ≤ v.stamp) × (v.stamp ≤ number)

pub record IsFileReading (asked : Asked) (file : FileReading) : Type 0 where
  pub marked : file.mark ≤ asked.number
  pub some : HaveVersions file.records
  pub stamped : All (λ e. All (IsStampedWithin asked.number) e.1) (entries file.records)
