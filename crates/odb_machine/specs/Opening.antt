-- What an opening meets in the files, and what it is refused for. The rules and their order are this
-- project's own.
use Rattle.std.specs.Prelude.{ℕ, ◌&&◌, ◌||◌, not, ◌==◌, Bool, List, [], ◌∷◌, ◌++◌, map, filter, find, is_some, Option, Some, None, if◌then◌else◌}
use Rattle.std.specs.FinMap.{empty}
use Rattle.odb_model.specs.declared.status.Status.{Status}
use Rattle.odb_model.specs.declared.status.Status.TheVariants.{NoDatabase, Damaged as IsDamaged, FileFault, NotHeld, NotACopy, Unfinished}
use Rattle.odb_model.specs.State.{State}
use Rattle.odb_model.specs.Ordered.{ordered_by}
use Rattle.odb_model.specs.Databanks.{Databank, sysdb, databanks}
use Rattle.odb_model.specs.Shadows.{Standing, New, NamedCopy, copies_of}
use Rattle.odb_machine.specs.Copies.{Choice, chosen}
use Rattle.odb_machine.specs.Readings.{Reading, Missing, Damaged, Holds, TransdbReading, LogReading, FileReading}
use Rattle.odb_machine.specs.Log.{lacks_from}
use Rattle.odb_machine.specs.Joined.{entries_held, held_by, rows_read, file_for}

-- how the opening of one file ended: a call on it failed, it read so, or it wasn't opened, as LOGDB
-- isn't where no database has one
pub data Found (A : Type 0) : Type 0 where
  Failed : Found A
  Read : Reading A → Found A
  Unopened : Found A

-- how that of each file ended; that of a databank file, by its number, as a file of this databank
pub record Finds : Type 0 where
  pub transdb : Found TransdbReading
  pub logdb : Found LogReading
  pub databank : ℕ → ℕ → Found FileReading

-- of a file that failed nothing was read
abbrev pub reading_of : {A : Type 0} → Found A → Reading A
reading_of Failed = Missing
reading_of (Read what) = what
reading_of Unopened = Missing

-- a databank lacks entries that aren't held, and that is told; or the fault or the damage of LOGDB
abbrev pub unheld : Found LogReading → ℕ → ℕ → ℕ → Status
unheld Failed bank mark first = FileFault 1
unheld (Read Missing) bank mark first = IsDamaged 1 0
unheld (Read (Damaged at)) bank mark first = IsDamaged 1 at
unheld (Read (Holds log)) bank mark first = NotHeld bank mark first
unheld Unopened bank mark first = NotHeld bank mark first

abbrev pub mark_refusal : Found LogReading → ℕ → ℕ → ℕ → Option Status
mark_refusal logdb bank mark first =
    if lacks_from first mark then Some (unheld logdb bank mark first) else None

-- the file can't be read, isn't in order, or lacks entries that aren't held from this number on
abbrev pub file_refusal : Found LogReading → ℕ → ℕ → ℕ → Found FileReading → Option Status
file_refusal logdb first bank file Failed = Some (FileFault file)
file_refusal logdb first bank file (Read Missing) = Some (IsDamaged file 0)
file_refusal logdb first bank file (Read (Damaged at)) = Some (IsDamaged file at)
file_refusal logdb first bank file (Read (Holds what)) = mark_refusal logdb bank what.mark first
file_refusal logdb first bank file Unopened = Some (FileFault file)

abbrev pub standing_refusal : Standing → ℕ → Option Status → Option Status
standing_refusal New file otherwise = Some (Unfinished file)
standing_refusal other file otherwise = otherwise

abbrev pub copy_refusal : Option NamedCopy → ℕ → ℕ → Option Status → Option Status
copy_refusal None bank file otherwise = Some (NotACopy bank file)
copy_refusal (Some c) bank file otherwise = standing_refusal c.standing file otherwise

-- A databank is read from this file: these copies name it as one of the databank, that isn't new; it
-- can be read, is in order, and the entries above its mark are held
abbrev pub databank_refusal :
    Finds → TransdbReading → List NamedCopy → Choice → Option Status
databank_refusal finds t copies c =
    copy_refusal (find (λ a. (a.file == c.file) && (a.bank == c.bank)) copies) c.bank c.file
    (file_refusal finds.logdb (held_by t (reading_of finds.logdb)) c.bank c.file
    (finds.databank c.bank c.file))

abbrev pub read_from : List Choice → Databank → Choice
read_from choices b = record { bank = b.number; file = file_for choices b }

abbrev pub is_sysdb_number : ℕ → Bool
is_sysdb_number bank = bank == sysdb.number

-- The databanks but SYSDB in the order in which they are opened: those that the choices name, in the
-- order of these, and then the others by number
abbrev pub others_opened : List Choice → State → List Choice
others_opened choices s =
    filter (λ c. not (is_sysdb_number c.bank)) choices
    ++ ordered_by (λ c. c.bank) (map (read_from choices)
    (filter (λ b. not (is_sysdb_number b.number || is_some (chosen choices b.number)))
    (databanks s)))

-- the rows of SYSDB as they are found, which name all other databanks
abbrev pub dictionary_found : Finds → TransdbReading → List Choice → State
dictionary_found finds t choices =
    rows_read sysdb.number (reading_of (finds.databank sysdb.number (file_for choices sysdb)))
    (entries_held t (reading_of finds.logdb))

-- the first refusal decides
abbrev pub first_status : List (Option Status) → Option Status
first_status [] = None
first_status (None ∷ rest) = first_status rest
first_status (Some status ∷ rest) = Some status

-- SYSDB comes first, whose copies are the same in each dictionary
abbrev pub databanks_refusal : Finds → TransdbReading → List Choice → Option Status
databanks_refusal finds t choices =
    first_status
    (databank_refusal finds t (copies_of empty) (read_from choices sysdb)
    ∷ map (databank_refusal finds t (copies_of (dictionary_found finds t choices)))
    (others_opened choices (dictionary_found finds t choices)))

-- What an opening by these choices is refused for, if it is: first of TRANSDB; then of the databanks in
-- their order. What LOGDB is at comes only in the place of the first databank that lacks entries
abbrev pub opening_by : Found TransdbReading → Finds → List Choice → Option Status
opening_by Failed finds choices = Some (FileFault 0)
opening_by Unopened finds choices = Some (FileFault 0)
opening_by (Read Missing) finds choices = Some NoDatabase
opening_by (Read (Damaged at)) finds choices = Some (IsDamaged 0 at)
opening_by (Read (Holds t)) finds choices = databanks_refusal finds t choices

abbrev pub opening_refusal : Finds → List Choice → Option Status
opening_refusal finds choices = opening_by finds.transdb finds choices
