-- What a walk over the records of a log finds.
use Rattle.std.specs.Prelude.{◌≡◌, ◌≢◌, ℕ, ◌+◌, ◌≤◌, max, List, ◌++◌, length, Option, Some, Result, Ok, Err}
use Rattle.odb_device.specs.World.{World}
use Rattle.odb_device.specs.Calls.{FileCountRose}
use Rattle.odb_reclog.specs.Records.{log_of, record_in}
use Rattle.odb_reclog.specs.Standing.{Log}
use Rattle.odb_reclog.specs.declared.record.LogRecord.{LogRecord}
use Rattle.odb_codec.specs.Reading.{read_entry}
use Rattle.odb_model.specs.declared.entry.Entry.{Entry}
use Rattle.odb_model.specs.State.{IsNumberedFrom}
use Rattle.odb_model.specs.Width.{record_width, records_width}
use Rattle.odb_entries.specs.declared.error.EntriesError.{EntriesError}
use Rattle.odb_entries.specs.declared.error.EntriesError.TheVariants.{Damaged, Fault, NoMemory}

-- the record that the list of a log has at a place
abbrev pub log_record : Log → ℕ → List ℕ → Option LogRecord
log_record log at bytes =
    record_in log.start log.first (log_of log.start log.end log.first bytes) at

-- P of all the entries that are read, or the place of the first record that is none
abbrev pub IsReadOf : {T : Type 0}
    → (List Entry → T → Type 0) → Result (List Entry) ℕ → Result T EntriesError → Type 0
IsReadOf P read (Ok x) = (all : List Entry) × (read ≡ Ok all) × P all x
IsReadOf P read (Err (Damaged at)) = read ≡ Err at
IsReadOf P read (Err Fault) = Unit {0}
IsReadOf P read (Err NoMemory) = Unit {0}

-- a fault is answered only where the file's count rose
abbrev pub FailsByCount : {T : Type 0} → ℕ → Result T EntriesError → World → World → Type 0
FailsByCount file result old new = result ≡ Err Fault → FileCountRose file old new

-- the record of this number that a list has at a place
abbrev pub IsRecordOf : Option LogRecord → ℕ → ℕ → Result LogRecord EntriesError → Type 0
IsRecordOf found at number (Ok r) = (found ≡ Some r) × (r.number ≡ number)
IsRecordOf found at number (Err (Damaged place)) =
    (place ≡ at) × ((r : LogRecord) → found ≡ Some r → r.number ≢ number)
IsRecordOf found at number (Err Fault) = Unit {0}
IsRecordOf found at number (Err NoMemory) = Unit {0}

-- the entry that the payload is the image of
abbrev pub IsEntryOf : ℕ → List ℕ → ℕ → Result Entry EntriesError → Type 0
IsEntryOf number payload at (Ok e) =
    (read_entry number payload ≡ Ok e) × (e.number ≡ number)
    × (record_width e ≡ 13 + length payload)
IsEntryOf number payload at (Err (Damaged place)) =
    (place ≡ at) × ((left : ℕ) × (read_entry number payload ≡ Err left))
IsEntryOf number payload at (Err NoMemory) = Unit {0}
IsEntryOf number payload at (Err Fault) = ⊥

-- entries of a log that has records from the number `first` to before `next`, of which those from
-- `from` on are taken
pub record IsPart (from first next bytes : ℕ) (more : List Entry) : Type 0 where
  pub numbers : IsNumberedFrom (max from first) more
  pub count : max from first + length more ≡ max from next
  pub width : from ≤ first → records_width more ≡ bytes

-- such entries come behind those before
abbrev pub AddsPart : ℕ → ℕ → ℕ → ℕ → List Entry → List Entry → Type 0
AddsPart from first next bytes old new =
    (more : List Entry) × (new ≡ old ++ more) × IsPart from first next bytes more

-- some of them, up to a number before the end
abbrev pub AddsSome : ℕ → ℕ → ℕ → List Entry → List Entry → Type 0
AddsSome from first next old new =
    (n bytes : ℕ) × (n ≤ max first next) × AddsPart from first n bytes old new
