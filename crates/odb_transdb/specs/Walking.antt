-- What the walk over the records of a side finds, and where it may begin.
use Rattle.std.specs.Prelude.{◌≡◌, ◌≢◌, ◌⊎◌, ℕ, ◌+◌, ◌-◌, ◌*◌, ◌<◌, ◌≤◌, max, List, [], ◌++◌, length, slice_index, Option, Some, Result, Ok, Err}
use Rattle.odb_device.specs.World.{World}
use Rattle.odb_reclog.specs.Told.{IfTold}
use Rattle.odb_reclog.specs.Records.{log_of, end_of_list, record_in}
use Rattle.odb_reclog.specs.Standing.{Log}
use Rattle.odb_reclog.specs.declared.record.LogRecord.{LogRecord}
use Rattle.odb_codec.specs.Reading.{read_entry}
use Rattle.odb_model.specs.declared.entry.Entry.{Entry}
use Rattle.odb_model.specs.declared.side.OtherSide.{OtherSide}
use Rattle.odb_model.specs.declared.side.OtherSide.TheVariants.{Live, Dirty, Clean}
use Rattle.odb_model.specs.State.{IsNumberedFrom}
use Rattle.odb_model.specs.Width.{record_width, records_width}
use Rattle.odb_transdb.specs.declared.header.Header.{Header}
use Rattle.odb_transdb.specs.declared.error.TransdbError.{TransdbError}
use Rattle.odb_transdb.specs.declared.error.TransdbError.TheVariants.{NoDatabase, Damaged, Full, FaultBefore, InDoubt, NotClean, Held, Fault, NoMemory}
use Rattle.odb_transdb.specs.Header.{side_start, first_on, other_of}
use Rattle.odb_transdb.specs.Opened.{entries_from, side_entries, joined}
use Rattle.odb_transdb.specs.Kept.{AreWithin}

-- the entries of the other side where it is Live
abbrev pub live_read : Header → OtherSide → List ℕ → Result (List Entry) ℕ
live_read h Live bytes = side_entries h (other_of h) bytes
live_read h Dirty bytes = Ok []
live_read h Clean bytes = Ok []

-- the entries of all sides that hold some
abbrev pub sides_read : Header → List ℕ → Result (List Entry) ℕ
sides_read h bytes = joined (live_read h h.other bytes) (side_entries h h.active bytes)

-- the entries of the list of a log, or the place of the first record that is none
abbrev pub log_entries : Log → List ℕ → Result (List Entry) ℕ
log_entries log bytes =
    entries_from log.first log.start (log_of log.start log.end log.first bytes)

-- the record that this list has at a place
abbrev pub log_record : Log → ℕ → List ℕ → Option LogRecord
log_record log at bytes =
    record_in log.start log.first (log_of log.start log.end log.first bytes) at

-- P of all the entries that are read, or the place of the first record that is none
abbrev pub IsReadOf : {T : Type 0}
    → (List Entry → T → Type 0) → Result (List Entry) ℕ → Result T TransdbError → Type 0
IsReadOf P read (Ok x) = (all : List Entry) × (read ≡ Ok all) × P all x
IsReadOf P read (Err (Damaged at)) = read ≡ Err at
IsReadOf P read (Err Fault) = Unit {0}
IsReadOf P read (Err NoMemory) = Unit {0}
IsReadOf P read (Err NoDatabase) = ⊥
IsReadOf P read (Err (Full need room)) = ⊥
IsReadOf P read (Err NotClean) = ⊥
IsReadOf P read (Err (Held mark last)) = ⊥
IsReadOf P read (Err FaultBefore) = ⊥
IsReadOf P read (Err (InDoubt number)) = ⊥

-- the record of this number that a list has at a place
abbrev pub IsRecordOf : Option LogRecord → ℕ → ℕ → Result LogRecord TransdbError → Type 0
IsRecordOf found at number (Ok r) = (found ≡ Some r) × (r.number ≡ number)
IsRecordOf found at number (Err (Damaged place)) =
    (place ≡ at) × ((r : LogRecord) → found ≡ Some r → r.number ≢ number)
IsRecordOf found at number (Err Fault) = Unit {0}
IsRecordOf found at number (Err NoMemory) = Unit {0}
IsRecordOf found at number (Err NoDatabase) = ⊥
IsRecordOf found at number (Err (Full need room)) = ⊥
IsRecordOf found at number (Err NotClean) = ⊥
IsRecordOf found at number (Err (Held mark last)) = ⊥
IsRecordOf found at number (Err FaultBefore) = ⊥
IsRecordOf found at number (Err (InDoubt other)) = ⊥

-- the entry that the payload is the image of
abbrev pub IsEntryOf : ℕ → List ℕ → ℕ → Result Entry TransdbError → Type 0
IsEntryOf number payload at (Ok e) =
    (read_entry number payload ≡ Ok e) × (e.number ≡ number)
    × (record_width e ≡ 13 + length payload)
IsEntryOf number payload at (Err (Damaged place)) =
    (place ≡ at) × ((left : ℕ) × (read_entry number payload ≡ Err left))
IsEntryOf number payload at (Err NoMemory) = Unit {0}
IsEntryOf number payload at (Err Fault) = ⊥
IsEntryOf number payload at (Err NoDatabase) = ⊥
IsEntryOf number payload at (Err (Full need room)) = ⊥
IsEntryOf number payload at (Err NotClean) = ⊥
IsEntryOf number payload at (Err (Held mark last)) = ⊥
IsEntryOf number payload at (Err FaultBefore) = ⊥
IsEntryOf number payload at (Err (InDoubt other)) = ⊥

-- entries of a side that has records from the number `first` to before `next`, of which those from
-- `from` on are taken
pub record IsPart (from first next bytes : ℕ) (more : List Entry) : Type 0 where
  pub numbers : IsNumberedFrom (max from first) more
  pub count : max from first + length more ≡ max from next
  pub width : from ≤ first → records_width more ≡ bytes

-- such entries come behind those before
abbrev pub AddsPart : ℕ → ℕ → ℕ → ℕ → List Entry → List Entry → Type 0
AddsPart from first next bytes old new =
    (more : List Entry) × (new ≡ old ++ more) × IsPart from first next bytes more

-- the entries of these payloads of a side come behind those before
abbrev pub AddsPayloads : Header → ℕ → List (List ℕ) → List Entry → List Entry → Type 0
AddsPayloads h side payloads =
    let first = first_on h side in
    let start = side_start h side in
    AddsPart first first (first + length payloads) (end_of_list start payloads - start)

-- some of them, up to a number before the end
abbrev pub AddsSome : ℕ → ℕ → ℕ → List Entry → List Entry → Type 0
AddsSome from first next old new =
    (n bytes : ℕ) × (n ≤ max first next) × AddsPart from first n bytes old new

-- the entries from a number on, in order, up to before the number `next`
abbrev pub AreUpTo : ℕ → ℕ → List Entry → Type 0
AreUpTo from next entries = IsNumberedFrom from entries × (from + length entries ≡ max from next)

-- or a front of these
abbrev pub AreSome : ℕ → ℕ → List Entry → Type 0
AreSome from next entries = IsNumberedFrom from entries × (from + length entries ≤ max from next)

-- the records of a log before a place are entries, and the record there would have this number
pub record IsBefore (log : Log) (at number : ℕ) (bytes : List ℕ) : Type 0 where
  pub done : List (List ℕ)
  pub rest : List (List ℕ)
  pub all : List Entry
  pub list_is : log_of log.start log.end log.first bytes ≡ done ++ rest
  pub place : at ≡ end_of_list log.start done
  pub number_is : number ≡ log.first + length done
  pub read : entries_from log.first log.start done ≡ Ok all

-- A walk over a log that wants the entries from a number on may begin at this place, with this
-- number: none of those that it leaves is wanted
pub record CanBegin (log : Log) (from at number : ℕ) (w : World) : Type 0 where
  pub low : log.start ≤ at
  pub high : (at ≡ log.start) ⊎ (at ≤ log.place)
  pub least : log.first ≤ number
  pub most : number ≤ max log.first log.next
  pub wanted : max from log.first ≡ max from number
  pub whole : from ≤ log.first → at ≡ log.start
  pub told : IfTold log.file w (IsBefore log at number)

-- the places kept are those of a log's records, all of which are entries
pub record ArePlaced (log : Log) (places : List ℕ) (bytes : List ℕ) : Type 0 where
  pub each : (k : ℕ) → k < length places
      → IsBefore log (slice_index places k) (log.first + 64 * (k + 1)) bytes
  pub end : IsBefore log log.place log.next bytes

-- of a told file, and they lie in the log
pub record CanStep (log : Log) (places : List ℕ) (w : World) : Type 0 where
  pub within : AreWithin log places
  pub told : IfTold log.file w (ArePlaced log places)
