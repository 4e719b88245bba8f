-- Reading a record: its head, and what a log says of it.
use Rattle.std.specs.Prelude.{◌≡◌, ℕ, ◌+◌, ◌<◌, ◌≤◌, Bool, false, ◌&&◌, ◌==◌, nat_le, if◌then◌else◌, List, length, Option, Some, None, Result, IfOk, IfSome}
use Rattle.odb_device.specs.World.{World, file_of}
use Rattle.odb_reclog.specs.Records.{OPEN, HEAD, gate_at, size_at, number_at, end_at, is_record, log_of, IsPlaceIn, record_in}
use Rattle.odb_reclog.specs.Standing.{Log, Stands}
use Rattle.odb_reclog.specs.Told.{IfTold}
use Rattle.odb_reclog.specs.declared.error.RecError.{RecError}
use Rattle.odb_reclog.specs.declared.head.Head.{Head}
use Rattle.odb_reclog.specs.declared.record.LogRecord.{LogRecord}

-- the head of a record at a place
abbrev pub head_at : ℕ → List ℕ → Head
head_at place bytes = record {
  gate = gate_at place bytes;
  size = size_at place bytes;
  number = number_at place bytes;
}

-- the head, at a place, is that of an open record of this number that ends inside the region
abbrev pub is_record_head : ℕ → ℕ → ℕ → Head → Bool
is_record_head end number place head =
    (head.gate == OPEN) && (head.number == number) && nat_le (place + HEAD + head.size) end

-- where the record of this number at a place ends; None where there is none
abbrev pub next_at : ℕ → ℕ → ℕ → List ℕ → Option ℕ
next_at end number place bytes =
    if is_record end number place bytes then Some (end_at place bytes) else None

-- the place is that of a record of the log's list, as the file reads, or its end
abbrev pub IsPlaceOf : Log → ℕ → World → Type 0
IsPlaceOf log at w = IfTold log.file w
    (λ bytes. IsPlaceIn log.start (log_of log.start log.end log.first bytes) at)

-- a record may be read there: the log isn't in doubt and stands for the file, and the place is that
-- of a record of its list, or its end
pub record CanRead (log : Log) (at : ℕ) (w : World) : Type 0 where
  pub usable : log.in_doubt ≡ false
  pub stands : Stands log (file_of log.file w)
  pub low : log.start ≤ at
  pub high : at ≤ log.place
  pub place : IsPlaceOf log at w

-- what is answered is the record at the place, as the file reads
abbrev pub GivesRecord : Log → ℕ → Result (Option LogRecord) RecError → World → Type 0
GivesRecord log at result w = IfTold log.file w (λ bytes. IfOk result
    (λ found. found ≡ record_in log.start log.first (log_of log.start log.end log.first bytes) at))

-- and the record behind it begins at a place of the list
abbrev pub GivesPlace : Log → Result (Option LogRecord) RecError → World → Type 0
GivesPlace log result w = IfTold log.file w (λ bytes. IfOk result (λ found. IfSome found
    (λ r. IsPlaceIn log.start (log_of log.start log.end log.first bytes) r.next)))

-- of whatever file, the record has a number of the log's list, and is as long as its payload says
pub record IsSized (log : Log) (at : ℕ) (r : LogRecord) : Type 0 where
  pub least : log.first ≤ r.number
  pub most : r.number < log.next
  pub size : r.next ≡ at + HEAD + length r.payload
