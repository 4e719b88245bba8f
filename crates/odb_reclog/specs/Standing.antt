-- A log in memory and the bytes of its file.
use Rattle.std.specs.Prelude.{◌≡◌, ◌≢◌, ℕ, ◌+◌, ◌-◌, ◌^◌, ◌<◌, ◌≤◌, max, Bool, true, false, List, [], length, Option, Some, None}
use Rattle.odb_device.specs.World.{File}
use Rattle.odb_device.specs.Images.{EachImage, part}
use Rattle.odb_device.specs.Zeros.{AreZero}
use Rattle.odb_reclog.specs.Records.{OPEN, HEAD, gate_at, size_at, number_at, payload_at, log_of, end_of_list}

-- Its file, its region from `start` to before `end`, the number of the first record; the place and
-- the number of the next record; from where on the region is zeros on the disk; whether what stands
-- between the gate of the next record and that byte may differ from what a read gives; whether it
-- is a body whose gate wasn't opened yet; and whether it isn't known if the last record is there.
pub record Log : Type 0 where
  pub file : ℕ
  pub start : ℕ
  pub end : ℕ
  pub first : ℕ
  pub place : ℕ
  pub next : ℕ
  pub clear_from : ℕ
  pub touched : Bool
  pub has_body : Bool
  pub in_doubt : Bool

-- The region lies below 2^40, the place of the next record inside it or at its end, and no number
-- ends the type. What isn't known to be zeros lies inside the region, and so does a body.
pub record IsLog (log : Log) : Type 0 where
  pub start : log.start ≤ log.place
  pub end : log.place ≤ log.end
  pub most : log.end ≤ 2 ^ 40
  pub first : log.first ≤ 2 ^ 63
  pub next : log.next + log.start ≤ log.first + log.place
  pub clear_from : log.place < log.clear_from
  pub clear_to : log.clear_from ≤ max log.end (log.place + 1)
  pub body : log.has_body ≡ true → log.clear_from ≤ log.end

-- what stands between the gate of the next record and the zeros
abbrev pub tail_at : Log → List ℕ → List ℕ
tail_at log bytes = part (log.place + 1) (log.clear_from - (log.place + 1)) bytes

-- The bytes have this list, behind which the log goes on: the gate of the next record is closed,
-- where there is room for one. What stands between it and the zeros is this, unless it was touched.
pub record StandsFor (log : Log) (records : List (List ℕ)) (between bytes : List ℕ) : Type 0 where
  pub in_range : IsLog log
  pub long : log.end ≤ length bytes
  pub list : log_of log.start log.end log.first bytes ≡ records
  pub place : end_of_list log.start records ≡ log.place
  pub number : log.first + length records ≡ log.next
  pub closed : log.place < log.end → gate_at log.place bytes ≢ OPEN
  pub clear : AreZero log.clear_from log.end bytes
  pub tail : log.touched ≡ false → tail_at log bytes ≡ between

-- the list of the file as it reads; of one that isn't told, none
abbrev pub list_in : ℕ → ℕ → ℕ → Option File → List (List ℕ)
list_in start end first None = []
list_in start end first (Some file) = log_of start end first file.bytes

abbrev pub list_of : Log → Option File → List (List ℕ)
list_of log file = list_in log.start log.end log.first file

-- the tail of the file as it reads
abbrev pub tail_of : Log → Option File → List ℕ
tail_of log None = []
tail_of log (Some file) = tail_at log file.bytes

-- each image has the list that a read gives, and the log goes on behind it
abbrev pub Stands : Log → Option File → Type 0
Stands log file = EachImage (StandsFor log (list_of log file) (tail_of log file)) file

-- the log of a region of zeros: it has no record yet, and its tail is clear
abbrev pub begun : ℕ → ℕ → ℕ → ℕ → Log
begun file start end first = record {
  file = file;
  start = start;
  end = end;
  first = first;
  place = start;
  next = first;
  clear_from = start + 1;
  touched = false;
  has_body = false;
  in_doubt = false;
}

-- the tail is clear: behind the gate of the next record the region is zeros, on the disk
abbrev pub IsClear : Log → Type 0
IsClear log = log.clear_from ≤ log.place + 1

-- behind the closed gate stand the length, the number and this payload, and then zeros
pub record HasBody (log : Log) (body : List ℕ) (bytes : List ℕ) : Type 0 where
  pub size : size_at log.place bytes ≡ length body
  pub number : number_at log.place bytes ≡ log.next
  pub payload : payload_at log.place bytes ≡ body
  pub within : log.place + HEAD + length body ≤ log.end
  pub behind : log.clear_from ≡ log.place + HEAD + length body

-- the payload behind the closed gate, as it reads
abbrev pub body_of : Log → Option File → List ℕ
body_of log None = []
body_of log (Some file) = payload_at log.place file.bytes

-- each image has the body that a read gives
abbrev pub HasItsBody : Log → Option File → Type 0
HasItsBody log file = EachImage (HasBody log (body_of log file)) file

-- the two logs are of the same region
pub record SameRegion (old new : Log) : Type 0 where
  pub file : new.file ≡ old.file
  pub start : new.start ≡ old.start
  pub end : new.end ≡ old.end
  pub first : new.first ≡ old.first

-- the two logs differ in what stands behind the gate of the next record alone
pub record SameList (old new : Log) : Type 0 where
  pub file : new.file ≡ old.file
  pub start : new.start ≡ old.start
  pub end : new.end ≡ old.end
  pub first : new.first ≡ old.first
  pub place : new.place ≡ old.place
  pub next : new.next ≡ old.next
  pub in_doubt : new.in_doubt ≡ old.in_doubt
