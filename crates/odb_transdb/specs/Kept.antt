-- The places kept of a side: those of every 64th of its records, so that no reading goes over a side
-- from its start.
use Rattle.std.specs.Prelude.{◌≡◌, ℕ, ◌+◌, ◌*◌, ◌<◌, ◌≤◌, List, length, take, slice_index, Option, Some, IfSome}
use Rattle.odb_device.specs.World.{File}
use Rattle.odb_reclog.specs.Records.{end_of_list}
use Rattle.odb_reclog.specs.Standing.{Log, list_of}

-- where the records of a list come to behind 64 of them, behind 128, and so on
pub record AreSteps (start : ℕ) (list : List (List ℕ)) (places : List ℕ) : Type 0 where
  pub few : 64 * length places ≤ length list
  pub each : (k : ℕ) → k < length places
      → slice_index places k ≡ end_of_list start (take (64 * (k + 1)) list)

-- of a log's list, as the file reads: each image has that list
abbrev pub AreKept : Log → List ℕ → Option File → Type 0
AreKept log places file = AreSteps log.start (list_of log file) places

-- of a file that is told
abbrev pub AreKeptIn : Log → List ℕ → Option File → Type 0
AreKeptIn log places file = IfSome file (λ f. AreKept log places (Some f))

-- of whatever file, they lie between the log's start and the place of its next record, and so many
-- records come before that
pub record AreWithin (log : Log) (places : List ℕ) : Type 0 where
  pub few : log.first + 64 * length places ≤ log.next
  pub low : (k : ℕ) → k < length places → log.start ≤ slice_index places k
  pub high : (k : ℕ) → k < length places → slice_index places k ≤ log.place
