-- Where the list of a region ends, and what closing the gate there does to the file.
use Rattle.std.specs.Prelude.{◌≡◌, ℕ, ◌+◌, ◌<◌, ◌&&◌, ◌==◌, nat_lt, if◌then◌else◌, List, [], ◌∷◌, length}
use Rattle.odb_device.specs.World.{File}
use Rattle.odb_device.specs.Images.{written, kept}
use Rattle.odb_reclog.specs.Records.{OPEN, gate_at, log_of, end_of_list}
use Rattle.odb_reclog.specs.declared.walk.ListEnd.{ListEnd}

-- the gate of the next record is open: the list of the bytes ends at this place, inside the region
pub record IsOpenEnd (start end first : ℕ) (bytes : List ℕ) (place : ℕ) : Type 0 where
  pub ends : end_of_list start (log_of start end first bytes) ≡ place
  pub inside : place < end
  pub is_open : gate_at place bytes ≡ OPEN

-- the list of the bytes ends at this place, and the next record would have this number
pub record EndsAt (start end first : ℕ) (found : ListEnd) (bytes : List ℕ) : Type 0 where
  pub place : end_of_list start (log_of start end first bytes) ≡ found.place
  pub number : first + length (log_of start end first bytes) ≡ found.number

-- the file on the disk, where a gate at a place inside the region is closed, if it was open
abbrev pub closed_at : ℕ → ℕ → File → File
closed_at place end file =
    let is_open = nat_lt place end && gate_at place file.bytes == OPEN in
    kept (if is_open then written place (0 ∷ []) file else file)
