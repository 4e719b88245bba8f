-- What a host shows to proofs: its files as they are and as a crash may leave them, at each moment
-- so far.
use Rattle.std.specs.Prelude.{ℕ, Bool, List, [], Option, IsSome}

-- a file: the bytes that a read gives, those that the last sync left, and the ranges (first byte,
-- length) written since, newest first
pub record File : Type 0 where
  pub bytes : List ℕ
  pub synced : List ℕ
  pub ranges : List (ℕ × ℕ)

-- a file that was never written: it has no bytes
abbrev pub empty_file : File
empty_file = record { bytes = []; synced = []; ranges = [] }

-- what there is at one moment: the files that are told, the bytes said by then, where they are
-- told, and each file's count of faults by then
pub record Moment : Type 0 where
  pub files : ℕ → Option File
  pub said : Option (List ℕ)
  pub faults : ℕ → ℕ

-- the console: the bytes taken, where they are told, whether 0 was answered to `take`, and the
-- counts of faults
pub record Talk : Type 0 where
  pub taken : Option (List ℕ)
  pub has_ended : Bool
  pub take_faults : ℕ
  pub say_faults : ℕ

-- the moments from 0 to the present one, and the console
pub record World : Type 0 where
  pub time : ℕ
  pub moment : ℕ → Moment
  pub talk : Talk

-- The present is the moment `time`. So what is said of each moment since some time counts now too,
-- and since now there is no other moment: Laws.antt has both, for every world.
abbrev pub present : World → Moment
present w = w.moment w.time

-- the file as it is now, where it is told
abbrev pub file_of : ℕ → World → Option File
file_of file w = (present w).files file

-- the file's count of faults now
abbrev pub faults_of : ℕ → World → ℕ
faults_of file w = (present w).faults file

-- the store tells the file
abbrev pub IsObservable : ℕ → World → Type 0
IsObservable file w = IsSome (file_of file w)
