-- A run of entries: those that a copy takes in one turn.
use Rattle.std.specs.Prelude.{◌≡◌, ℕ, ◌+◌, ◌-◌, nat_lt, Bool, true, false, List, [], ◌∷◌, ◌++◌, length, drop, Option, Result, Ok, Err, IfSome, IfOk, if◌then◌else◌}
use Rattle.odb_device.specs.World.{File}
use Rattle.odb_model.specs.declared.entry.Entry.{Entry}
pub use Rattle.odb_model.specs.Taken.{run_within}
use Rattle.odb_transdb.specs.declared.error.TransdbError.{TransdbError}
use Rattle.odb_transdb.specs.declared.error.TransdbError.TheVariants.{NoDatabase, Damaged, Full, FaultBefore, InDoubt, NotClean, Held, Fault, NoMemory}
use Rattle.odb_reclog.specs.Standing.{Log}
use Rattle.odb_transdb.specs.declared.header.Header.{Header}
use Rattle.odb_transdb.specs.Header.{first_held, active_first}
use Rattle.odb_transdb.specs.Walking.{live_read, sides_read, log_entries}
use Rattle.odb_transdb.specs.Standing.{Db}
use Rattle.odb_transdb.specs.Turning.{StandsSince, AreLast}

-- the longest run of entries with at most so many writes, and at least one entry where there is one
abbrev pub run_upto : ℕ → List Entry → List Entry
run_upto most [] = []
run_upto most (e ∷ es) =
    if nat_lt most (length e.writes) then e ∷ [] else run_within most (e ∷ es)

-- what a run that has these entries, and room for so many writes more, takes of those that come behind
abbrev pub goes_on : ℕ → ℕ → List Entry → List Entry → List Entry
goes_on most left [] rest = run_upto most rest
goes_on most left (e ∷ es) rest = run_within left rest

-- they are the front of a run, which has room for so many writes more
pub record IsRun (most left : ℕ) (entries : List Entry) : Type 0 where
  pub starts : entries ≡ [] → left ≡ most
  pub all : (rest : List Entry)
      → run_upto most (entries ++ rest) ≡ entries ++ goes_on most left entries rest

-- the run has all of them so far; or it is over, and is what was taken, whatever comes behind
abbrev pub IsTaken : ℕ → Bool → List Entry → List Entry → Type 0
IsTaken most false behind entries = entries ≡ behind
IsTaken most true behind entries = (rest : List Entry) → run_upto most (behind ++ rest) ≡ entries

-- P, unless a read failed or memory ran out: there is no damage
abbrev pub IsUndamaged : {T : Type 0} → (T → Type 0) → Result T TransdbError → Type 0
IsUndamaged P (Ok x) = P x
IsUndamaged P (Err Fault) = Unit {0}
IsUndamaged P (Err NoMemory) = Unit {0}
IsUndamaged P (Err NoDatabase) = ⊥
IsUndamaged P (Err (Damaged at)) = ⊥
IsUndamaged P (Err (Full need room)) = ⊥
IsUndamaged P (Err NotClean) = ⊥
IsUndamaged P (Err (Held mark last)) = ⊥
IsUndamaged P (Err FaultBefore) = ⊥
IsUndamaged P (Err (InDoubt number)) = ⊥

-- where all records of both sides are entries, these are the run of those from a number on
abbrev pub TellsRun : {T : Type 0}
    → ℕ → Header → ℕ → List Entry → List ℕ → Result T TransdbError → Type 0
TellsRun most h from entries bytes result = (all : List Entry) → sides_read h bytes ≡ Ok all
    → IsUndamaged (λ _. entries ≡ run_upto most (drop (from - first_held h) all)) result

-- the same of a Live side's, which lead to the active one
abbrev pub TellsFront : ℕ → Header → ℕ → List Entry → List ℕ
    → Result Bool TransdbError → Type 0
TellsFront most h from entries bytes result =
    (front : List Entry) → live_read h h.other bytes ≡ Ok front
    → IsUndamaged (λ over. IsTaken most over (drop (from - first_held h) front) entries
    × (first_held h + length front ≡ active_first h)) result

-- and of those of one log, behind these that were taken before
abbrev pub TellsSide : ℕ → Log → ℕ → List Entry → List Entry → List ℕ
    → Result Bool TransdbError → Type 0
TellsSide most log from before entries bytes result =
    (all : List Entry) → log_entries log bytes ≡ Ok all
    → IsUndamaged (λ over. IsTaken most over (before ++ drop (from - log.first) all) entries) result

-- the run of such entries is over with this one, and is these
abbrev pub EndsWith : ℕ → List Entry → Entry → List Entry → Type 0
EndsWith most before e entries =
    (rest : List Entry) → run_upto most (before ++ e ∷ rest) ≡ entries

-- the run of the last of all entries, from a number on
pub record IsLastRun (most from next : ℕ) (all entries : List Entry) : Type 0 where
  pub behind : List Entry
  pub last : AreLast from next all behind
  pub run : entries ≡ run_upto most behind

-- where the file stands for some entries, what is given is the run of the last of them from a number on
abbrev pub GivesRun : ℕ → Db → ℕ → Result (List Entry) TransdbError → Option File → Type 0
GivesRun most db from result file = (all : List Entry) → StandsSince db all file
    → IfSome file (λ f. IfOk result (IsLastRun most from db.active.next all))
