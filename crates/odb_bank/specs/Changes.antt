-- How the open records of a file change: a crash leaves any of the changes of one step.
use Rattle.std.specs.Prelude.{◌≡◌, ◌⊎◌, ℕ, ◌<◌, ◌≤◌, Option, Some, None}
use Rattle.odb_bank.specs.History.{Key, History, IsLast}
use Rattle.odb_bank.specs.Records.{Record, View}

-- a record of the last write of its key among the entries above a, up to the number reached
pub record IsOfRun (h : History) (a reached : ℕ) (r : Record) : Type 0 where
  pub above : a < r.stamp
  pub last : IsLast h reached r.key r.stamp
  pub writes : h.write r.stamp r.key ≡ Some r.row

-- a slot that is closed gets a record of the run
pub record IsAdded (h : History) (a reached : ℕ) (before after : Option Record) : Type 0 where
  pub was_closed : before ≡ None
  pub added : Record
  pub now : after ≡ Some added
  pub of_run : IsOfRun h a reached added

-- behind opened gates, the records of a run: for each key that it writes, that of its last write
pub record AddsRun (h : History) (a reached : ℕ) (less more : View) : Type 0 where
  pub within : reached ≤ h.count
  pub each : (n : ℕ) → (more n ≡ less n) ⊎ IsAdded h a reached (less n) (more n)
  pub all : (key : Key) (j : ℕ) → IsLast h reached key j → a < j
      → (n : ℕ) × (r : Record) × (more n ≡ Some r) × (r.key ≡ key) × (r.stamp ≡ j)

-- another record of its key has a greater stamp, or an equal one and a lower slot
pub record IsSuperseded (view : View) (n : ℕ) (r : Record) : Type 0 where
  pub slot : ℕ
  pub by : Record
  pub is_open : view slot ≡ Some by
  pub of_key : by.key ≡ r.key
  pub wins : (r.stamp < by.stamp) ⊎ ((by.stamp ≡ r.stamp) × (slot < n))

-- a deletion mark with a stamp of at most the mark, of whose key no older record is open
pub record IsDoneMark (mark : ℕ) (view : View) (r : Record) : Type 0 where
  pub no_row : r.row ≡ None
  pub marked : r.stamp ≤ mark
  pub no_older : (n : ℕ) (other : Record) → view n ≡ Some other → other.key ≡ r.key
      → r.stamp ≤ other.stamp

abbrev pub IsStale : ℕ → View → ℕ → Record → Type 0
IsStale mark view n r = IsSuperseded view n r ⊎ IsDoneMark mark view r

-- stale slots are closed, and no others
abbrev pub ClosesStale : ℕ → View → View → Type 0
ClosesStale mark more less = (n : ℕ) → (less n ≡ more n)
    ⊎ ((less n ≡ None) × ((r : Record) → more n ≡ Some r → IsStale mark more n r))
