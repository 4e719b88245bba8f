-- What the calls of the log answer.
use Rattle.std.specs.Prelude.{◌≡◌, ℕ, ◌-◌, ◌<◌, ◌≤◌, List, length, take, drop, IfOk, Option, Some, None, Result, Ok, Err}
use Rattle.odb_device.specs.World.{File}
use Rattle.odb_device.specs.Images.{IsImage, EachImage}
use Rattle.odb_entries.specs.Listed.{log_entries}
use Rattle.odb_model.specs.declared.entry.Entry.{Entry}
use Rattle.odb_logdb.specs.declared.error.LogdbError.{LogdbError}
use Rattle.odb_logdb.specs.declared.error.LogdbError.TheVariants.{Fault, LogFull, NotHeld, Damaged, NoMemory}
use Rattle.odb_reclog.specs.Standing.{Log}
use Rattle.odb_logdb.specs.Opened.{Opened, damaged, holding, records_start, opened}
use Rattle.odb_logdb.specs.Standing.{LogState, first_of, next_of, count_of}

-- `open` finds what the bytes stand for, and counts its entries; a fault and want of memory may come
-- of any bytes
abbrev pub IsOpenAnswer : Result LogState LogdbError → Opened → Type 0
IsOpenAnswer (Ok l) what =
    (entries : List Entry) × (what ≡ holding (first_of l) entries) × (length entries ≡ count_of l)
IsOpenAnswer (Err (Damaged at)) what = what ≡ damaged at
IsOpenAnswer (Err Fault) what = Unit {0}
IsOpenAnswer (Err NoMemory) what = Unit {0}
IsOpenAnswer (Err (LogFull need room)) what = ⊥
IsOpenAnswer (Err (NotHeld first)) what = ⊥

-- the refusals of `open`, of whatever store
abbrev pub IsOpenRefusal : {T : Type 0} → Result T LogdbError → Type 0
IsOpenRefusal (Ok l) = Unit {0}
IsOpenRefusal (Err (Damaged at)) = Unit {0}
IsOpenRefusal (Err Fault) = Unit {0}
IsOpenRefusal (Err NoMemory) = Unit {0}
IsOpenRefusal (Err (LogFull need room)) = ⊥
IsOpenRefusal (Err (NotHeld first)) = ⊥

-- `entries_from` a number: NotHeld exactly where it is below the first one held, which it names
abbrev pub IsReadAnswer : {T : Type 0} → LogState → ℕ → Result T LogdbError → Type 0
IsReadAnswer l from (Ok entries) = first_of l ≤ from
IsReadAnswer l from (Err (NotHeld first)) = (from < first_of l) × (first ≡ first_of l)
IsReadAnswer l from (Err Fault) = first_of l ≤ from
IsReadAnswer l from (Err NoMemory) = first_of l ≤ from
IsReadAnswer l from (Err (LogFull need room)) = ⊥
IsReadAnswer l from (Err (Damaged at)) = ⊥

-- each image opens as one from before did
abbrev pub KeepsOpened : Option File → Option File → Type 0
KeepsOpened None new = new ≡ None
KeepsOpened (Some old) new =
    EachImage (λ image. (before : List ℕ) × IsImage old before × (opened image ≡ opened before)) new

-- a record log of file 1 that begins where that of a log does
pub record IsLogOf (l : LogState) (log : Log) : Type 0 where
  pub file : log.file ≡ 1
  pub start : log.start ≡ records_start l.fields
  pub first : log.first ≡ first_of l

-- `entries_in` gives those of the entries of the list of a record log that have a number from
-- `from` on to the last one held
abbrev pub GivesFrom : LogState → Log → ℕ → Result (List Entry) LogdbError → List ℕ → Type 0
GivesFrom l log from result bytes = (all : List Entry) → log_entries log bytes ≡ Ok all
    → IfOk result (λ es. es ≡ take (next_of l - from) (drop (from - first_of l) all))
