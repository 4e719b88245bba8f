-- What validation answers.
use Rattle.std.specs.Prelude.{ℕ, min, nat_lt, List, [], ◌∷◌, Option, Some, None, Result, Ok, Err, if◌then◌else◌}
use Rattle.odb_model.specs.declared.entry.Entry.{Entry}
use Rattle.odb_model.specs.declared.outcome.Read.{Read}
use Rattle.odb_model.specs.Transaction.{first_conflict}
use Rattle.odb_model.specs.Window.{oldest_number}
use Rattle.odb_validate.specs.declared.error.Aged.{Aged}

-- a conflict, or none; or that the oldest read is below the start
abbrev pub by_age : Option ℕ → ℕ → Option ℕ → Result (Option ℕ) Aged
by_age None start conflict = Ok conflict
by_age (Some oldest) start conflict =
    if nat_lt oldest start then Err (record { oldest = oldest; start = start }) else Ok conflict

-- The verdict on reads where the entries up to `start` may be forgotten: too old exactly where the
-- oldest read is below the start, else the first conflict with these entries, or that there is none
abbrev pub validated : ℕ → List Entry → List Read → Result (Option ℕ) Aged
validated start entries reads =
    by_age (oldest_number reads) start (first_conflict reads entries)
