-- What `write_body` answers.
use Rattle.std.specs.Prelude.{◌≡◌, ℕ, ◌+◌, ◌<◌, ◌≤◌, Result, Ok, Err, ⊤}
use Rattle.odb_reclog.specs.Records.{HEAD}
use Rattle.odb_reclog.specs.declared.error.RecError.{RecError}
use Rattle.odb_reclog.specs.declared.error.RecError.TheVariants.{Fault, Full, NoMemory}

-- Full exactly where there is less room than a record of n bytes needs; else it is done, or a fault
-- came
abbrev pub IsBodyAnswer : ℕ → ℕ → Result ⊤ RecError → Type 0
IsBodyAnswer n room (Ok done) = HEAD + n ≤ room
IsBodyAnswer n room (Err Fault) = HEAD + n ≤ room
IsBodyAnswer n room (Err (Full need left)) = (need ≡ HEAD + n) × (left ≡ room) × (left < need)
IsBodyAnswer n room (Err NoMemory) = ⊥
