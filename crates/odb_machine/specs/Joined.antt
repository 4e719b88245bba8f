-- What LOGDB, TRANSDB and a databank file hold together, as they read: from which number on all
-- entries are held, and the rows of a databank.
use Rattle.std.specs.Prelude.{ℕ, ◌+◌, Bool, ◌&&◌, ◌==◌, nat_lt, nat_le, List, [], ◌++◌, flat_map, filter, unwrap_or, Option, Some, None, if◌then◌else◌}
use Rattle.std.specs.FinMap.{empty}
use Rattle.odb_model.specs.declared.write.Write.{Write}
use Rattle.odb_model.specs.declared.entry.Entry.{Entry}
use Rattle.odb_model.specs.State.{State, after_writes}
use Rattle.odb_machine.specs.Sides.{first_in}
use Rattle.odb_machine.specs.Log.{Log, Out, Held, first_held}
use Rattle.odb_model.specs.Databanks.{Databank}
use Rattle.odb_machine.specs.Copies.{Choice, chosen}
use Rattle.odb_machine.specs.Readings.{Reading, Holds, TransdbReading, LogReading, FileReading, last_number, last_logged}

-- LOGDB takes part where it is in order, doesn't end before TRANSDB begins, and doesn't end behind the
-- history
abbrev pub is_joined : TransdbReading → LogReading → Bool
is_joined t log =
    nat_le (first_in t.sides) (last_logged log + 1) && nat_le (last_logged log) (last_number t)

abbrev pub log_joined : TransdbReading → Reading LogReading → Option LogReading
log_joined t (Holds log) = if is_joined t log then Some log else None
log_joined t other = None

abbrev pub log_of : Option LogReading → Log
log_of None = Out
log_of (Some log) = Held (record { first = log.first; last = last_logged log; used = log.used })

abbrev pub entries_of : Option LogReading → List Entry
entries_of None = []
entries_of (Some log) = log.entries

-- the entries that LOGDB and TRANSDB hold together: LOGDB's below TRANSDB's first number, and TRANSDB's
-- from there on
abbrev pub entries_held : TransdbReading → Reading LogReading → List Entry
entries_held t log =
    filter (λ e. nat_lt e.number (first_in t.sides)) (entries_of (log_joined t log)) ++ t.entries

-- the number of the first of them
abbrev pub held_by : TransdbReading → Reading LogReading → ℕ
held_by t log = first_held (log_of (log_joined t log)) t.sides

-- the writes to a databank of the entries above a mark
abbrev pub late_writes : ℕ → ℕ → List Entry → List Write
late_writes bank mark held =
    filter (λ w. w.bank == bank) (flat_map (λ e. e.writes) (filter (λ e. nat_lt mark e.number) held))

-- the rows of a databank: those of its file, changed in order by the databank's writes of every entry
-- above the file's mark. A file that isn't in order has none
abbrev pub rows_read : ℕ → Reading FileReading → List Entry → State
rows_read bank (Holds file) held = after_writes file.rows (late_writes bank file.mark held)
rows_read bank other held = empty

-- the file that a databank is read from: the chosen one, or its master
abbrev pub file_for : List Choice → Databank → ℕ
file_for choices b = unwrap_or (chosen choices b.number) b.file
