-- Which entries a commit may still be validated against: the last ones of the history, with at most so
-- many writes; and the oldest of some reads, which decides whether they suffice.
use Rattle.std.specs.Prelude.{ℕ, ◌+◌, min, nat_le, List, [], ◌∷◌, length, Option, Some, None, if◌then◌else◌}
use Rattle.odb_model.specs.declared.entry.Entry.{Entry}
use Rattle.odb_model.specs.declared.outcome.Read.{Read}

-- how many writes some entries have in all
abbrev pub write_count : List Entry → ℕ
write_count [] = 0
write_count (e ∷ h) = length e.writes + write_count h

-- the number of entries before the longest suffix of a history that has at most so many writes in
-- all: the first suffix, from the whole history on, that has no more
abbrev pub start_within : ℕ → List Entry → ℕ
start_within most [] = 0
start_within most (e ∷ h) =
    if nat_le (write_count (e ∷ h)) most then 0 else start_within most h + 1

-- how many writes a window has at most
abbrev pub window_writes : ℕ
window_writes = 262144

-- the number of entries before the longest suffix of a history that has at most 262,144 writes
abbrev pub window_start : List Entry → ℕ
window_start h = start_within window_writes h

-- the lesser of a number and another, where there is another
abbrev pub least_with : ℕ → Option ℕ → Option ℕ
least_with n None = Some n
least_with n (Some m) = Some (min n m)

-- the least number of the reads
abbrev pub oldest_number : List Read → Option ℕ
oldest_number [] = None
oldest_number (r ∷ reads) = least_with r.number (oldest_number reads)
