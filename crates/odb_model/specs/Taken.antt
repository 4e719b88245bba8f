-- Which entries a turn of a copy takes.
use Rattle.std.specs.Prelude.{ℕ, ◌-◌, nat_lt, List, [], ◌∷◌, length, if◌then◌else◌}
use Rattle.odb_model.specs.declared.entry.Entry.{Entry}

-- the entries of a turn have at most so many writes in all, those to other databanks among them
abbrev pub most_turned : ℕ
most_turned = 256

-- the longest run of entries from the front with at most so many writes
abbrev pub run_within : ℕ → List Entry → List Entry
run_within most [] = []
run_within most (e ∷ es) =
    if nat_lt most (length e.writes) then [] else e ∷ run_within (most - length e.writes) es

-- the entries that a turn takes of those behind the mark: the longest run with at most 256 writes, and
-- at least one entry where there is one
abbrev pub run_of : List Entry → List Entry
run_of [] = []
run_of (e ∷ es) =
    if nat_lt most_turned (length e.writes) then e ∷ [] else run_within most_turned (e ∷ es)
