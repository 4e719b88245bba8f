-- The steps that the generator goes through, and what it has still to make.
use Rattle.std.specs.Prelude.{ℕ, ◌+◌, ◌-◌, ◌%◌, ◌==◌, Bool, true, false, List, [], ◌∷◌, ◌++◌, codes, map, flat_map, if◌then◌else◌}
use Rattle.std.specs.List.{range_with_len}
use Rattle.odb_generate.specs.declared.generator.Place.{Place}
use Rattle.odb_generate.specs.declared.step.Step.{Step}
use Rattle.odb_generate.specs.declared.step.Step.TheVariants.{Start, Insert, Less, More, Commit, Log, Bodies, Gates, Mark, Turn, Clean, Sum}
use Rattle.odb_generate.specs.Script.{start_line, commit_line, insert_line, less_line, more_line, bodies_line, gates_line, mark_line, sum_line, round_lines, closing_lines}

-- the line of a step in round r
abbrev pub line_of : ℕ → Step → List ℕ
line_of r (Start session) = start_line session
line_of r Insert = insert_line
line_of r (Less session) = less_line r session
line_of r (More session) = more_line r session
line_of r (Commit session) = commit_line session
line_of r Log = codes "! LOG"
line_of r (Bodies file) = bodies_line file
line_of r (Gates file) = gates_line file
line_of r (Mark file) = mark_line file
line_of r Turn = codes "! TURN"
line_of r Clean = codes "! CLEAN"
line_of r Sum = sum_line

abbrev pub applying : ℕ → List Step
applying file = Bodies file ∷ Gates file ∷ Mark file ∷ []

-- the steps of every round, and of a tenth one two more
abbrev pub common_steps : List Step
common_steps =
    Start 1 ∷ Start 2 ∷ Start 3 ∷ Less 1 ∷ Less 2 ∷ Less 3 ∷ More 1 ∷ More 2 ∷ More 3
    ∷ Commit 1 ∷ Commit 2 ∷ Commit 3 ∷ Log ∷ []
    ++ applying 2 ++ applying 3 ++ applying 4

abbrev pub steps_of : ℕ → List Step
steps_of r = common_steps ++ (if (r % 10) == 0 then Turn ∷ Clean ∷ [] else [])

-- the lines of the rounds behind round r, up to the n-th, and of the closing
abbrev pub lines_behind : ℕ → ℕ → List (List ℕ)
lines_behind r n = flat_map round_lines (range_with_len (r + 1) (n - r)) ++ closing_lines

-- the lines that are left: those of the steps left in round r, and, unless the closing has begun, all
-- behind them
abbrev pub lines_left : ℕ → ℕ → Bool → List Step → List (List ℕ)
lines_left r n true steps = map (line_of r) steps
lines_left r n false steps = map (line_of r) steps ++ lines_behind r n

abbrev pub left_at : Place → List (List ℕ)
left_at place = lines_left place.round place.rounds place.is_closing place.steps.now
