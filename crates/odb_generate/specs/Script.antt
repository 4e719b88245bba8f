-- The script of `generate`, line by line, without the ends of lines. The rules are this project's
-- own.
use Rattle.std.specs.Prelude.{ℕ, ◌+◌, ◌*◌, ◌%◌, ◌==◌, List, [], ◌∷◌, ◌++◌, codes, flat_map, if◌then◌else◌}
use Rattle.std.specs.Fmt.{decimal}
use Rattle.std.specs.List.{range_with_len}

-- lines of a session
abbrev pub start_line : ℕ → List ℕ
start_line session = decimal session ++ codes " START"

abbrev pub commit_line : ℕ → List ℕ
commit_line session = decimal session ++ codes " COMMIT"

-- the row of a key in the first insert, behind a comma but for the first
abbrev pub first_row : ℕ → List ℕ
first_row key =
    (if key == 0 then codes "(" else codes ", (") ++ decimal key ++ codes ",100)"

-- the rows (0,100) to (99,100) by one statement
abbrev pub insert_line : List ℕ
insert_line = codes "1 INSERT INTO KV VALUES " ++ flat_map first_row (range_with_len 0 100)

-- the key from whose value a session takes 1 in round r, and the one to whose value it adds 1
abbrev pub taken_from : ℕ → ℕ → ℕ
taken_from r session = (7 * r + 3 * session) % 100

abbrev pub added_to : ℕ → ℕ → ℕ
added_to r session = (11 * r + 5 * session + 1) % 100

abbrev pub less_by_key : ℕ → ℕ → List ℕ
less_by_key session key =
    decimal session ++ codes " UPDATE KV SET V = V - 1 WHERE K = " ++ decimal key

abbrev pub less_line : ℕ → ℕ → List ℕ
less_line r session = less_by_key session (taken_from r session)

abbrev pub more_by_key : ℕ → ℕ → List ℕ
more_by_key session key =
    decimal session ++ codes " UPDATE KV SET V = V + 1 WHERE K = " ++ decimal key

abbrev pub more_line : ℕ → ℕ → List ℕ
more_line r session = more_by_key session (added_to r session)

-- what sessions 1, 2 and 3 say in turn
abbrev pub in_turn : (ℕ → List ℕ) → List (List ℕ)
in_turn line = line 1 ∷ line 2 ∷ line 3 ∷ []

abbrev pub bodies_line : ℕ → List ℕ
bodies_line file = codes "! APPLY " ++ decimal file ++ codes " BODIES"

abbrev pub gates_line : ℕ → List ℕ
gates_line file = codes "! APPLY " ++ decimal file ++ codes " GATES"

abbrev pub mark_line : ℕ → List ℕ
mark_line file = codes "! APPLY " ++ decimal file ++ codes " MARK"

-- the three steps of a turn on a file
abbrev pub turn_lines : ℕ → List (List ℕ)
turn_lines file = bodies_line file ∷ gates_line file ∷ mark_line file ∷ []

abbrev pub sum_line : List ℕ
sum_line = codes "1 SELECT SUM(V) FROM KV"

abbrev pub opening_lines : List (List ℕ)
opening_lines = start_line 1 ∷ insert_line ∷ commit_line 1 ∷ []

-- in every tenth round the sides of TRANSDB are turned
abbrev pub side_lines : ℕ → List (List ℕ)
side_lines r = if (r % 10) == 0 then codes "! TURN" ∷ codes "! CLEAN" ∷ [] else []

-- round r
abbrev pub round_lines : ℕ → List (List ℕ)
round_lines r =
    in_turn start_line ++ in_turn (less_line r) ++ in_turn (more_line r) ++ in_turn commit_line
    ++ codes "! LOG" ∷ [] ++ turn_lines 2 ++ turn_lines 3 ++ turn_lines 4 ++ side_lines r

abbrev pub closing_lines : List (List ℕ)
closing_lines = start_line 1 ∷ sum_line ∷ commit_line 1 ∷ []

-- the whole script: the opening, rounds 1 to n, and the closing
abbrev pub script : ℕ → List (List ℕ)
script n = opening_lines ++ flat_map round_lines (range_with_len 1 n) ++ closing_lines
