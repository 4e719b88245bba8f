-- The front of a line that is in memory while its bytes come, and what is read of it.
use Rattle.std.specs.Prelude.{ℕ, ◌+◌, List, length, take, nat_lt, if◌then◌else◌}
use Rattle.odb_model.specs.Script.{without_cr}
use Rattle.odb_play.specs.declared.player.TheConstants.{FRONT}

-- a front of the line, long enough to tell what the line says
abbrev pub line_front : List ℕ → List ℕ
line_front bytes = take (FRONT + 1) bytes

-- what is read of a line that an LF ended
abbrev pub read_of_ended : List ℕ → List ℕ
read_of_ended front = if nat_lt FRONT (length front) then take FRONT front else without_cr front

-- what is read of a last line that no LF ended
abbrev pub read_of_last : List ℕ → List ℕ
read_of_last front = take FRONT front
