use Rattle.std.proofs.Common.{◌≤◌, length}
use Rattle.odb_row_values.proofs.tokens.tokens_line.Given as goal

-- the next token is asked for inside the text
abbrev pub invariant-loop : goal.invariant-loop
invariant-loop l = l.at ≤ length l.text
