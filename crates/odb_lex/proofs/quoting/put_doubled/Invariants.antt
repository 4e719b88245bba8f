use Rattle.std.proofs.Common.{◌≡◌, ◌++◌, length, string_bytes}
use denote.Shadow.{shadow}
use denote.Text.{Utf8}
use Rattle.odb_lex.specs.Quoted.{doubled}
use Rattle.odb_lex.proofs.quoting.put_doubled.Given as goal

-- what is left is a text, and doubled behind what is written it gives the whole
abbrev pub invariant-loop-piece : goal.invariant-loop-piece
invariant-loop-piece l = shadow (Utf8 l.rest) × (string_bytes l.out ++ doubled l.rest ≡ string_bytes l.initial.out ++ doubled l.initial.rest)

abbrev pub decreases-loop-piece : goal.decreases-loop-piece
decreases-loop-piece l = length l.rest
