use Rattle.std.proofs.Common.{◌≡◌, ◌+◌, length, drop}
use Rattle.odb_lex.specs.Quoted.{text_end}
use Rattle.odb_lex.proofs.quoted.text_end.Given as goal

-- the text ends where it ends by what is left of it
abbrev pub invariant-loop-len : goal.invariant-loop-len
invariant-loop-len l = record {
  left : l.place + length l.rest ≡ length l.text;
  same : text_end l.first l.most l.place l.rest ≡ text_end l.first 800 (l.first + 1) (drop (l.first + 1) l.text);
}

abbrev pub decreases-loop-len : goal.decreases-loop-len
decreases-loop-len l = length l.rest
