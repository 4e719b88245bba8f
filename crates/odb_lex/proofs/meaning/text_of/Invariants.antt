use Rattle.std.proofs.Common.{length, string_bytes}
use Rattle.odb_lex.specs.Token.{value_in}
use Rattle.odb_lex.proofs.Spellings.{IsReading}
use Rattle.odb_lex.proofs.meaning.text_of.Given as goal

abbrev pub invariant-loop-len : goal.invariant-loop-len
invariant-loop-len l = IsReading (value_in l.token) (string_bytes l.value) l.rest

abbrev pub decreases-loop-len : goal.decreases-loop-len
decreases-loop-len l = length l.rest
