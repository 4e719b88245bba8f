use Rattle.std.proofs.Common.{rules}
use Rattle.odb_model.specs.Lexeme.{sign_of}
use Rattle.odb_model.proofs.sign.Sign.of.Goals as goal

pub returns : goal.returns
unfolding sign_of
returns c = search rules
