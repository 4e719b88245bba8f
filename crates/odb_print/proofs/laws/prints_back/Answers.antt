use Rattle.odb_print.proofs.TokensCanonical.{canonical_is_text}
use Rattle.odb_print.proofs.laws.prints_back.Goals as goal

pub returns : goal.returns
returns c = canonical_is_text
