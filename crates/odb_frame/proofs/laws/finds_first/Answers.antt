use Rattle.odb_frame.proofs.Firsts.{first_is}
use Rattle.odb_frame.proofs.laws.finds_first.Goals as goal

pub returns : goal.returns
returns c = first_is
