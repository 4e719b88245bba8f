use Rattle.odb_model.proofs.Intended.{intended_net}
use Rattle.odb_model.proofs.laws.intends_net.Goals as goal

pub returns : goal.returns
returns c = intended_net
