use Rattle.odb_command.proofs.Only.{one_command}
use Rattle.odb_command.proofs.laws.asks_for_one.Goals as goal

pub returns : goal.returns
returns c = one_command
