use Rattle.odb_txn.proofs.Told.{all_told}
use Rattle.odb_txn.proofs.laws.tells_by_statement.Goals as goal

pub returns : goal.returns
returns c = λ st s written format at e. all_told s written format at st e
