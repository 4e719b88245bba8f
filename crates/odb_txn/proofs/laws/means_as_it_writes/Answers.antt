use Rattle.odb_txn.proofs.Counted.{means_now, laid_now, can_be_kept}
use Rattle.odb_txn.proofs.laws.means_as_it_writes.Goals as goal

pub returns-clause-means : goal.returns-clause-means
returns-clause-means c = means_now

pub returns-clause-laid : goal.returns-clause-laid
returns-clause-laid c = laid_now

pub returns-clause-keeps : goal.returns-clause-keeps
returns-clause-keeps c = can_be_kept
