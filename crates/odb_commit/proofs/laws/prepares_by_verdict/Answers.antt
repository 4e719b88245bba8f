use Rattle.odb_commit.proofs.Judging.{prepared_same, sealing_same}
use Rattle.odb_commit.proofs.laws.prepares_by_verdict.Goals as goal

pub returns-clause-transaction : goal.returns-clause-transaction
returns-clause-transaction c = λ since kept b txn t format stands is above. prepared_same since kept b stands txn t format is above

pub returns-clause-writes : goal.returns-clause-writes
returns-clause-writes c = λ since kept b s writes stands settled. sealing_same since kept b stands settled s writes
