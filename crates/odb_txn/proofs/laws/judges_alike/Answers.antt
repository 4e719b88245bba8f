use Rattle.std.proofs.Common.{[]}
use Rattle.odb_txn.proofs.Keeping.{AreOrdered-none, AreOrdered-keep_all}
use Rattle.odb_txn.proofs.Alike.{JudgeAlike-all, conflict_alike}
use Rattle.odb_txn.proofs.laws.judges_alike.Goals as goal

pub returns-clause-alike : goal.returns-clause-alike
returns-clause-alike c = JudgeAlike-all

pub returns-clause-once : goal.returns-clause-once
returns-clause-once c = λ reads. AreOrdered-keep_all reads [] AreOrdered-none

pub returns-clause-conflict : goal.returns-clause-conflict
returns-clause-conflict c = conflict_alike
