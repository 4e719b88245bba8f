use Rattle.odb_pair.proofs.Opens.{opens}
use Rattle.odb_pair.proofs.pair.Pair.value.Goals as goal

pub returns-clause-holds : goal.returns-clause-holds
returns-clause-holds c = λ bytes h. opens c.args.self.now bytes h
