use Rattle.odb_model.proofs.Agree.{meaning-same, reads-same}
use Rattle.odb_model.proofs.laws.agrees_on_reads.Goals as goal

pub returns-clause-meaning : goal.returns-clause-meaning
returns-clause-meaning c = meaning-same

pub returns-clause-reads : goal.returns-clause-reads
returns-clause-reads c = reads-same
