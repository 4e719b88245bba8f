use Rattle.odb_rowsource.proofs.Stands.{stand-inside, stand-up}
use Rattle.odb_rowsource.proofs.standing.stands_without_gap.Goals as goal

pub returns-clause-inside : goal.returns-clause-inside
returns-clause-inside c = stand-inside

pub returns-clause-rises : goal.returns-clause-rises
returns-clause-rises c = stand-up
