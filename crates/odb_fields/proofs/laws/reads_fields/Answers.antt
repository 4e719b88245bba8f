use Rattle.odb_fields.proofs.Back.{back, size_is, found, only}
use Rattle.odb_fields.proofs.laws.reads_fields.Goals as goal

pub returns-clause-back : goal.returns-clause-back
returns-clause-back c = back

pub returns-clause-size : goal.returns-clause-size
returns-clause-size c = size_is

pub returns-clause-found : goal.returns-clause-found
returns-clause-found c = found

pub returns-clause-only : goal.returns-clause-only
returns-clause-only c = only
