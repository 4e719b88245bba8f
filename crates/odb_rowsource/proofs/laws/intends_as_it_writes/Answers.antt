use Rattle.odb_rowsource.proofs.Kept.{intentions-begin, intentions-grow, intentions-state, intentions-ascend, intentions-count}
use Rattle.odb_rowsource.proofs.laws.intends_as_it_writes.Goals as goal

pub returns-clause-begins : goal.returns-clause-begins
returns-clause-begins c = intentions-begin

pub returns-clause-grows : goal.returns-clause-grows
returns-clause-grows c = intentions-grow

pub returns-clause-state : goal.returns-clause-state
returns-clause-state c = intentions-state

pub returns-clause-ascending : goal.returns-clause-ascending
returns-clause-ascending c = intentions-ascend

pub returns-clause-count : goal.returns-clause-count
returns-clause-count c = intentions-count
