use Rattle.odb_rowsource.proofs.Walks.{walk-begins, walk-goes_on}
use Rattle.odb_rowsource.proofs.laws.walks_a_range.Goals as goal

pub returns-clause-begins : goal.returns-clause-begins
returns-clause-begins c = walk-begins

pub returns-clause-goes_on : goal.returns-clause-goes_on
returns-clause-goes_on c = walk-goes_on
