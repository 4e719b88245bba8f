use Rattle.odb_rowsource.proofs.Intended.{get-laid_over, laid_over-put, AreAscending-put}
use Rattle.odb_rowsource.proofs.Kept.{length-put-more}
use Rattle.odb_rowsource.proofs.laws.lays_rows_over.Goals as goal

pub returns-clause-row : goal.returns-clause-row
returns-clause-row c = get-laid_over

pub returns-clause-put : goal.returns-clause-put
returns-clause-put c = laid_over-put

pub returns-clause-ascending : goal.returns-clause-ascending
returns-clause-ascending c = AreAscending-put

pub returns-clause-count : goal.returns-clause-count
returns-clause-count c = length-put-more
