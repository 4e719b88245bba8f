use Rattle.odb_bank.proofs.Reading.{record_is, complete_greatest, greatest_complete, row_at, row_not_by}
use Rattle.odb_bank.proofs.Opening.{opens_to}
use Rattle.odb_bank.proofs.laws.reads_history.Goals as goal

pub returns-clause-record : goal.returns-clause-record
returns-clause-record c = record_is

pub returns-clause-greatest : goal.returns-clause-greatest
returns-clause-greatest c = complete_greatest

pub returns-clause-back : goal.returns-clause-back
returns-clause-back c = greatest_complete

pub returns-clause-row : goal.returns-clause-row
returns-clause-row c = row_at

pub returns-clause-never : goal.returns-clause-never
returns-clause-never c = row_not_by

pub returns-clause-opens : goal.returns-clause-opens
returns-clause-opens c = opens_to
