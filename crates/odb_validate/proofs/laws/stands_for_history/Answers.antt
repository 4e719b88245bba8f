use Rattle.odb_validate.proofs.Windows.{IsWindow-begins, IsWindow-push, IsWindow-last, IsWindow-judges}
use Rattle.odb_validate.proofs.laws.stands_for_history.Goals as goal

pub returns-clause-begins : goal.returns-clause-begins
returns-clause-begins c = IsWindow-begins

pub returns-clause-grows : goal.returns-clause-grows
returns-clause-grows c = IsWindow-push

pub returns-clause-last : goal.returns-clause-last
returns-clause-last c = IsWindow-last

pub returns-clause-judges : goal.returns-clause-judges
returns-clause-judges c = IsWindow-judges
