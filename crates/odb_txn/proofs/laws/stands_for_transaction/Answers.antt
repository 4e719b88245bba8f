use Rattle.odb_txn.proofs.Stands.{stands_begin, stands_grow, fits, stands_last, stands_net}
use Rattle.odb_txn.proofs.laws.stands_for_transaction.Goals as goal

pub returns-clause-begins : goal.returns-clause-begins
returns-clause-begins c = stands_begin

pub returns-clause-grows : goal.returns-clause-grows
returns-clause-grows c = stands_grow

pub returns-clause-fits : goal.returns-clause-fits
returns-clause-fits c = fits

pub returns-clause-lasts : goal.returns-clause-lasts
returns-clause-lasts c = stands_last

pub returns-clause-net : goal.returns-clause-net
returns-clause-net c = stands_net
