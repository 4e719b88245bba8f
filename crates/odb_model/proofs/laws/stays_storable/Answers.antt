use Rattle.odb_model.proofs.Stored.{nothing_stored, any_stored, net_stored}
use Rattle.odb_model.proofs.laws.stays_storable.Goals as goal

pub returns-clause-begins : goal.returns-clause-begins
returns-clause-begins c = nothing_stored

pub returns-clause-grows : goal.returns-clause-grows
returns-clause-grows c = λ st s write_set keyed f. any_stored s write_set keyed f st

pub returns-clause-net : goal.returns-clause-net
returns-clause-net c = net_stored
