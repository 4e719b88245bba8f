use Rattle.odb_slots.proofs.Listing.{listed_viewed, viewed_listed}
use Rattle.odb_slots.proofs.laws.lists_records.Goals as goal

pub returns-clause-each : goal.returns-clause-each
returns-clause-each c = listed_viewed

pub returns-clause-all : goal.returns-clause-all
returns-clause-all c = viewed_listed
