use Rattle.odb_check.proofs.Listings.{at_found, at_none}
use Rattle.odb_check.proofs.listing.Listing.next_table.Goals as goal

pub returns-in-Some-clause-told : goal.returns-in-Some-clause-told
returns-in-Some-clause-told g c =
    at_found (g.R.RowSource.state c.args.rows.now) (g.R.RowSource.state c.further_table.new.rows) c.args.self.now c.next_of.new.self c.in_ok-after.after c.in_ok-found.field-0 c.in-Some.found c.next_of.result
    c.further_table.ensures.state c.in_ok-after.ensures c.in_ok-found.ensures.found c.in-Some.is c.next_of.ensures.told

pub returns-in-None-clause-told : goal.returns-in-None-clause-told
returns-in-None-clause-told g c =
    at_none (g.R.RowSource.state c.args.rows.now) (g.R.RowSource.state c.further_table.new.rows) c.args.self.now c.next_fixed.new.self c.in_ok-after.after c.in_ok-found.field-0 c.next_fixed.result
    c.further_table.ensures.state c.in_ok-after.ensures c.in_ok-found.ensures.found c.in-None.is c.next_fixed.ensures.told
