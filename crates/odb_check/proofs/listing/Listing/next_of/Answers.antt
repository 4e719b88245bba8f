use Rattle.std.proofs.Common.{◌∙◌, sym}
use Rattle.odb_check.proofs.Listings.{of_found, of_fixed}
use Rattle.odb_check.proofs.listing.Listing.next_of.Goals as goal

pub returns-then-is_next-clause-told : goal.returns-then-is_next-clause-told
returns-then-is_next-clause-told g c = of_found (g.R.RowSource.state c.args.rows.now) c.args.self.now c.open_found.new.self c.args.found c.open_found.result (sym c.is_next.ensures ∙ c.if-is_next.true) c.open_found.ensures.told

pub returns-else-is_next-clause-told : goal.returns-else-is_next-clause-told
returns-else-is_next-clause-told g c = of_fixed (g.R.RowSource.state c.args.rows.now) c.args.self.now c.next_fixed.new.self c.args.found c.next_fixed.result (sym c.is_next.ensures ∙ c.if-is_next.false) c.next_fixed.ensures.told
