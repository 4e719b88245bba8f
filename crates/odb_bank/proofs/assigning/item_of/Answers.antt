use Rattle.odb_bank.proofs.Assigned.{fits_narrow}
use Rattle.odb_bank.proofs.assigning.item_of.Goals as goal

pub returns-clause-fits : goal.returns-clause-fits
returns-clause-fits c = fits_narrow c.args.addition.now c.requires c.in-Ok.ensures.lawful c.in_ok-row.ensures.lawful c.fit_their_types.ensures.table c.fit_their_types.ensures.stamp
