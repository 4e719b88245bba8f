use Rattle.odb_extent.specs.Opened.{fields_in}
use Rattle.odb_extent.proofs.limits.fields_in.Goals as goal

pub returns : goal.returns
unfolding fields_in
returns c = c.copy_from_slice.ensures.after
