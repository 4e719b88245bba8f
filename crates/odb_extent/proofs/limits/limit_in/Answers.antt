use Rattle.std.proofs.Common.{◌∙◌, ap}
use Rattle.std.specs.Int.{w32, from_be_bytes}
use Rattle.odb_extent.specs.Opened.{limit_in}
use Rattle.odb_extent.proofs.limits.limit_in.Goals as goal

pub returns : goal.returns
unfolding limit_in
returns c = c.from_be_bytes.ensures ∙ ap (from_be_bytes w32) c.copy_from_slice.ensures.after
