use Rattle.std.proofs.Common.{◌∙◌, ap, sym}
use Rattle.std.specs.FinMap as map
use Rattle.odb_plain.proofs.Maps.{entries-from_ordered}
use Rattle.odb_plain.proofs.rows.Rows.iter.Goals as goal

pub returns : goal.returns
returns c = c.iter.ensures.rest ∙ sym (entries-from_ordered c.self.inside.rows.entries c.iter.ensures.ordered) ∙ ap map.entries c.self.view_is
