use Rattle.std.proofs.Common.{◌∙◌, ap}
use Rattle.std.specs.FinMap as map
use Rattle.odb_plain.proofs.Maps.{one_removed}
use Rattle.odb_plain.proofs.rows.Rows.remove.Goals as goal

pub returns : goal.returns
returns c = one_removed c.self.inside.rows.entries c.remove.new.self.entries c.args.at.now c.remove.ensures.updates.0 ∙ ap (λ m. map.remove m c.args.at.now) c.self.view_is
