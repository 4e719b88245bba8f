use Rattle.std.proofs.Common.{◌∙◌, ap, sym}
use Rattle.std.specs.FinMap as map
use Rattle.odb_plain.proofs.Maps.{get-at_key}
use Rattle.odb_plain.proofs.rows.Rows.get.Goals as goal

pub returns : goal.returns
returns c = c.get.ensures.value ∙ sym (get-at_key c.self.inside.rows.entries c.args.at.now) ∙ ap (λ m. map.get m c.args.at.now) c.self.view_is
