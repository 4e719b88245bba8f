use Rattle.std.proofs.Common.{◌∙◌, ap, sym, is_some}
use Rattle.std.specs.FinMap as map
use Rattle.odb_plain.proofs.Maps.{get-at_key}
use Rattle.odb_plain.proofs.rows.Rows.has.Goals as goal

pub returns : goal.returns
returns c = c.contains_key.ensures ∙ ap is_some (sym (get-at_key c.self.inside.rows.entries c.args.at.now) ∙ ap (λ m. map.get m c.args.at.now) c.self.view_is)
