use Rattle.std.proofs.Common.{◌∙◌, ap}
use Rattle.std.specs.FinMap as map
use Rattle.odb_plain.proofs.Maps.{one_inserted}
use Rattle.odb_plain.proofs.rows.Rows.insert.Goals as goal

pub returns-clause-ok : goal.returns-clause-ok
returns-clause-ok c = one_inserted c.self.inside.rows.entries c.insert.new.self.entries c.args.at c.args.row c.in_ok-_replaced.ensures.updates.0 ∙ ap (λ m. map.insert m c.args.at c.args.row) c.self.view_is
