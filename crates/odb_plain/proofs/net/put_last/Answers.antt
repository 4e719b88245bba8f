use Rattle.std.proofs.Common.{◌∙◌}
use Rattle.odb_plain.proofs.Maps.{one_inserted}
use Rattle.odb_plain.proofs.net.put_last.Goals as goal

pub returns : goal.returns
returns c = one_inserted c.args.last.now.entries c.insert.new.self.entries _ _ c.in_ok-_replaced.ensures.updates.0 ∙ cc (c.in_ok-at.ensures, c.in_ok-copy.ensures)
