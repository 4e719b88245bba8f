use Rattle.std.proofs.Common.{reverse}
use Rattle.odb_plan.proofs.Parts.{range_is}
use Rattle.odb_plan.proofs.range.range_by.Goals as goal

pub returns : goal.returns
returns c =
    range_is c.args.table.now (reverse c.args.backward.now) c.number.result c.in_ok-prefix.prefix c.next_place-next.result c.in_ok-low.low c.in_ok-high.high c.number.ensures c.in_ok-prefix.ensures c.next_place-next.ensures c.in_ok-low.ensures c.in_ok-high.ensures
