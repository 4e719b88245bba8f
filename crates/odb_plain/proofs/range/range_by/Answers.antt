use Rattle.std.proofs.Common.{◌∙◌, ap}
use Rattle.odb_model.specs.Where.{prefix_of}
use Rattle.odb_plain.proofs.Edges.{range-is}
use Rattle.odb_plain.proofs.range.range_by.Goals as goal

pub returns : goal.returns
returns c =
    let t = c.args.table.now in
    let tests = c.args.tests.now in
    range-is t tests c.number.result c.in_ok-prefix.prefix c.next_place-next.result c.in_ok-low.low c.in_ok-high.high
    c.number.ensures (c.in_ok-prefix.ensures ∙ ap (prefix_of tests) c.key.ensures.key) c.next_place-next.ensures c.in_ok-low.ensures c.in_ok-high.ensures
