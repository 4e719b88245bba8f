use Rattle.std.proofs.Common.{◌+◌, ◌-◌, ◌<◌, ◌++◌, ◌∙◌, List, length, ap, arith}
use Rattle.std.specs.List.{range_with_len}
use Rattle.odb_values.specs.declared.value.Value.{Value}
use Rattle.odb_exec.proofs.Outside.{outside, row-one}
use Rattle.odb_exec.proofs.placing.row_of.Goals as goal

pub loop-place-preserved : goal.loop-place-preserved
loop-place-preserved c =
    let t = c.args.table.now in
    let values = c.args.values.now in
    let p = c.loop-place.place in
    let n = length t.columns in
    let within : p < n = omega (arith, ap length c.columns-count.ensures.columns) in
    ap (λ (l : List Value). l ++ outside t values (range_with_len (p + 1) (n - (p + 1)))) c.in_ok-put_outside.ensures
    ∙ row-one t values c.loop-place.row.items p n within ∙ c.loop-place.invariant
