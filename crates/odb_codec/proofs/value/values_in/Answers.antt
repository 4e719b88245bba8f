use Rattle.std.proofs.lemmas.Result.{err_from_is_err_and}
use Rattle.odb_codec.specs.Reading.{values_in}
use Rattle.odb_codec.proofs.Values.{values_go_on, values_end, values_done, value_shrinks, some_left, none_left}
use Rattle.odb_codec.proofs.value.values_in.Goals as goal

pub returns-in_err-value : goal.returns-in_err-value
returns-in_err-value c =
    let p = err_from_is_err_and c.from_residual-in_err-value.result c.from_residual-in_err-value.ensures.1 in
    rw (p.1, p.2) (values_end c.in_err-value.field-0.0 c.loop-rest.values.items c.loop-rest.rest.now (values_in c.args.bytes.now) (some_left c.loop-rest.rest.now c.loop-rest-test.ensures) c.in_err-value.ensures c.loop-rest.invariant)

pub loop-rest-smaller : goal.loop-rest-smaller
loop-rest-smaller c = value_shrinks c.loop-rest.rest.now _ c.in_ok-value.ensures

pub loop-rest-preserved : goal.loop-rest-preserved
loop-rest-preserved c =
    rw c.in_ok-push.ensures.items (values_go_on c.loop-rest.values.items c.loop-rest.rest.now c.in_ok-value.value c.in_ok-value.after.now (values_in c.args.bytes.now) (some_left c.loop-rest.rest.now c.loop-rest-test.ensures) c.in_ok-value.ensures c.loop-rest.invariant)

pub returns : goal.returns
returns c = rw c.from_vec.ensures (values_done c.loop-rest.values.items c.loop-rest.rest.now (values_in c.args.bytes.now) (none_left c.loop-rest.rest.now c.loop-rest-test.ensures) c.loop-rest.invariant)
