use Rattle.std.proofs.Common.{arith}
use Rattle.odb_lex.proofs.Stretches.{capped_step}
use Rattle.odb_lex.proofs.meaning.capped_value.Goals as goal

pub overflow_sub-digit : goal.overflow_sub-digit
overflow_sub-digit c =
    let step = capped_step c.args.digits.now c.loop-digit.digit-index c.loop-digit.value c.requires c.loop-digit-test.true c.loop-digit.invariant in
    step.digit

pub loop-digit-preserved : goal.loop-digit-preserved
loop-digit-preserved c =
    let step = capped_step c.args.digits.now c.loop-digit.digit-index c.loop-digit.value c.requires c.loop-digit-test.true c.loop-digit.invariant in
    omega arith
