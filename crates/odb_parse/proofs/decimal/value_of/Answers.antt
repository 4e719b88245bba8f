use Rattle.std.proofs.Common.{arith}
use Rattle.std.proofs.lemmas.Str.Parse.{digit_at}
use Rattle.odb_parse.proofs.Digits.{value_step}
use Rattle.odb_parse.proofs.decimal.value_of.Goals as goal

pub overflow_mul-value : goal.overflow_mul-value
overflow_mul-value c =
    let step = value_step c.args.bytes.now c.loop-byte.byte-index c.loop-byte.value c.loop-byte.invariant.digits c.requires c.loop-byte-test.true c.loop-byte.invariant.value c.if-not-is_ascii_digit.ensures.bound in
    omega arith

pub overflow_sub-byte : goal.overflow_sub-byte
overflow_sub-byte c =
    let step = value_step c.args.bytes.now c.loop-byte.byte-index c.loop-byte.value c.loop-byte.invariant.digits c.requires c.loop-byte-test.true c.loop-byte.invariant.value c.if-not-is_ascii_digit.ensures.bound in
    step.digit

pub overflow_add-value : goal.overflow_add-value
overflow_add-value c =
    let step = value_step c.args.bytes.now c.loop-byte.byte-index c.loop-byte.value c.loop-byte.invariant.digits c.requires c.loop-byte-test.true c.loop-byte.invariant.value c.if-not-is_ascii_digit.ensures.bound in
    omega arith

pub loop-byte-preserved : goal.loop-byte-preserved
loop-byte-preserved c =
    let step = value_step c.args.bytes.now c.loop-byte.byte-index c.loop-byte.value c.loop-byte.invariant.digits c.requires c.loop-byte-test.true c.loop-byte.invariant.value c.if-not-is_ascii_digit.ensures.bound in
    record { digits = step.digits; value = omega arith }

pub returns-then-not-is_ascii_digit-clause-none : goal.returns-then-not-is_ascii_digit-clause-none
returns-then-not-is_ascii_digit-clause-none c digits =
    let between = digit_at c.args.bytes.now c.loop-byte.byte-index digits c.loop-byte-test.true in
    omega (arith, between, c.if-not-is_ascii_digit.ensures.cases)
