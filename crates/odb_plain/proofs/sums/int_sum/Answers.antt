use Rattle.std.proofs.Common.{◌≡◌, ◌+◌, ◌+ℤ◌, ℤ, drop, map, ap, sym, ◌∙◌, arith}
use Rattle.std.proofs.lemmas.Int.{ints}
use Rattle.odb_model.specs.Sums.{int_sum, number_of}
use Rattle.odb_plain.proofs.Summing.{sum-more}
use Rattle.odb_plain.proofs.sums.int_sum.Goals as goal

pub loop-value-preserved : goal.loop-value-preserved
loop-value-preserved c =
    let values = c.args.values.now in
    let i = c.loop-value.value-index in
    let v = c.value-item.result in
    let so : c.loop-value.sum +ℤ int_sum (map number_of (drop i values)) ≡ int_sum (map number_of values) =
    ap (λ (z : ℤ). z +ℤ int_sum (map number_of (drop i values))) (sym c.loop-value.sum-is) ∙ c.loop-value.invariant.whole in
    let step = sum-more number_of values i v c.loop-value.sum (int_sum (map number_of values)) c.loop-value-test.true c.value-item.is so in
    record {
      whole = omega (arith, ints, step, c.number_of.ensures, c.loop-value.sum-is);
      least = omega (arith, ints);
      most = omega (arith, ints);
    }
