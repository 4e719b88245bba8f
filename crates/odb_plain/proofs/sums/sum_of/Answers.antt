use Rattle.std.proofs.Common.{◌≡◌, ◌+◌, ◌+ℤ◌, ℤ, drop, map, ap, sym, ◌∙◌, arith}
use Rattle.std.proofs.lemmas.Int.{ints}
use Rattle.odb_model.specs.Sums.{int_sum, addend, sum_of}
use Rattle.odb_plain.proofs.Summing.{sum-more}
use Rattle.odb_plain.proofs.sums.sum_of.Goals as goal

pub loop-term-preserved : goal.loop-term-preserved
loop-term-preserved c =
    let columns = c.args.table.now.columns in
    let f = addend columns c.args.values.now in
    let terms = c.as_slice-term-items.result.now in
    let i = c.loop-term.term-index in
    let v = c.term-item.result in
    let total = sum_of columns c.args.values.now c.args.expression.now in
    let so : c.loop-term.sum +ℤ int_sum (map f (drop i terms)) ≡ total =
    ap (λ (z : ℤ). z +ℤ int_sum (map f (drop i terms))) (sym c.loop-term.sum-is) ∙ c.loop-term.invariant.whole in
    let step = sum-more f terms i v c.loop-term.sum total c.loop-term-test.true c.term-item.is so in
    record {
      whole = omega (arith, ints, step, c.addend-sum.ensures.value, c.loop-term.sum-is);
      least = omega (arith, ints);
      most = omega (arith, ints);
    }
