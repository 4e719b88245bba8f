use Rattle.std.proofs.Common.{arith}
use Rattle.std.proofs.lemmas.Int.{ints, to_z-of_z}
use Rattle.std.proofs.lemmas.List.Sums.{fold_more}
use Rattle.odb_eval.proofs.value.sum.Goals as goal

pub loop-term-preserved : goal.loop-term-preserved
loop-term-preserved c = record {
  so_far = grind (arith, ints, to_z-of_z, fold_more);
  least = omega (arith, ints);
  most = omega (arith, ints);
}
