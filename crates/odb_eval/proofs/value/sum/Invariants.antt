use Rattle.std.proofs.Common.{◌≡◌, ◌+◌, ◌*◌, take, fold, pos, ◌+ℤ◌, neg_ℤ, ◌≤ℤ◌, ◌<ℤ◌}
use Rattle.odb_model.specs.Sums.{number_of}
use Rattle.odb_eval.specs.Bound.{source_value, bound_addend}
use Rattle.odb_eval.proofs.value.sum.Given as goal

-- the sum so far, and its bounds
abbrev pub invariant-loop-term : goal.invariant-loop-term
invariant-loop-term l = record {
  so_far : l.sum ≡ fold (λ sum term. sum +ℤ bound_addend l.key l.row term) (number_of (source_value l.key l.row l.expression.first)) (take l.term-index l.term-items);
  least : neg_ℤ (pos ((l.term-index + 1) * 9223372036854775808)) ≤ℤ l.sum;
  most : l.sum <ℤ pos ((l.term-index + 1) * 9223372036854775808);
}
