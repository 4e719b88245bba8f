use Rattle.std.proofs.Common.{◌≡◌, ◌+◌, ◌*◌, drop, map, pos, ◌+ℤ◌, neg_ℤ, ◌≤ℤ◌, ◌<ℤ◌}
use Rattle.odb_model.specs.Sums.{int_sum, addend, sum_of}
use Rattle.odb_plain.proofs.sums.sum_of.Given as goal

-- the sum so far, with that of the terms that are left, is the whole one; and its bounds
abbrev pub invariant-loop-term : goal.invariant-loop-term
invariant-loop-term l = record {
  whole : l.sum +ℤ int_sum (map (addend l.table.columns l.values) (drop l.term-index l.term-items)) ≡ sum_of l.table.columns l.values l.expression;
  least : neg_ℤ (pos ((l.term-index + 1) * 9223372036854775808)) ≤ℤ l.sum;
  most : l.sum <ℤ pos ((l.term-index + 1) * 9223372036854775808);
}
