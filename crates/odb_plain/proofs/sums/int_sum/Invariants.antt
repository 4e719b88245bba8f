use Rattle.std.proofs.Common.{◌≡◌, ◌+◌, ◌*◌, drop, map, pos, ◌+ℤ◌, neg_ℤ, ◌≤ℤ◌, ◌<ℤ◌}
use Rattle.odb_model.specs.Sums.{int_sum, number_of}
use Rattle.odb_plain.proofs.sums.int_sum.Given as goal

-- the sum so far, with that of the values that are left, is the whole one; and its bounds
abbrev pub invariant-loop-value : goal.invariant-loop-value
invariant-loop-value l = record {
  whole : l.sum +ℤ int_sum (map number_of (drop l.value-index l.values)) ≡ int_sum (map number_of l.values);
  least : neg_ℤ (pos (l.value-index * 9223372036854775808)) ≤ℤ l.sum;
  most : l.sum ≤ℤ pos (l.value-index * 9223372036854775808);
}
