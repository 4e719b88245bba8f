use Rattle.std.proofs.Common.{◌≡◌, ◌≤◌}
use Rattle.odb_eval.specs.declared.filter.Filter.{size-Filter}
use Rattle.odb_eval.specs.Bound.{filter_truth}
use Rattle.odb_eval.specs.Above.{whole_truth}
use Rattle.odb_eval.proofs.judge.+truth_on.Given as goal

-- what stands above the part makes the whole's truth of the part's, and the part is no deeper
abbrev pub invariant-loop-part : goal.invariant-loop-part
invariant-loop-part l = record {
  whole : whole_truth l.above (filter_truth l.key l.row l.part) ≡ filter_truth l.key l.row l.fn.filter;
  no_deeper : size-Filter l.part ≤ size-Filter l.fn.filter;
}
