use Rattle.std.proofs.Common.{◌≡◌, ◌≤◌, fold, reverse}
use Rattle.odb_model.specs.declared.predicate.Predicate.{size-Predicate}
use Rattle.odb_eval.specs.Bound.{bound_filter}
use Rattle.odb_eval.specs.Joint.{under}
use Rattle.odb_eval.proofs.filter.+bound_filter.Given as goal

-- the joints above the bound part make the whole of it, and the part is no deeper
abbrev pub invariant-loop-part : goal.invariant-loop-part
invariant-loop-part l = record {
  whole : fold under (bound_filter l.table l.part) (reverse l.joints.items) ≡ bound_filter l.table l.fn.predicate;
  no_deeper : size-Predicate l.part ≤ size-Predicate l.fn.predicate;
}
