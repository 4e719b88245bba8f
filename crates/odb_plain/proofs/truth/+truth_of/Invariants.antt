use Rattle.std.proofs.Common.{◌≡◌, ◌≤◌}
use Rattle.odb_model.specs.declared.predicate.Predicate.{size-Predicate}
use Rattle.odb_model.specs.Truth.{truth_of}
use Rattle.odb_plain.specs.Above.{whole_truth}
use Rattle.odb_plain.proofs.truth.+truth_of.Given as goal

-- what stands above the part makes the whole's truth of the part's, and the part is no deeper
abbrev pub invariant-loop-part : goal.invariant-loop-part
invariant-loop-part l = record {
  whole : whole_truth l.above (truth_of l.table.columns l.values l.part) ≡ truth_of l.table.columns l.values l.fn.predicate;
  no_deeper : size-Predicate l.part ≤ size-Predicate l.fn.predicate;
}
