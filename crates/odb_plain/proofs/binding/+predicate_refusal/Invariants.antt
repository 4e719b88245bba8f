use Rattle.std.proofs.Common.{◌≡◌, ◌≤◌}
use Rattle.std.specs.Option.{option_or}
use Rattle.odb_model.specs.declared.predicate.Predicate.{size-Predicate}
use Rattle.odb_model.specs.Binding.{predicate_refusal}
use Rattle.odb_plain.proofs.binding.+predicate_refusal.Given as goal

-- the part, and what stands to the right of it, make the whole; the part is no deeper
abbrev pub invariant-loop-part : goal.invariant-loop-part
invariant-loop-part l = record {
  whole : option_or (predicate_refusal l.table.columns l.part) l.later ≡ predicate_refusal l.table.columns l.fn.predicate;
  no_deeper : size-Predicate l.part ≤ size-Predicate l.fn.predicate;
}
