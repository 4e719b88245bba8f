use Rattle.std.proofs.Common.{◌≡◌, ◌≤◌, fold, reverse}
use Rattle.odb_model.specs.declared.predicate.Predicate.{size-Predicate}
use Rattle.odb_model.specs.Joint.{under}
use Rattle.odb_model.proofs.predicate.PredicateDuplicate.+copy.Given as goal

-- the joints above the part make the whole of it, and it is no deeper
abbrev pub invariant-loop-part : goal.invariant-loop-part
invariant-loop-part l = record {
  whole : fold under l.part (reverse l.joints.items) ≡ l.fn.self;
  no_deeper : size-Predicate l.part ≤ size-Predicate l.fn.self;
}
