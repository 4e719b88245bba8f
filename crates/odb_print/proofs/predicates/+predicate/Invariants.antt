use Rattle.std.proofs.Common.{◌≡◌, ◌+◌, ◌*◌, ◌≤◌, ◌++◌, flat_map, reverse, string_bytes}
use Rattle.odb_model.specs.declared.predicate.Predicate.{size-Predicate}
use Rattle.odb_model.specs.Canonical.{predicate_text}
use Rattle.odb_print.proofs.predicates.+predicate.Given as goal

abbrev pub decreases-put_predicate : goal.decreases-put_predicate
decreases-put_predicate l = 3 * size-Predicate l.predicate.now

abbrev pub decreases-put_within : goal.decreases-put_within
decreases-put_within l = 3 * size-Predicate l.part.now + 1

abbrev pub decreases-put_left : goal.decreases-put_left
decreases-put_left l = 3 * size-Predicate l.right.now + 2

-- what is written, the part, and what stands behind it make the whole, and the part is no deeper
abbrev pub invariant-put_predicate-loop-part : goal.invariant-put_predicate-loop-part
invariant-put_predicate-loop-part l = record {
  whole : string_bytes l.out ++ predicate_text l.part ++ flat_map (λ text. string_bytes text) (reverse l.behind.items) ≡ string_bytes l.fn.out ++ predicate_text l.fn.predicate;
  no_deeper : size-Predicate l.part ≤ size-Predicate l.fn.predicate;
}
