use Rattle.std.proofs.Common.{◌≤◌}
use Rattle.odb_model.specs.declared.predicate.Predicate.{size-Predicate}
use Rattle.odb_model.proofs.predicate.Predicate.+drop.Given as goal

-- what is left is no deeper than what is dropped
abbrev pub invariant-loop-self : goal.invariant-loop-self
invariant-loop-self l = size-Predicate l.self ≤ size-Predicate l.initial.self
