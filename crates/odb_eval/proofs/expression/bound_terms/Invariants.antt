use Rattle.std.proofs.Common.{◌≡◌, map, take}
use Rattle.odb_eval.specs.Bound.{bound_term}
use Rattle.odb_eval.proofs.expression.bound_terms.Given as goal

-- the terms so far are bound
abbrev pub invariant-loop-term : goal.invariant-loop-term
invariant-loop-term l = l.bound.items ≡ map (bound_term l.table) (take l.term-index l.terms)
