use Rattle.std.proofs.Common.{◌≤◌}
use Rattle.odb_eval.specs.declared.filter.Filter.{size-Filter}
use Rattle.odb_eval.proofs.filter.Filter.+drop.Given as goal

-- what is left is no deeper than what is dropped
abbrev pub invariant-loop-self : goal.invariant-loop-self
invariant-loop-self l = size-Filter l.self ≤ size-Filter l.initial.self
