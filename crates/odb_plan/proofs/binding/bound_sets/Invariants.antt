use Rattle.std.proofs.Common.{take}
use Rattle.std.specs.List.{AllZip}
use Rattle.odb_plan.specs.Bound.{IsSetOf}
use Rattle.odb_plan.proofs.binding.bound_sets.Given as goal

-- the assignments so far are bound
abbrev pub invariant-loop-set : goal.invariant-loop-set
invariant-loop-set l = AllZip (IsSetOf l.table) (take l.set-index l.sets) l.bound.items
