use Rattle.std.proofs.Common.{◌≡◌, ◌≤◌, ◌*◌, take}
use Rattle.odb_values.specs.Key.{width_of_all}
use Rattle.odb_values.proofs.key.width_of_all.Given as goal

abbrev pub invariant-loop-value : goal.invariant-loop-value
invariant-loop-value l = (l.width ≡ width_of_all (take l.value-index l.values)) × (l.width ≤ 803 * l.value-index)
