use Rattle.std.proofs.Common.{◌++◌, vec_len}
use Rattle.std.specs.List.Sorted.{IsPermutation}
use Rattle.odb_bank.proofs.begin.put_all.Given as goal

abbrev pub invariant-loop-placed : goal.invariant-loop-placed
invariant-loop-placed l = IsPermutation (l.initial.slots ++ l.initial.kept.items) (l.slots ++ l.kept.items)

abbrev pub decreases-loop-placed : goal.decreases-loop-placed
decreases-loop-placed l = vec_len l.kept
