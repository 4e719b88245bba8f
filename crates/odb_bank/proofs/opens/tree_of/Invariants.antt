use Rattle.std.proofs.Common.{◌++◌, vec_len}
use Rattle.std.specs.List.Sorted.{IsPermutation}
use Rattle.odb_bank.proofs.opens.tree_of.Given as goal

abbrev pub invariant-loop-it : goal.invariant-loop-it
invariant-loop-it l = IsPermutation l.initial.slots.items (l.tree ++ l.slots.items)

abbrev pub decreases-loop-it : goal.decreases-loop-it
decreases-loop-it l = vec_len l.slots
