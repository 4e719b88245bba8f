use Rattle.std.proofs.Common.{◌+◌, length}
use Rattle.odb_bank.proofs.tree.Tree.+join.Given as goal

abbrev pub decreases-join : goal.decreases-join
decreases-join l = length l.self + length l.other
