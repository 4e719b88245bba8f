use Rattle.std.proofs.Common.{length}
use Rattle.odb_plain.proofs.fitting.+lacks_item.Given as goal

abbrev pub decreases-lacks_item : goal.decreases-lacks_item
decreases-lacks_item l = length l.columns.now
