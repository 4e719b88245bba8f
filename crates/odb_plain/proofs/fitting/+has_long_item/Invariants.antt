use Rattle.std.proofs.Common.{length}
use Rattle.odb_plain.proofs.fitting.+has_long_item.Given as goal

abbrev pub decreases-has_long_item : goal.decreases-has_long_item
decreases-has_long_item l = length l.columns.now
