use Rattle.std.proofs.Common.{length}
use Rattle.odb_plain.proofs.binding.+items_refusal.Given as goal

abbrev pub decreases-items_refusal : goal.decreases-items_refusal
decreases-items_refusal l = length l.columns.now
