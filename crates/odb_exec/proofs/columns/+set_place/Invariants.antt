use Rattle.std.proofs.Common.{length}
use Rattle.odb_exec.proofs.columns.+set_place.Given as goal

abbrev pub decreases-set_place : goal.decreases-set_place
decreases-set_place l = length l.assigned.now
