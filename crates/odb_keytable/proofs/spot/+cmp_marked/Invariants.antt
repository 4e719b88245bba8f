use Rattle.std.proofs.Common.{length}
use Rattle.odb_keytable.proofs.spot.+cmp_marked.Given as goal

abbrev pub decreases-cmp_marked : goal.decreases-cmp_marked
decreases-cmp_marked l = length l.a.now
