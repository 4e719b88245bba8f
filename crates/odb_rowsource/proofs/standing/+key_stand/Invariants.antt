use Rattle.std.proofs.Common.{length}
use Rattle.odb_rowsource.proofs.standing.+key_stand.Given as goal

abbrev pub decreases-key_stand : goal.decreases-key_stand
decreases-key_stand l = length l.prefix.now
