use Rattle.std.proofs.Common.{length}
use Rattle.odb_plain.proofs.range.+put_prefix.Given as goal

abbrev pub decreases-put_prefix : goal.decreases-put_prefix
decreases-put_prefix l = length l.places.now
