use Rattle.std.proofs.Common.{length}
use Rattle.odb_catalog.proofs.described.+place_with.Given as goal

abbrev pub decreases-place_with : goal.decreases-place_with
decreases-place_with l = length l.columns.now
