use Rattle.std.proofs.Common.{length}
use Rattle.odb_catalog.proofs.place.+place_outside.Given as goal

abbrev pub decreases-place_outside : goal.decreases-place_outside
decreases-place_outside l = length l.columns.now
