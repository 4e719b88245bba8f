use Rattle.std.proofs.Common.{length}
use Rattle.odb_catalog.proofs.described.+is_some_named.Given as goal

abbrev pub decreases-is_some_named : goal.decreases-is_some_named
decreases-is_some_named l = length l.columns.now
