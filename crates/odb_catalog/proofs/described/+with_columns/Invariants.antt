use Rattle.std.proofs.Common.{length}
use Rattle.odb_catalog.proofs.described.+with_columns.Given as goal

abbrev pub decreases-with_columns : goal.decreases-with_columns
decreases-with_columns l = length l.values.now
