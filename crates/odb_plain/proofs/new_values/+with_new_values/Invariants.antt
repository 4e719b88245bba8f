use Rattle.std.proofs.Common.{length}
use Rattle.odb_plain.proofs.new_values.+with_new_values.Given as goal

abbrev pub decreases-with_new_values : goal.decreases-with_new_values
decreases-with_new_values l = length l.columns.now
