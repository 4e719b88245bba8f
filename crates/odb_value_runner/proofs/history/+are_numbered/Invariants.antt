use Rattle.std.proofs.Common.{length}
use Rattle.odb_value_runner.proofs.history.+are_numbered.Given as goal

abbrev pub decreases-are_numbered : goal.decreases-are_numbered
decreases-are_numbered l = length l.entries.now
