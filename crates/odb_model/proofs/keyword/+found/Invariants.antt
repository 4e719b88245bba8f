use Rattle.std.proofs.Common.{length}
use Rattle.odb_model.proofs.keyword.+found.Given as goal

abbrev pub decreases-found : goal.decreases-found
decreases-found l = length l.keywords.now
