use Rattle.std.proofs.Common.{length}
use Rattle.odb_command.proofs.choice.+banks_differ.Given as goal

abbrev pub decreases-banks_differ : goal.decreases-banks_differ
decreases-banks_differ l = length l.choices.now
