use Rattle.std.proofs.Common.{◌+◌, ◌-◌, ◌≤◌}
use Rattle.odb_disk_runner.proofs.log.payloads.Given as goal

abbrev pub invariant-loop-at : goal.invariant-loop-at
invariant-loop-at l = 1024 ≤ l.at

abbrev pub decreases-loop-at : goal.decreases-loop-at
decreases-loop-at l = l.last + 1 - l.at
