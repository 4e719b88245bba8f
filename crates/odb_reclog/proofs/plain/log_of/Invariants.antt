use Rattle.std.proofs.Common.{◌-◌}
use Rattle.odb_reclog.proofs.Collecting.{Collected}
use Rattle.odb_reclog.proofs.plain.log_of.Given as goal

abbrev pub invariant-loop-next : goal.invariant-loop-next
invariant-loop-next l = Collected l.start l.end l.first l.bytes l.payloads.items l.place l.number

abbrev pub decreases-loop-next : goal.decreases-loop-next
decreases-loop-next l = l.end - l.place
