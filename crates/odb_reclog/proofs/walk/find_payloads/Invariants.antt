use Rattle.std.proofs.Common.{◌-◌}
use Rattle.odb_reclog.proofs.Gathering.{Gathered}
use Rattle.odb_reclog.proofs.walk.find_payloads.Given as goal

abbrev pub invariant-loop-payloads : goal.invariant-loop-payloads
invariant-loop-payloads g l =
    Gathered l.region.file l.region.start l.region.end l.region.first (g.S.Outside.world l.initial.store) (g.S.Outside.world l.store) l.window l.payloads.items l.place l.number

abbrev pub decreases-loop-payloads : goal.decreases-loop-payloads
decreases-loop-payloads g l = l.region.end - l.place
