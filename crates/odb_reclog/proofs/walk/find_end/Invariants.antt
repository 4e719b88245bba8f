use Rattle.std.proofs.Common.{◌-◌}
use Rattle.odb_reclog.proofs.Walking.{Walked}
use Rattle.odb_reclog.proofs.walk.find_end.Given as goal

abbrev pub invariant-loop-next : goal.invariant-loop-next
invariant-loop-next g l =
    Walked l.region.file l.region.start l.region.end l.region.first (g.S.Outside.world l.initial.store) (g.S.Outside.world l.store) l.window l.place l.number

abbrev pub decreases-loop-next : goal.decreases-loop-next
decreases-loop-next g l = l.region.end - l.place
