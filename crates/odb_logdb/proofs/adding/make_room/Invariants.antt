use Rattle.std.proofs.Common.{◌-◌}
use Rattle.odb_extent.specs.Opened.{content_end}
use Rattle.odb_logdb.specs.Opened.{MOST}
use Rattle.odb_logdb.proofs.Added.{IsMakingRoom}
use Rattle.odb_logdb.proofs.adding.make_room.Given as goal

abbrev pub invariant-loop-extents : goal.invariant-loop-extents
invariant-loop-extents g l = IsMakingRoom l.initial.extents l.initial.log (g.S.Outside.world l.initial.store) l.extents l.log (g.S.Outside.world l.store)

abbrev pub decreases-loop-extents : goal.decreases-loop-extents
decreases-loop-extents g l = content_end MOST - l.log.end
