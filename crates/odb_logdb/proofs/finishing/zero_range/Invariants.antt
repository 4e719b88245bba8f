use Rattle.std.proofs.Common.{◌-◌}
use Rattle.odb_logdb.proofs.Zeroed.{IsZeroed}
use Rattle.odb_logdb.proofs.finishing.zero_range.Given as goal

abbrev pub invariant-loop-at : goal.invariant-loop-at
invariant-loop-at g l = IsZeroed (g.S.Outside.world l.initial.store) (g.S.Outside.world l.store) l.start l.end l.at

abbrev pub decreases-loop-at : goal.decreases-loop-at
decreases-loop-at g l = l.end - l.at
