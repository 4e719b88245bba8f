use Rattle.std.proofs.Common.{◌-◌}
use Rattle.odb_reclog.proofs.Clearing.{IsClearing}
use Rattle.odb_reclog.proofs.writing.clear_range.Given as goal

abbrev pub invariant-loop-at : goal.invariant-loop-at
invariant-loop-at g l = IsClearing l.file l.from l.to l.all (g.S.Outside.world l.initial.store) (g.S.Outside.world l.store) l.touched l.at

abbrev pub decreases-loop-at : goal.decreases-loop-at
decreases-loop-at g l = l.to - l.at
