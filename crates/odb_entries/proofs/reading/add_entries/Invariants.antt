use Rattle.std.proofs.Common.{◌-◌}
use Rattle.odb_entries.proofs.Walking.{IsWalked}
use Rattle.odb_entries.proofs.reading.add_entries.Given as goal

abbrev pub invariant-loop-at : goal.invariant-loop-at
invariant-loop-at g l = IsWalked l.log l.from l.initial.entries.items (g.S.Outside.world l.initial.store) (g.S.Outside.world l.store) l.window l.at l.number l.entries.items

abbrev pub decreases-loop-at : goal.decreases-loop-at
decreases-loop-at g l = l.end - l.at
