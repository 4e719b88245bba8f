use Rattle.std.proofs.Common.{◌≡◌, ◌-◌}
use Rattle.odb_transdb.specs.Runs.{IsRun}
use Rattle.odb_transdb.proofs.Walking.{IsWalked}
use Rattle.odb_transdb.proofs.run.add_run.Given as goal

abbrev pub invariant-loop-at : goal.invariant-loop-at
invariant-loop-at g l = record {
  walked : IsWalked l.log l.from l.initial.run.entries.items (g.S.Outside.world l.initial.store) (g.S.Outside.world l.store) l.window l.at l.number l.run.entries.items;
  run : IsRun l.initial.run.most l.run.left l.run.entries.items;
  most : l.run.most ≡ l.initial.run.most;
}

abbrev pub decreases-loop-at : goal.decreases-loop-at
decreases-loop-at g l = l.end - l.at
