use Rattle.std.proofs.Common.{◌≡◌, ◌≤◌, max}
use Rattle.odb_extent.specs.Standing.{limit_of}
use Rattle.odb_bank.specs.Growing.{IsGrowing}
use Rattle.odb_bank.proofs.growing.grow_to.Given as goal

abbrev pub invariant-loop-reached : goal.invariant-loop-reached
invariant-loop-reached g l = record {
  growing : IsGrowing l.initial.extents (g.S.Outside.world l.initial.store) l.extents (g.S.Outside.world l.store);
  limit : limit_of l.extents ≡ l.reached;
  high : l.reached ≤ max (limit_of l.initial.extents) l.limit;
}
