use Rattle.std.proofs.Common.{sym, subst, arith}
use Rattle.odb_device.specs.World.{file_of}
use Rattle.odb_extent.specs.Standing.{Stands as ExtentStands}
use Rattle.odb_bank.proofs.GrowingTurn.{growing_none, growing_more, growing_broken}
use Rattle.odb_bank.proofs.growing.grow_to.Goals as goal

pub loop-reached-init : goal.loop-reached-init
loop-reached-init g c = record {
  growing = growing_none c.args.extents.now (g.S.Outside.world c.args.store.now) c.requires.stands;
  limit = sym c.limit-reached.ensures.value;
  high = omega (arith, c.limit-reached.ensures.value);
}

pub grow-requires : goal.grow-requires
grow-requires g c =
    let so_far = c.loop-reached.invariant.growing in
    subst (λ (n : _). ExtentStands c.loop-reached.extents (file_of n (g.S.Outside.world c.loop-reached.store))) (sym so_far.file) so_far.stands

pub loop-reached-preserved : goal.loop-reached-preserved
loop-reached-preserved g c = record {
  growing = growing_more c.args.extents.now c.loop-reached.extents c.grow.new.self (g.S.Outside.world c.args.store.now) (g.S.Outside.world c.loop-reached.store) (g.S.Outside.world c.grow.new.store)
      c.loop-reached.invariant.growing c.grow.ensures.run c.grow.ensures.stands c.in_ok-grow.ensures.grown c.in_ok-grow.ensures.holds;
  limit = omega (arith, c.in_ok-grow.ensures.grown.limit_is, c.loop-reached.invariant.limit);
  high = omega arith;
}

pub returns-in_err-grow-clause-grown : goal.returns-in_err-grow-clause-grown
returns-in_err-grow-clause-grown g c =
    growing_broken c.args.extents.now c.loop-reached.extents c.grow.new.self (g.S.Outside.world c.args.store.now) (g.S.Outside.world c.loop-reached.store) (g.S.Outside.world c.grow.new.store)
    c.loop-reached.invariant.growing c.grow.ensures.run c.grow.ensures.stands c.in_err-grow.ensures.tried

pub returns-clause-exact : goal.returns-clause-exact
returns-clause-exact g c = omega (arith, c.loop-reached.invariant.limit, c.loop-reached.invariant.high, c.loop-reached.invariant.growing.limits)

pub returns-clause-bound : goal.returns-clause-bound
returns-clause-bound g c = omega (arith, c.loop-reached.invariant.limit, c.loop-reached.invariant.high)
