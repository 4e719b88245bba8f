use Rattle.std.proofs.Common.{◌≡◌, refl, ap, ◌∙◌, arith}
use Rattle.odb_device.proofs.Time.{on_err, rose_behind}
use Rattle.odb_device.specs.Calls.{FileCountRose}
use Rattle.odb_reclog.specs.Standing.{Log}
use Rattle.odb_logdb.proofs.Added.{keeps_none}
use Rattle.odb_logdb.proofs.Behind.{keeps_then}
use Rattle.odb_logdb.proofs.adding.make_room.Goals as goal

pub loop-extents-init : goal.loop-extents-init
loop-extents-init g c = record {
  keeps = λ f entries held. keeps_none c.args.extents.now f c.args.log.now entries (g.S.Outside.world c.args.store.now) held;
  same = refl;
}

pub grow-requires-clause-held : goal.grow-requires-clause-held
grow-requires-clause-held g c =
    let a = c.requires.held in
    (a.0, a.1, (c.loop-extents.invariant.keeps a.0 a.1 a.2).held)

pub grow-requires-clause-less : goal.grow-requires-clause-less
grow-requires-clause-less g c =
    let a = c.requires.held in
    let end = (c.loop-extents.invariant.keeps a.0 a.1 a.2).held.live.end in
    let place : c.loop-extents.log.place ≡ c.args.log.now.place = ap (λ (l : Log). l.place) c.loop-extents.invariant.same in
    omega (arith, end, place, c.room.ensures, c.loop-extents-test.true, c.requires.fits)

pub loop-extents-preserved : goal.loop-extents-preserved
loop-extents-preserved g c = record {
  keeps = λ f entries held.
      let k = c.loop-extents.invariant.keeps f entries held in
      keeps_then c.loop-extents.extents c.grow.new.extents f c.loop-extents.log c.grow.new.log entries (g.S.Outside.world c.args.store.now) (g.S.Outside.world c.loop-extents.store) (g.S.Outside.world c.grow.new.store) k
      (c.grow.ensures.keeps f entries k.held);
  same = c.grow.ensures.log ∙ ap (λ (l : Log). record l { end = c.grow.new.log.end }) c.loop-extents.invariant.same;
}

pub returns-in_err-grow-clause-keeps : goal.returns-in_err-grow-clause-keeps
returns-in_err-grow-clause-keeps g c = λ f entries held.
    let k = c.loop-extents.invariant.keeps f entries held in
    keeps_then c.loop-extents.extents c.grow.new.extents f c.loop-extents.log c.grow.new.log entries (g.S.Outside.world c.args.store.now) (g.S.Outside.world c.loop-extents.store) (g.S.Outside.world c.grow.new.store) k
    (c.grow.ensures.keeps f entries k.held)

pub returns-in_err-grow-clause-cause : goal.returns-in_err-grow-clause-cause
returns-in_err-grow-clause-cause g c =
    let a = c.requires.held in
    let w = g.S.Outside.world c.args.store.now in
    let mid = g.S.Outside.world c.loop-extents.store in
    let now = g.S.Outside.world c.grow.new.store in
    on_err (FileCountRose 1 w now) c.from_residual.result (rose_behind 1 1 w mid now (c.loop-extents.invariant.keeps a.0 a.1 a.2).run.only c.in_err-grow.ensures.cause)

pub returns-clause-room : goal.returns-clause-room
returns-clause-room g c =
    let place : c.loop-extents.log.place ≡ c.args.log.now.place = ap (λ (l : Log). l.place) c.loop-extents.invariant.same in
    omega (arith, place, c.room.ensures, c.loop-extents-test.false, c.requires.some)
