use Rattle.odb_device.proofs.Time.{reads_then}
use Rattle.odb_reclog.proofs.Walking.{walk_goes_on}
use Rattle.odb_reclog.proofs.walk.find_end.Goals as goal

pub loop-next-preserved : goal.loop-next-preserved
loop-next-preserved g c =
    let next = c.in_ok-next.ensures in
    walk_goes_on c.args.region.file c.args.region.start c.args.region.end c.args.region.first (g.S.Outside.world c.args.store.now) (g.S.Outside.world c.loop-next.store)
    (g.S.Outside.world c.next_place.new.store)
    c.loop-next.window c.next_place.new.window c.loop-next.place c.loop-next.number c.in-Some.next c.in_ok-next.field-0
    c.loop-next.invariant c.requires.long c.next_place.ensures.run next.shows next.next
    next.forward c.in-Some.is

pub returns-in_err-next-clause-run : goal.returns-in_err-next-clause-run
returns-in_err-next-clause-run g c = reads_then c.args.region.file (g.S.Outside.world c.args.store.now) (g.S.Outside.world c.loop-next.store) (g.S.Outside.world c.next_place.new.store) c.loop-next.invariant.run c.next_place.ensures.run

pub returns-clause-run : goal.returns-clause-run
returns-clause-run g c = reads_then c.args.region.file (g.S.Outside.world c.args.store.now) (g.S.Outside.world c.loop-next.store) (g.S.Outside.world c.next_place.new.store) c.loop-next.invariant.run c.next_place.ensures.run
