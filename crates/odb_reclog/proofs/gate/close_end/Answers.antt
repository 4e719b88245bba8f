use Rattle.std.proofs.Common.{◌≡◌, ◌-◌}
use Rattle.std.specs.Prelude.{IfSome}
use Rattle.odb_device.specs.World.{file_of}
use Rattle.odb_device.specs.Moments.{Runs}
use Rattle.odb_device.proofs.Time.{run_end}
use Rattle.odb_reclog.specs.Moments.{KeepsLists}
use Rattle.odb_reclog.proofs.Gates.{EndsOpen, ends_open, closing_run, closes_open}
use Rattle.odb_reclog.proofs.OpenEnds.{TearsEndOf, closing_gate}
use Rattle.odb_reclog.proofs.gate.close_end.Given.{Over}
use Rattle.odb_reclog.proofs.gate.close_end.Goals as goal
use Rattle.odb_reclog.proofs.gate.close_end.Goals.{After-write_synced}

-- the gate was found open
found : (g : Over) (c : After-write_synced g)
    → IfSome (file_of c.args.region.file (g.S.Outside.world c.args.store.now))
    (λ f. EndsOpen c.args.region.start c.args.region.end c.args.region.first c.args.place f.bytes)
found g c =
    ends_open c.args.region.start c.args.region.end c.args.region.first c.args.place c.in_ok-is_open.field-0
    (file_of c.args.region.file (g.S.Outside.world c.args.store.now)) c.requires.within c.if-place-region.false c.if-not-branch.false c.requires.long
    c.requires.ends
    c.in_ok-is_open.ensures.open

-- whatever the write answered
run : (g : Over) (c : After-write_synced g)
    → Runs c.args.region.file
    (KeepsLists c.args.region.start c.args.region.end c.args.region.first c.args.region.start (c.args.region.end - c.args.region.start)
    (file_of c.args.region.file (g.S.Outside.world c.args.store.now))) (g.S.Outside.world c.args.store.now)
    (g.S.Outside.world c.write_synced.new.store)
run g c =
    closing_run c.args.region.file c.args.region.start c.args.region.end c.args.region.first c.args.place (g.S.Outside.world c.args.store.now)
    (g.S.Outside.world c.is_open.new.store) (g.S.Outside.world c.write_synced.new.store) c.is_open.ensures.run
    c.write_synced.ensures.run c.requires.kept (found g c)

gate : (g : Over) (c : After-write_synced g)
    → TearsEndOf c.args.region.file c.args.region.start c.args.region.end c.args.region.first (g.S.Outside.world c.args.store.now)
    (g.S.Outside.world c.write_synced.new.store)
gate g c =
    closing_gate c.args.region.file c.args.region.start c.args.region.end c.args.region.first c.args.place (g.S.Outside.world c.args.store.now)
    (g.S.Outside.world c.is_open.new.store) (g.S.Outside.world c.write_synced.new.store) c.is_open.ensures.run
    c.write_synced.ensures.run c.requires.kept (found g c)

pub returns-in_err-write_synced-clause-gate : goal.returns-in_err-write_synced-clause-gate
returns-in_err-write_synced-clause-gate g c = gate g (goal.at.returns-in_err-write_synced-clause-gate g c).After-write_synced

pub returns-clause-gate : goal.returns-clause-gate
returns-clause-gate g c = gate g (goal.at.returns-clause-gate g c).After-write_synced

pub returns-in_err-write_synced-clause-run : goal.returns-in_err-write_synced-clause-run
returns-in_err-write_synced-clause-run g c = run g (goal.at.returns-in_err-write_synced-clause-run g c).After-write_synced

pub returns-clause-run : goal.returns-clause-run
returns-clause-run g c = run g (goal.at.returns-clause-run g c).After-write_synced

pub returns-clause-closes : goal.returns-clause-closes
returns-clause-closes g c =
    let w = g.S.Outside.world c.args.store.now in
    closes_open c.args.place c.args.region.end c.args.region.start c.args.region.first (file_of c.args.region.file w)
    (file_of c.args.region.file (g.S.Outside.world c.is_open.new.store)) (file_of c.args.region.file (g.S.Outside.world c.write_synced.new.store))
    (run_end c.args.region.file (λ f. f ≡ file_of c.args.region.file w) w (g.S.Outside.world c.is_open.new.store) c.is_open.ensures.run)
    c.in_ok-write_synced.ensures.done (found g (goal.at.returns-clause-closes g c).After-write_synced)
