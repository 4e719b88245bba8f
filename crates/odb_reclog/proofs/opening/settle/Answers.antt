use Rattle.std.proofs.Common.{◌-◌}
use Rattle.odb_device.specs.World.{file_of}
use Rattle.odb_device.specs.Moments.{Runs}
use Rattle.odb_reclog.specs.Moments.{KeepsLists}
use Rattle.odb_reclog.proofs.Opens.{settle_run}
use Rattle.odb_reclog.proofs.opening.settle.Given.{Over}
use Rattle.odb_reclog.proofs.opening.settle.Goals as goal
use Rattle.odb_reclog.proofs.opening.settle.Goals.{After-find_end}

-- whatever the walk answered
run : (g : Over) (c : After-find_end g)
    → Runs c.args.region.file
    (KeepsLists c.args.region.start c.args.region.end c.args.region.first c.args.region.start (c.args.region.end - c.args.region.start)
    (file_of c.args.region.file (g.S.Outside.world c.args.store.now))) (g.S.Outside.world c.args.store.now)
    (g.S.Outside.world c.find_end.new.store)
run g c =
    settle_run c.args.region.start c.args.region.end c.args.region.first c.args.region.start (c.args.region.end - c.args.region.start) c.args.region.file
    (g.S.Outside.world c.args.store.now) (g.S.Outside.world c.sync.new.self) (g.S.Outside.world c.find_end.new.store)
    (g.met.S.Store.reads_image c.args.store.now c.args.region.file) c.sync.ensures.call c.in_ok-sync.ensures.kept c.find_end.ensures.run

pub returns-in_err-found-clause-run : goal.returns-in_err-found-clause-run
returns-in_err-found-clause-run g c = run g (goal.at.returns-in_err-found-clause-run g c).After-find_end

pub returns-clause-run : goal.returns-clause-run
returns-clause-run g c = run g (goal.at.returns-clause-run g c).After-find_end
