use Rattle.std.proofs.Common.{◌-◌}
use Rattle.odb_reclog.proofs.Opens.{settle_run}
use Rattle.odb_reclog.proofs.opening.settle_payloads.Goals as goal

pub returns-clause-run : goal.returns-clause-run
returns-clause-run g c =
    settle_run c.args.region.start c.args.region.end c.args.region.first c.args.region.start (c.args.region.end - c.args.region.start) c.args.region.file
    (g.S.Outside.world c.args.store.now) (g.S.Outside.world c.sync.new.self) (g.S.Outside.world c.find_payloads.new.store)
    (g.met.S.Store.reads_image c.args.store.now c.args.region.file) c.sync.ensures.call c.in_ok-sync.ensures.kept c.find_payloads.ensures.run
