use Rattle.std.proofs.Common.{◌-◌}
use Rattle.odb_device.specs.World.{World}
use Rattle.odb_reclog.specs.Regions.{KeepsListFrom, TearsOpenEnd, region}
use Rattle.odb_reclog.specs.declared.region.Region.{Region}
use Rattle.odb_reclog.proofs.Opens.{open_run, opened_later}
use Rattle.odb_reclog.proofs.OpenEnds.{still_gate, open_gate}
use Rattle.odb_reclog.proofs.log.RecLog.open_with_payloads.Given.{Over}
use Rattle.odb_reclog.proofs.log.RecLog.open_with_payloads.Goals as goal
use Rattle.odb_reclog.proofs.log.RecLog.open_with_payloads.Goals.{After-close_list}

module _ (g : Over) (c : After-close_list g) where
  abbrev r : Region
  r = region c.args.file c.args.start c.args.end c.args.first

  abbrev old : World
  old = g.S.Outside.world c.args.store.now

  abbrev new : World
  new = g.S.Outside.world c.close_list.new.store

  -- whatever the closing answered
  run : KeepsListFrom c.args.start r old new
  run =
      open_run c.args.start c.args.end c.args.first c.args.start (c.args.end - c.args.start) c.args.file old
      (g.S.Outside.world c.settle_payloads.new.store) new (g.met.S.Store.reads_image c.args.store.now c.args.file)
      c.settle_payloads.ensures.run c.in_ok-found.ensures.kept c.close_list.ensures.run

  gate : TearsOpenEnd r old new
  gate =
      open_gate c.args.file c.args.start c.args.end c.args.first old (g.S.Outside.world c.settle_payloads.new.store) new
      (g.met.S.Store.reads_image c.args.store.now c.args.file)
      c.settle_payloads.ensures.still c.in_ok-found.ensures.kept c.close_list.ensures.gate

pub returns-in_err-found-clause-gate : goal.returns-in_err-found-clause-gate
returns-in_err-found-clause-gate g c =
    still_gate c.args.file c.args.start c.args.end c.args.first (g.S.Outside.world c.args.store.now) (g.S.Outside.world c.settle_payloads.new.store)
    c.settle_payloads.ensures.still

pub returns-in_err-log-clause-gate : goal.returns-in_err-log-clause-gate
returns-in_err-log-clause-gate g c = gate g (goal.at.returns-in_err-log-clause-gate g c).After-close_list

pub returns-clause-gate : goal.returns-clause-gate
returns-clause-gate g c = gate g (goal.at.returns-clause-gate g c).After-close_list

pub returns-in_err-log-clause-run : goal.returns-in_err-log-clause-run
returns-in_err-log-clause-run g c = run g (goal.at.returns-in_err-log-clause-run g c).After-close_list

pub returns-clause-run : goal.returns-clause-run
returns-clause-run g c = run g (goal.at.returns-clause-run g c).After-close_list

pub returns-clause-opened : goal.returns-clause-opened
returns-clause-opened g c =
    let a = (goal.at.returns-clause-opened g c).After-close_list in
    opened_later (r g a) c.in_ok-log.log (old g a) (g.S.Outside.world c.settle_payloads.new.store) (new g a)
    c.in_ok-found.ensures.kept c.in_ok-log.ensures.opened
