use Rattle.std.proofs.Common.{◌≡◌, sym, ◌∙◌, ap, subst}
use Rattle.odb_logdb.specs.Standing.{LogState, IsLogdb, IsRegionOf, IsInState}
use Rattle.odb_logdb.proofs.Fronts.{front_run, front_stands, front_entries, walk_run, walk_stands}
use Rattle.odb_logdb.proofs.logdb.Logdb.entries_before.Given.{Over}
use Rattle.odb_logdb.proofs.logdb.Logdb.entries_before.Goals as goal
use Rattle.odb_logdb.proofs.logdb.Logdb.entries_before.Goals.{After-open_log}

module _ (g : Over) (c : After-open_log g) where
  abbrev l : LogState
  l = c.args.self.now

  is : IsLogdb l
  is = subst IsLogdb c.self.view_is c.self.invariant

  region : IsRegionOf l
  region = subst (IsInState l) c.requires.unknown is.in_state

  is_start : c.start.result ≡ l.log.start
  is_start = c.start.ensures ∙ sym region.start

  is_end : c.place.result ≡ l.log.place
  is_end = c.place.ensures.value ∙ ap (λ (x : LogState). x.log.place) c.self.view_is

  is_first : c.self.inside.fields.first ≡ l.log.first
  is_first = ap (λ (x : LogState). x.fields.first) c.self.view_is ∙ sym is.first

pub returns-in_err-log-clause-run : goal.returns-in_err-log-clause-run
returns-in_err-log-clause-run g c =
    let a = (goal.at.returns-in_err-log-clause-run g c).After-open_log in
    front_run (l g a) (g.S.Outside.world c.args.store.now) (g.S.Outside.world c.open_log.new.store) (is g a) c.requires.unknown (g.met.S.Store.reads_image c.args.store.now 1) (g.met.S.Store.reads_image c.open_log.new.store 1) c.requires.stands
    c.start.result c.place.result c.self.inside.fields.first (is_start g a) (is_end g a) (is_first g a) c.open_log.ensures.run c.open_log.ensures.gate

pub returns-in_err-log-clause-stands : goal.returns-in_err-log-clause-stands
returns-in_err-log-clause-stands g c =
    let a = (goal.at.returns-in_err-log-clause-stands g c).After-open_log in
    front_stands (l g a) (g.S.Outside.world c.args.store.now) (g.S.Outside.world c.open_log.new.store) (is g a) c.requires.unknown (g.met.S.Store.reads_image c.args.store.now 1) (g.met.S.Store.reads_image c.open_log.new.store 1) c.requires.stands
    c.start.result c.place.result c.self.inside.fields.first (is_start g a) (is_end g a) (is_first g a) c.open_log.ensures.run c.open_log.ensures.gate

pub returns-clause-run : goal.returns-clause-run
returns-clause-run g c =
    let a = (goal.at.returns-clause-run g c).After-open_log in
    walk_run (l g a) (g.S.Outside.world c.args.store.now) (g.S.Outside.world c.open_log.new.store) (is g a) c.requires.unknown (g.met.S.Store.reads_image c.args.store.now 1) (g.met.S.Store.reads_image c.open_log.new.store 1) c.requires.stands
    c.start.result c.place.result c.self.inside.fields.first (is_start g a) (is_end g a) (is_first g a) c.open_log.ensures.run c.open_log.ensures.gate (g.S.Outside.world c.entries_in.new.store) c.entries_in.ensures.run

pub returns-clause-stands : goal.returns-clause-stands
returns-clause-stands g c =
    let a = (goal.at.returns-clause-stands g c).After-open_log in
    walk_stands (l g a) (g.S.Outside.world c.args.store.now) (g.S.Outside.world c.open_log.new.store) (is g a) c.requires.unknown (g.met.S.Store.reads_image c.args.store.now 1) (g.met.S.Store.reads_image c.open_log.new.store 1) c.requires.stands
    c.start.result c.place.result c.self.inside.fields.first (is_start g a) (is_end g a) (is_first g a) c.open_log.ensures.run c.open_log.ensures.gate (g.S.Outside.world c.entries_in.new.store) c.entries_in.ensures.run

pub returns-clause-entries : goal.returns-clause-entries
returns-clause-entries g c =
    let a = (goal.at.returns-clause-entries g c).After-open_log in
    let log = c.in_ok-log.log in
    let o = c.in_ok-log.ensures.opened in
    front_entries (l g a) (g.S.Outside.world c.args.store.now) (g.S.Outside.world c.open_log.new.store) (is g a) c.requires.unknown (g.met.S.Store.reads_image c.args.store.now 1) (g.met.S.Store.reads_image c.open_log.new.store 1) c.requires.stands
    c.start.result c.place.result c.self.inside.fields.first (is_start g a) (is_end g a) (is_first g a) c.open_log.ensures.run c.open_log.ensures.gate log c.args.from c.entries_in.result o.start o.end o.first c.requires.from c.entries_in.ensures.told
