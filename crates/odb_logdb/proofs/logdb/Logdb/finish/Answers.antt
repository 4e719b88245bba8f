use Rattle.std.proofs.Common.{◌≡◌, [], Ok, Err, sym, ◌∙◌, ap, subst, arith}
use Rattle.odb_device.specs.World.{World, file_of}
use Rattle.odb_device.specs.Images.{ReadsImage}
use Rattle.odb_extent.specs.Opened.{content_end}
use Rattle.odb_extent.specs.Standing.{limit_of, fields_of}
use Rattle.odb_reclog.specs.Standing.{Log, begun}
use Rattle.odb_logdb.specs.declared.fields.LogFields.{LogFields}
use Rattle.odb_logdb.specs.declared.error.LogdbError.TheVariants.{Fault}
use Rattle.odb_logdb.specs.declared.state.ListState.TheVariants.{Known, Dirty}
use Rattle.odb_logdb.specs.Fields.{LIVE, fields_in, log_fields}
use Rattle.odb_logdb.specs.Standing.{LogState, Stands}
use Rattle.odb_logdb.specs.Finishing.{IsDirtyIn, IsLiveIn}
use Rattle.odb_logdb.specs.Appending.{IsReady}
use Rattle.odb_logdb.specs.contracts.logdb.Logdb.{the_view}
use Rattle.odb_logdb.proofs.Held.{ok_of}
use Rattle.odb_logdb.proofs.Opened.{IsLawful, lawful_some}
use Rattle.odb_logdb.proofs.Stood.{log_with, known_stands}
use Rattle.odb_logdb.proofs.Dirty.{dirty_holds}
use Rattle.odb_logdb.proofs.Finished.{dirty_of, none_opens, ready_dirty, ready_live, live_held}
use Rattle.odb_logdb.proofs.logdb.Logdb.finish.Given.{Over}
use Rattle.odb_logdb.proofs.logdb.Logdb.finish.Goals as goal
use Rattle.odb_logdb.proofs.logdb.Logdb.finish.Goals.{After-new-live}

module _ (g : Over) (c : After-new-live g) where
  -- the log as its fields are
  abbrev l : LogState
  l = the_view c.self.inside

  abbrev w : World
  w = g.S.Outside.world c.args.store.now

  dirty : l.state ≡ Dirty
  dirty = ap (λ (x : LogState). x.state) c.self.view_is ∙ c.requires.dirty

  stands : Stands l (file_of 1 w)
  stands = subst (λ (x : LogState). Stands x (file_of 1 w)) (sym c.self.view_is) c.requires.stands

  reads : ReadsImage (file_of 1 w)
  reads = g.met.S.Store.reads_image c.args.store.now 1

  is_dirty : IsDirtyIn l.extents l.fields w
  is_dirty = dirty_of l w c.self.invariant dirty stands

pub make_live-requires-clause-dirty : goal.make_live-requires-clause-dirty
make_live-requires-clause-dirty g c = is_dirty g (goal.at.make_live-requires-clause-dirty g c).After-new-live

pub begin-self-inside-requires-clause-first : goal.begin-self-inside-requires-clause-first
begin-self-inside-requires-clause-first g c =
    let l = the_view c.self.inside in
    let law : IsLawful (limit_of l.extents) l.fields = lawful_some (limit_of l.extents) (fields_in (fields_of l.extents)) l.fields c.self.invariant.fields in
    omega (arith, ap (λ (x : LogFields). x.first) c.new-live.ensures, law.first)

pub returns-clause-run : goal.returns-clause-run
returns-clause-run g c =
    let at = goal.at.returns-clause-run g c in
    let a = at.After-new-live in
    none_opens c.self.inside.fields.first (w g a) (g.S.Outside.world c.make_live.new.store) (reads g a) (dirty_holds (l g a).extents (l g a).fields (w g a) (is_dirty g a)) c.make_live.ensures.run

pub returns-clause-stands : goal.returns-clause-stands
returns-clause-stands g c =
    let now = g.S.Outside.world c.make_live.new.store in
    let e = c.make_live.new.extents in
    let first = c.self.inside.fields.first in
    let end = c.content_end-end.result in
    let is_end : end ≡ content_end (limit_of e) = c.content_end-end.ensures ∙ ap content_end c.limit.ensures.value in
    let live : IsLiveIn e c.new-live.result now = ok_of (IsLiveIn e c.new-live.result now) c.make_live.result (sym c.is_err.ensures.value ∙ c.if-is_err.false) c.make_live.ensures.live in
    let here : IsLiveIn e (log_fields LIVE first) now = subst (λ (x : LogFields). IsLiveIn e x now) c.new-live.ensures live in
    let log : c.begin-self-inside.result ≡ begun 1 1024 end first = c.begin-self-inside.ensures.log ∙ ap (λ (x : LogFields). begun 1 1024 end x.first) c.new-live.ensures in
    let reads = g.met.S.Store.reads_image c.make_live.new.store 1 in
    let done : Stands (log_with e (log_fields LIVE first) (begun 1 1024 end first) Known) (file_of 1 now) = known_stands e (log_fields LIVE first) (begun 1 1024 end first) [] now (live_held e first now here reads end is_end) reads in
    subst (λ (x : Log). Stands (log_with e c.new-live.result x Known) (file_of 1 now)) (sym log)
    (subst (λ (x : LogFields). Stands (log_with e x (begun 1 1024 end first) Known) (file_of 1 now)) (sym c.new-live.ensures) done)

pub returns-clause-ready : goal.returns-clause-ready
returns-clause-ready g c =
    let at = goal.at.returns-clause-ready g c in
    let a = at.After-new-live in
    let now = g.S.Outside.world c.make_live.new.store in
    let e = c.make_live.new.extents in
    let first = c.self.inside.fields.first in
    let end = c.content_end-end.result in
    let o = file_of 1 (w g a) in
    let p = file_of 1 now in
    let log : c.begin-self-inside.result ≡ begun 1 1024 end first = c.begin-self-inside.ensures.log ∙ ap (λ (x : LogFields). begun 1 1024 end x.first) c.new-live.ensures in
    subst (λ (x : LogState). IsReady {T = Unit {0}} x (log_with e c.new-live.result c.begin-self-inside.result Known) (Ok tt) o p) c.self.view_is
    (subst (λ (x : Log). IsReady {T = Unit {0}} (l g a) (log_with e c.new-live.result x Known) (Ok tt) o p) (sym log)
    (subst (λ (x : LogFields). IsReady {T = Unit {0}} (l g a) (log_with e x (begun 1 1024 end first) Known) (Ok tt) o p) (sym c.new-live.ensures)
    (ready_live (l g a) (w g a) now c.self.invariant (dirty g a) (reads g a) (stands g a) e end p)))

pub returns-then-is_err-clause-ready : goal.returns-then-is_err-clause-ready
returns-then-is_err-clause-ready g c =
    let a = (goal.at.returns-then-is_err-clause-ready g c).After-new-live in
    let now = g.S.Outside.world c.make_live.new.store in
    subst (λ (x : LogState). IsReady {T = Unit {0}} x (log_with c.make_live.new.extents c.self.inside.fields c.self.inside.log c.self.inside.state) (Err Fault) (file_of 1 (w g a)) (file_of 1 now)) c.self.view_is
    (ready_dirty (l g a) (w g a) now c.self.invariant (dirty g a) (reads g a) (stands g a) c.make_live.new.extents (file_of 1 now))
