use Rattle.std.proofs.Common.{◌≡◌, Result, Ok, Err, sym, ◌∙◌, ap, subst, arith}
use Rattle.std.specs.Prelude.{is_some}
use Rattle.std.proofs.lemmas.Result.{err_from_is_err_and}
use Rattle.odb_device.specs.World.{World, file_of}
use Rattle.odb_device.specs.Images.{ReadsImage}
use Rattle.odb_device.specs.Moments.{Runs}
use Rattle.odb_extent.specs.Opened.{content_end}
use Rattle.odb_reclog.specs.Standing.{Log}
use Rattle.odb_reclog.specs.Regions.{region as region_at, IsOpened as IsLogOpened}
use Rattle.odb_logdb.specs.Opened.{records_start, entries_in}
use Rattle.odb_logdb.specs.declared.error.LogdbError.{LogdbError}
use Rattle.odb_logdb.specs.declared.error.LogdbError.TheVariants.{Fault}
use Rattle.odb_logdb.specs.declared.state.ListState.{ListState}
use Rattle.odb_logdb.specs.declared.state.ListState.TheVariants.{Known, Unknown}
use Rattle.odb_logdb.specs.Standing.{LogState, IsRegionOf, IsInState, Stands, held}
use Rattle.odb_logdb.specs.Adding.{IsHeld, IsDoubtful}
use Rattle.odb_logdb.specs.Appending.{IsReady}
use Rattle.odb_logdb.specs.contracts.logdb.Logdb.{the_view}
use Rattle.odb_logdb.proofs.Stood.{log_with, doubtful_of, unknown_stands, known_stands}
use Rattle.odb_logdb.proofs.Readied.{ready_again, ready_left}
use Rattle.odb_logdb.proofs.Reopened.{HasFewer, fewer, fewer_run, still_doubtful, reopened}
use Rattle.odb_logdb.proofs.logdb.Logdb.reopen.Given.{Over}
use Rattle.odb_logdb.proofs.logdb.Logdb.reopen.Goals as goal
use Rattle.odb_logdb.proofs.logdb.Logdb.reopen.Goals.{After-open_log}

module _ (g : Over) (c : After-open_log g) where
  -- the log as its fields are
  abbrev l : LogState
  l = the_view c.self.inside

  abbrev w : World
  w = g.S.Outside.world c.args.store.now

  abbrev now : World
  now = g.S.Outside.world c.open_log.new.store

  unknown : l.state ≡ Unknown
  unknown = ap (λ (x : LogState). x.state) c.self.view_is ∙ c.requires.unknown

  stands : Stands l (file_of 1 w)
  stands = subst (λ (x : LogState). Stands x (file_of 1 w)) (sym c.self.view_is) c.requires.stands

  region : IsRegionOf l
  region = subst (IsInState l) unknown c.self.invariant.in_state

  reads : ReadsImage (file_of 1 w)
  reads = g.met.S.Store.reads_image c.args.store.now 1

  reads_now : ReadsImage (file_of 1 now)
  reads_now = g.met.S.Store.reads_image c.open_log.new.store 1

  doubt : IsDoubtful l.extents l.fields l.log (held l (file_of 1 w)) w
  doubt = doubtful_of l w c.self.invariant unknown stands

  is_start : c.start-start.result ≡ l.log.start
  is_start = c.start-start.ensures ∙ ap (λ (x : LogState). records_start x.fields) (sym c.self.view_is) ∙ sym region.start

  is_end : c.content_end-end.result ≡ l.log.end
  is_end = c.content_end-end.ensures ∙ ap content_end c.limit.ensures.value ∙ sym region.end

  is_first : l.fields.first ≡ l.log.first
  is_first = sym c.self.invariant.first

  few : Runs 1 (HasFewer (file_of 1 w)) w now
  few = fewer l.extents l.fields l.log (held l (file_of 1 w)) w now doubt reads c.start-start.result c.content_end-end.result l.fields.first is_start is_end is_first c.open_log.ensures.run c.open_log.ensures.gate

  still : IsDoubtful l.extents l.fields l.log (held l (file_of 1 w)) now
  still = still_doubtful l.extents l.fields l.log (held l (file_of 1 w)) w now doubt reads c.start-start.result c.content_end-end.result l.fields.first is_start is_end is_first c.open_log.ensures.run c.open_log.ensures.gate

  told : is_some (file_of 1 now) ≡ is_some (file_of 1 w)
  told = few.only.told now.time few.only.later (omega arith)

  left : Stands l (file_of 1 now)
  left =
      subst (λ (s : ListState). Stands (log_with l.extents l.fields l.log s) (file_of 1 now)) (sym unknown)
      (unknown_stands l.extents l.fields l.log (held l (file_of 1 w)) (file_of 1 now) still.live reads_now still.extents still.each)

pub returns-in_err-self-inside-clause-run : goal.returns-in_err-self-inside-clause-run
returns-in_err-self-inside-clause-run g c =
    let a = (goal.at.returns-in_err-self-inside-clause-run g c).After-open_log in
    fewer_run (w g a) (now g a) (few g a)

pub returns-in_err-self-inside-clause-stands : goal.returns-in_err-self-inside-clause-stands
returns-in_err-self-inside-clause-stands g c =
    let a = (goal.at.returns-in_err-self-inside-clause-stands g c).After-open_log in
    subst (λ (x : LogState). Stands x (file_of 1 (now g a))) c.self.view_is (left g a)

pub returns-in_err-self-inside-clause-ready : goal.returns-in_err-self-inside-clause-ready
returns-in_err-self-inside-clause-ready g c =
    let a = (goal.at.returns-in_err-self-inside-clause-ready g c).After-open_log in
    let p = err_from_is_err_and c.from_residual.result c.from_residual.ensures.1 in
    let is : c.from_residual.result ≡ Err Fault = p.1 ∙ ap Err (p.2 ∙ c.in_err-self-inside.ensures.refusal) in
    subst (λ (r : Result (Unit {0}) LogdbError). IsReady c.args.self.now c.args.self.now r (file_of 1 (w g a)) (file_of 1 (now g a))) (sym is)
    (subst (λ (x : LogState). IsReady {T = Unit {0}} x x (Err Fault) (file_of 1 (w g a)) (file_of 1 (now g a))) c.self.view_is
    (ready_left (l g a) (w g a) (now g a) c.self.invariant (unknown g a) (reads g a) (reads_now g a) (stands g a) (told g a) (still g a)))

held_again : (g : Over) (c : After-open_log g) (log : Log) → IsLogOpened (region_at 1 c.start-start.result c.content_end-end.result c.self.inside.fields.first) log (w g c) (now g c) → IsHeld c.self.inside.extents c.self.inside.fields log (entries_in (file_of 1 (w g c))) (now g c)
held_again g c log is =
    reopened (l g c).extents (l g c).fields (l g c).log (held (l g c) (file_of 1 (w g c))) (w g c) (now g c) (doubt g c) (reads g c) c.start-start.result c.content_end-end.result (l g c).fields.first (is_start g c) (is_end g c) (is_first g c)
    c.open_log.ensures.run c.open_log.ensures.gate log is

pub returns-clause-run : goal.returns-clause-run
returns-clause-run g c =
    let a = (goal.at.returns-clause-run g c).After-open_log in
    fewer_run (w g a) (now g a) (few g a)

pub returns-clause-stands : goal.returns-clause-stands
returns-clause-stands g c =
    let a = (goal.at.returns-clause-stands g c).After-open_log in
    known_stands c.self.inside.extents c.self.inside.fields c.in_ok-self-inside.field-0 (entries_in (file_of 1 (w g a))) (now g a) (held_again g a c.in_ok-self-inside.field-0 c.in_ok-self-inside.ensures.opened) (reads_now g a)

pub returns-clause-ready : goal.returns-clause-ready
returns-clause-ready g c =
    let a = (goal.at.returns-clause-ready g c).After-open_log in
    let log = c.in_ok-self-inside.field-0 in
    subst (λ (x : LogState). IsReady {T = Unit {0}} x (log_with c.self.inside.extents c.self.inside.fields log Known) (Ok tt) (file_of 1 (w g a)) (file_of 1 (now g a))) c.self.view_is
    (ready_again (l g a) (w g a) (now g a) c.self.invariant (unknown g a) (reads g a) (reads_now g a) (stands g a) (told g a) log (held_again g a log c.in_ok-self-inside.ensures.opened))
