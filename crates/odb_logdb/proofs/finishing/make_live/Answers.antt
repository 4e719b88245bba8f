use Rattle.std.proofs.Common.{◌≡◌, ℕ, sym, ◌∙◌, ap, subst}
use Rattle.odb_device.specs.World.{World}
use Rattle.odb_device.specs.Calls.{FileCountRose}
use Rattle.odb_device.proofs.Time.{rose_behind}
use Rattle.odb_extent.specs.Opened.{content_end}
use Rattle.odb_extent.specs.Standing.{ExtentState, limit_of, IsSettled}
use Rattle.odb_logdb.specs.declared.fields.LogFields.{LogFields}
use Rattle.odb_logdb.specs.Finishing.{IsDirtyIn, HoldsNoneThrough}
use Rattle.odb_logdb.proofs.Held.{err_of}
use Rattle.odb_logdb.proofs.Dirty.{zero_run, zero_dirty, none_then, err_map}
use Rattle.odb_logdb.proofs.finishing.make_live.Given.{Over}
use Rattle.odb_logdb.proofs.finishing.make_live.Goals as goal
use Rattle.odb_logdb.proofs.finishing.make_live.Goals.{After-zero_range}

module _ (g : Over) (c : After-zero_range g) where
  abbrev e : ExtentState
  e = c.put_dirty.new.extents

  abbrev f : LogFields
  f = c.args.dirty.now

  abbrev w : World
  w = g.S.Outside.world c.args.store.now

  abbrev mid : World
  mid = g.S.Outside.world c.put_dirty.new.store

  abbrev now : World
  now = g.S.Outside.world c.zero_range.new.store

  is_end : c.content_end-end.result ≡ content_end (limit_of e)
  is_end = c.content_end-end.ensures ∙ ap content_end c.limit.ensures.value

  settled : IsSettled e
  settled = c.in_ok-put_dirty.ensures.settled

  run : HoldsNoneThrough f.first w now
  run = none_then f.first w mid now c.put_dirty.ensures.run (zero_run e f mid now c.put_dirty.ensures.dirty settled c.content_end-end.result is_end c.zero_range.ensures.run)

  dirty : IsDirtyIn e f now
  dirty = zero_dirty e f mid now c.put_dirty.ensures.dirty settled c.content_end-end.result is_end c.zero_range.ensures.run

pub returns-then-is_err-clause-run : goal.returns-then-is_err-clause-run
returns-then-is_err-clause-run g c = run g (goal.at.returns-then-is_err-clause-run g c).After-zero_range

pub returns-then-is_err-clause-left : goal.returns-then-is_err-clause-left
returns-then-is_err-clause-left g c = dirty g (goal.at.returns-then-is_err-clause-left g c).After-zero_range

pub returns-then-is_err-clause-cause : goal.returns-then-is_err-clause-cause
returns-then-is_err-clause-cause g c =
    let a = (goal.at.returns-then-is_err-clause-cause g c).After-zero_range in
    rose_behind 1 1 (w g a) (mid g a) (now g a) c.put_dirty.ensures.run.only
    (err_of (FileCountRose 1 (mid g a) (now g a)) c.zero_range.result (sym c.is_err.ensures.value ∙ c.if-is_err.true) c.zero_range.ensures.cause)

pub put_live-requires-clause-dirty : goal.put_live-requires-clause-dirty
put_live-requires-clause-dirty g c = (c.args.dirty.now, c.requires.live, dirty g (goal.at.put_live-requires-clause-dirty g c).After-zero_range)

pub returns-clause-run : goal.returns-clause-run
returns-clause-run g c =
    let a = (goal.at.returns-clause-run g c).After-zero_range in
    let last = g.S.Outside.world c.put_live.new.store in
    none_then (f g a).first (w g a) (now g a) last (run g a)
    (subst (λ (n : ℕ). HoldsNoneThrough n (now g a) last) (ap (λ (x : LogFields). x.first) c.requires.live) c.put_live.ensures.run)

pub returns-clause-left : goal.returns-clause-left
returns-clause-left g c = c.put_live.ensures.left c.args.dirty.now c.requires.live (dirty g (goal.at.returns-clause-left g c).After-zero_range)

pub returns-clause-cause : goal.returns-clause-cause
returns-clause-cause g c =
    let a = (goal.at.returns-clause-cause g c).After-zero_range in
    let last = g.S.Outside.world c.put_live.new.store in
    err_map c.put_live.result (FileCountRose 1 (now g a) last) (FileCountRose 1 (w g a) last) (λ rose. rose_behind 1 1 (w g a) (now g a) last (run g a).only rose) c.put_live.ensures.cause
