use Rattle.std.proofs.Common.{◌+◌, ◌∙◌, sym, ap, subst}
use Rattle.odb_device.specs.World.{file_of}
use Rattle.odb_device.specs.Images.{EachImage}
use Rattle.odb_extent.specs.Opened.{content_end}
use Rattle.odb_extent.specs.Standing.{limit_of, fields_of, HoldsAt, Takes, LeavesTried}
use Rattle.odb_reclog.specs.Standing.{Log}
use Rattle.odb_logdb.specs.Adding.{KeepsHeld}
use Rattle.odb_logdb.proofs.Held.{ok_of, err_of}
use Rattle.odb_logdb.proofs.Grown.{grow_left, grow_taken}
use Rattle.odb_logdb.proofs.adding.grow.Goals as goal

pub returns-then-is_err-clause-keeps : goal.returns-then-is_err-clause-keeps
returns-then-is_err-clause-keeps g c = λ f entries held.
    let e = c.args.extents.now in
    let w = g.S.Outside.world c.args.store.now in
    let now = g.S.Outside.world c.grow.new.store in
    let left = err_of (LeavesTried (limit_of e + 1) (fields_of e) e c.grow.new.self) c.grow.result (sym c.is_err.ensures.value ∙ c.if-is_err.true) c.grow.ensures.tried in
    grow_left e f c.args.log.now entries w now held c.requires.less c.grow.ensures.run c.grow.new.self (g.met.S.Store.reads_image c.grow.new.store 1) c.grow.ensures.stands left

pub returns-clause-keeps : goal.returns-clause-keeps
returns-clause-keeps g c = λ f entries held.
    let e = c.args.extents.now in
    let w = g.S.Outside.world c.args.store.now in
    let now = g.S.Outside.world c.grow.new.store in
    let done = sym c.is_err.ensures.value ∙ c.if-is_err.false in
    let takes = ok_of (Takes (limit_of e + 1) (fields_of e) e c.grow.new.self) c.grow.result done c.grow.ensures.grown in
    let added = ok_of (EachImage (HoldsAt e (limit_of e + 1) (fields_of e)) (file_of e.pair.file now)) c.grow.result done c.grow.ensures.holds in
    subst (λ (l : Log). KeepsHeld c.grow.new.self f l entries w now) (sym c.extend.ensures.log)
    (grow_taken e f c.args.log.now entries w now held c.requires.less c.grow.ensures.run c.grow.new.self c.content_end.result (c.content_end.ensures ∙ ap content_end c.limit.ensures.value) takes added (g.met.S.Store.reads_image c.grow.new.store 1)
    c.grow.ensures.stands)
