use Rattle.std.proofs.Common.{ℕ, sym, ◌∙◌, ap, subst}
use Rattle.odb_device.specs.Calls.{HasCause}
use Rattle.odb_extent.specs.Standing.{limit_of, Takes, LeavesTried}
use Rattle.odb_logdb.specs.declared.fields.LogFields.{LogFields}
use Rattle.odb_logdb.specs.Fields.{fields_image}
use Rattle.odb_logdb.specs.Finishing.{IsDirtyIn, IsLiveIn, HoldsNoneThrough}
use Rattle.odb_logdb.proofs.Dirty.{dirty_stands, live_run, live_put, live_left, ok_map, err_map}
use Rattle.odb_logdb.proofs.finishing.put_live.Goals as goal

pub put_fields-requires : goal.put_fields-requires
put_fields-requires g c =
    let a = c.requires.dirty in
    dirty_stands c.args.extents.now a.0 (g.S.Outside.world c.args.store.now) a.2

pub returns-clause-run : goal.returns-clause-run
returns-clause-run g c =
    let a = c.requires.dirty in
    let w = g.S.Outside.world c.args.store.now in
    let now = g.S.Outside.world c.put_fields.new.store in
    subst (λ (n : ℕ). HoldsNoneThrough n w now) (sym (ap (λ (x : LogFields). x.first) a.1))
    (live_run c.args.extents.now a.0 w now a.2 c.requires.settled c.requires.zeros c.image.result (c.image.ensures ∙ ap fields_image a.1) c.put_fields.ensures.run c.put_fields.ensures.beside)

pub returns-clause-left : goal.returns-clause-left
returns-clause-left g c = λ f is d.
    let e = c.args.extents.now in
    let new = c.put_fields.new.self in
    let w = g.S.Outside.world c.args.store.now in
    let now = g.S.Outside.world c.put_fields.new.store in
    err_map c.put_fields.result (LeavesTried (limit_of e) c.image.result e new) (IsDirtyIn new f now)
    (λ left. live_left e f w now d c.requires.settled c.requires.zeros c.image.result (c.image.ensures ∙ ap fields_image is) c.put_fields.ensures.run c.put_fields.ensures.beside new c.put_fields.ensures.stands left)
    c.put_fields.ensures.tried

pub returns-clause-live : goal.returns-clause-live
returns-clause-live g c =
    let a = c.requires.dirty in
    let e = c.args.extents.now in
    let new = c.put_fields.new.self in
    let w = g.S.Outside.world c.args.store.now in
    let now = g.S.Outside.world c.put_fields.new.store in
    ok_map c.put_fields.result (Takes (limit_of e) c.image.result e new) (IsLiveIn new c.args.live.now now)
    (λ takes.
    subst (λ (x : LogFields). IsLiveIn new x now) (sym a.1)
    (live_put e a.0 w now a.2 c.requires.settled c.requires.zeros c.image.result (c.image.ensures ∙ ap fields_image a.1) c.put_fields.ensures.run c.put_fields.ensures.beside new c.put_fields.ensures.stands takes))
    c.put_fields.ensures.put

pub returns-clause-cause : goal.returns-clause-cause
returns-clause-cause g c =
    let a = c.requires.dirty in
    subst (λ (k : ℕ). HasCause k (g.S.Outside.world c.args.store.now) (g.S.Outside.world c.put_fields.new.store) c.put_fields.result) a.2.file c.put_fields.ensures.cause
