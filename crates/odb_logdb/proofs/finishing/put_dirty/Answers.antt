use Rattle.std.proofs.Common.{ℕ, subst}
use Rattle.odb_device.specs.Calls.{HasCause}
use Rattle.odb_extent.specs.Standing.{limit_of, IsSettled, Takes, LeavesTried}
use Rattle.odb_logdb.specs.Finishing.{IsDirtyIn}
use Rattle.odb_logdb.proofs.Dirty.{dirty_stands, dirty_run, dirty_put, dirty_left, either, ok_map}
use Rattle.odb_logdb.proofs.finishing.put_dirty.Goals as goal

pub put_fields-requires : goal.put_fields-requires
put_fields-requires g c = dirty_stands c.args.extents.now c.args.dirty.now (g.S.Outside.world c.args.store.now) c.requires.dirty

pub returns-clause-run : goal.returns-clause-run
returns-clause-run g c =
    dirty_run c.args.extents.now c.args.dirty.now (g.S.Outside.world c.args.store.now) (g.S.Outside.world c.put_fields.new.store) c.requires.dirty c.image.result c.image.ensures c.put_fields.ensures.run c.put_fields.ensures.beside

pub returns-clause-dirty : goal.returns-clause-dirty
returns-clause-dirty g c =
    let e = c.args.extents.now in
    let new = c.put_fields.new.self in
    let f = c.args.dirty.now in
    let w = g.S.Outside.world c.args.store.now in
    let now = g.S.Outside.world c.put_fields.new.store in
    either c.put_fields.result (Takes (limit_of e) c.image.result e new) (LeavesTried (limit_of e) c.image.result e new) (IsDirtyIn new f now) c.put_fields.ensures.put c.put_fields.ensures.tried
    (λ takes. dirty_put e f w now c.requires.dirty c.image.result c.image.ensures c.put_fields.ensures.run c.put_fields.ensures.beside new c.put_fields.ensures.stands takes)
    (λ left. dirty_left e f w now c.requires.dirty c.image.result c.image.ensures c.put_fields.ensures.run c.put_fields.ensures.beside new c.put_fields.ensures.stands left)

pub returns-clause-settled : goal.returns-clause-settled
returns-clause-settled g c =
    let e = c.args.extents.now in
    ok_map c.put_fields.result (Takes (limit_of e) c.image.result e c.put_fields.new.self) (IsSettled c.put_fields.new.self) (λ takes. takes.settled) c.put_fields.ensures.put

pub returns-clause-cause : goal.returns-clause-cause
returns-clause-cause g c =
    subst (λ (k : ℕ). HasCause k (g.S.Outside.world c.args.store.now) (g.S.Outside.world c.put_fields.new.store) c.put_fields.result) c.requires.dirty.file c.put_fields.ensures.cause
