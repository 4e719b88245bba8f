use Rattle.std.proofs.Common.{◌∙◌, Err, ap, inl}
use Rattle.odb_device.specs.World.{World}
use Rattle.odb_tool.proofs.Leaving.{leaves_none, none_by}
use Rattle.odb_tool.proofs.Making.{makes_looked, makes_unwritten, leaves_looked, order_then}
use Rattle.odb_tool.proofs.create.create.Goals as goal

pub returns-in-Ok-clause-silent : goal.returns-in-Ok-clause-silent
returns-in-Ok-clause-silent g c = makes_unwritten (g.S.Outside.world c.args.store.now) (g.S.Outside.world c.open.new.store) c.open.ensures.run

pub returns-in-Ok-clause-order : goal.returns-in-Ok-clause-order
returns-in-Ok-clause-order g c = inl (leaves_looked (g.S.Outside.world c.args.store.now) (g.S.Outside.world c.open.new.store) c.open.ensures.run)

pub returns-in-Ok-2-clause-silent : goal.returns-in-Ok-2-clause-silent
returns-in-Ok-2-clause-silent g c = makes_unwritten (g.S.Outside.world c.args.store.now) (g.S.Outside.world c.open.new.store) c.open.ensures.run

pub returns-in-Ok-2-clause-order : goal.returns-in-Ok-2-clause-order
returns-in-Ok-2-clause-order g c = inl (leaves_looked (g.S.Outside.world c.args.store.now) (g.S.Outside.world c.open.new.store) c.open.ensures.run)

pub returns-in-Ok-make_files-clause-leaves : goal.returns-in-Ok-make_files-clause-leaves
returns-in-Ok-make_files-clause-leaves g c =
    let old : World = g.S.Outside.world c.args.store.now in
    leaves_none old (g.S.Outside.world c.make_files.new.store) (none_by old c.open.result (c.in-Err-NoOpenPlace.is ∙ ap Err c.in-Err-NoOpenPlace.field-0-is) c.open.ensures.answer)

pub returns-in-Ok-make_files-clause-silent : goal.returns-in-Ok-make_files-clause-silent
returns-in-Ok-make_files-clause-silent g c =
    makes_looked (g.S.Outside.world c.args.store.now) (g.S.Outside.world c.open.new.store) (g.S.Outside.world c.make_files.new.store) c.open.ensures.run c.make_files.ensures.only

pub returns-in-Ok-make_files-clause-order : goal.returns-in-Ok-make_files-clause-order
returns-in-Ok-make_files-clause-order g c =
    order_then c.args.side_kib (g.S.Outside.world c.args.store.now) (g.S.Outside.world c.open.new.store) (g.S.Outside.world c.make_files.new.store) c.open.ensures.run c.make_files.ensures.order

pub returns-in-Err-clause-leaves : goal.returns-in-Err-clause-leaves
returns-in-Err-clause-leaves g c =
    let old : World = g.S.Outside.world c.args.store.now in
    leaves_none old (g.S.Outside.world c.make_files.new.store) (none_by old c.open.result (c.in-Err-NoOpenPlace.is ∙ ap Err c.in-Err-NoOpenPlace.field-0-is) c.open.ensures.answer)

pub returns-in-Err-clause-silent : goal.returns-in-Err-clause-silent
returns-in-Err-clause-silent g c =
    makes_looked (g.S.Outside.world c.args.store.now) (g.S.Outside.world c.open.new.store) (g.S.Outside.world c.make_files.new.store) c.open.ensures.run c.make_files.ensures.only

pub returns-in-Err-clause-order : goal.returns-in-Err-clause-order
returns-in-Err-clause-order g c =
    order_then c.args.side_kib (g.S.Outside.world c.args.store.now) (g.S.Outside.world c.open.new.store) (g.S.Outside.world c.make_files.new.store) c.open.ensures.run c.make_files.ensures.order
