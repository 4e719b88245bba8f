use Rattle.std.proofs.Common.{◌*◌, List, Option, Ok, subst, arith}
use Rattle.std.specs.Prelude.{IfSome}
use Rattle.odb_device.specs.World.{File, file_of}
use Rattle.odb_device.proofs.Time.{reads_then}
use Rattle.odb_slots.specs.Answers.{IsScanOf}
use Rattle.odb_slots.specs.declared.item.SlotItem.{SlotItem}
use Rattle.odb_slots.proofs.Finding.{reads_one}
use Rattle.odb_bank.specs.Finding.{AreItemsKept}
use Rattle.odb_bank.proofs.Slotting.{long_told, items_told, items_sound}
use Rattle.odb_bank.proofs.opens.slots_in.Goals as goal

pub returns-in_err-damage_before-in-Err-Malformed-clause-run : goal.returns-in_err-damage_before-in-Err-Malformed-clause-run
returns-in_err-damage_before-in-Err-Malformed-clause-run g c =
    let w0 = g.S.Outside.world c.args.store.now in
    let w1 = g.S.Outside.world c.length.new.self in
    let w2 = g.S.Outside.world c.scan.new.store in
    reads_then c.args.file w0 w2 (g.S.Outside.world c.damage_before.new.store)
    (reads_then c.args.file w0 w1 w2 (reads_one c.args.file w0 w1 c.length.ensures.call c.length.ensures.same) c.scan.ensures.run) c.damage_before.ensures.run

pub returns-in-Ok-clause-answer : goal.returns-in-Ok-clause-answer
returns-in-Ok-clause-answer g c =
    let o = file_of c.args.file (g.S.Outside.world c.args.store.now) in
    items_told o c.args.number c.args.limit c.in-Ok.items c.kept_items.result
    (long_told o c.args.limit c.in_ok-length.length c.in_ok-length.ensures.length (omega (arith, c.place_of.ensures, c.if-length-place_of.false)))
    c.in-Ok.ensures.sound
    (subst (λ (l : List SlotItem). AreItemsKept c.args.number l c.kept_items.result) c.as_slice.ensures c.kept_items.ensures)
    (subst (λ (x : Option File). IfSome x (λ f. IsScanOf (1024 * c.args.limit) (Ok c.in-Ok.items) f.bytes)) c.length.ensures.same c.in-Ok.ensures.answer)

pub returns-in-Ok-clause-sound : goal.returns-in-Ok-clause-sound
returns-in-Ok-clause-sound g c =
    items_sound c.args.number c.args.limit c.in-Ok.items c.kept_items.result c.in-Ok.ensures.sound
    (subst (λ (l : List SlotItem). AreItemsKept c.args.number l c.kept_items.result) c.as_slice.ensures c.kept_items.ensures)

pub returns-in_ok-damage_before-in-Err-Malformed-clause-run : goal.returns-in_ok-damage_before-in-Err-Malformed-clause-run
returns-in_ok-damage_before-in-Err-Malformed-clause-run g c =
    let w0 = g.S.Outside.world c.args.store.now in
    let w1 = g.S.Outside.world c.length.new.self in
    let w2 = g.S.Outside.world c.scan.new.store in
    reads_then c.args.file w0 w2 (g.S.Outside.world c.damage_before.new.store)
    (reads_then c.args.file w0 w1 w2 (reads_one c.args.file w0 w1 c.length.ensures.call c.length.ensures.same) c.scan.ensures.run) c.damage_before.ensures.run
