use Rattle.std.proofs.Common.{◌≡◌, ◌*◌, Result, Err, List, subst, arith, rules}
use Rattle.odb_slots.specs.Answers.{IsScanOf}
use Rattle.odb_slots.specs.declared.error.SlotError.{SlotError}
use Rattle.odb_slots.specs.declared.item.SlotItem.{SlotItem}
use Rattle.odb_device.specs.Told.{IfTold}
use Rattle.odb_device.proofs.Time.{reads_then}
use Rattle.odb_slots.proofs.Finding.{scanning_more, scanning_breaks}
use Rattle.odb_slots.proofs.scanning.scan.Goals as goal

pub loop-number-preserved : goal.loop-number-preserved
loop-number-preserved g c =
    scanning_more c.args.file c.loop-number.number c.args.limit (g.S.Outside.world c.args.store.now) (g.S.Outside.world c.loop-number.store) (g.S.Outside.world c.read_piece.new.store)
    c.loop-number.items.items c.read_piece.new.items.items (omega arith) c.requires.long c.loop-number.invariant c.read_piece.ensures.run c.in_ok-read_piece.ensures.sound c.in_ok-read_piece.ensures.answer

pub returns-in_err-read_piece-clause-run : goal.returns-in_err-read_piece-clause-run
returns-in_err-read_piece-clause-run g c =
    reads_then c.args.file (g.S.Outside.world c.args.store.now) (g.S.Outside.world c.loop-number.store) (g.S.Outside.world c.read_piece.new.store) c.loop-number.invariant.run c.read_piece.ensures.run

pub returns-in_err-read_piece-clause-answer : goal.returns-in_err-read_piece-clause-answer
returns-in_err-read_piece-clause-answer g c =
    let same : ◌≡◌ {A = Result (List SlotItem) SlotError} (Err c.in_err-read_piece.field-0.0) c.from_residual.result = search rules in
    subst (λ (r : Result (List SlotItem) SlotError). IfTold c.args.file (g.S.Outside.world c.args.store.now) (IsScanOf (1024 * c.args.limit) r)) same
    (scanning_breaks c.args.file c.loop-number.number c.args.limit (g.S.Outside.world c.args.store.now) (g.S.Outside.world c.loop-number.store)
    c.loop-number.items.items c.read_piece.new.items.items c.in_err-read_piece.field-0.0 (omega arith) c.requires.long c.loop-number.invariant c.in_err-read_piece.ensures.answer)
