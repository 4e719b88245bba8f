use Rattle.std.proofs.Common.{◌≡◌, ◌+◌, ◌-◌, ◌*◌, ◌/◌, ◌≤◌, length, Result, Err, subst, arith, rules}
use Rattle.std.specs.Prelude.{⊤}
use Rattle.odb_slots.specs.Answers.{IsPieceOf}
use Rattle.odb_slots.specs.declared.error.SlotError.{SlotError}
use Rattle.odb_slots.proofs.Finding.{piece_widens, slot_inside, taking_more}
use Rattle.odb_slots.proofs.scanning.take_slots.Goals as goal

pub returns-in_err-take_slot-clause-answer : goal.returns-in_err-take_slot-clause-answer
returns-in_err-take_slot-clause-answer c = λ file is here.
    let first = c.args.first in
    let k = c.loop-k.k in
    let at = k * 1024 in
    let bytes = c.args.bytes.now in
    let items = c.take_slot.new.items.items in
    let same : ◌≡◌ {A = Result ⊤ SlotError} (Err c.in_err-take_slot.field-0.0) c.from_residual.result = search rules in
    let inside : at + 1024 ≤ length bytes = omega arith in
    let further : first + k + 1 ≤ first + length bytes / 1024 = omega arith in
    subst (IsPieceOf (first + length bytes / 1024) file items) same
    (piece_widens (first + k + 1) (first + length bytes / 1024) file items items c.in_err-take_slot.field-0.0 further
    (c.in_err-take_slot.ensures.answer file (slot_inside first k at (at + 1024 - at) file bytes is (omega arith) (omega arith) inside) (c.loop-k.invariant.records file is here)))

pub loop-k-preserved : goal.loop-k-preserved
loop-k-preserved c =
    let at = c.loop-k.k * 1024 in
    taking_more c.args.first c.loop-k.k at (at + 1024 - at) c.args.bytes.now c.args.items.now.items c.loop-k.items.items c.take_slot.new.items.items
    (omega arith) (omega arith) (omega arith) c.loop-k.invariant c.in_ok-take_slot.ensures.sound c.in_ok-take_slot.ensures.answer
