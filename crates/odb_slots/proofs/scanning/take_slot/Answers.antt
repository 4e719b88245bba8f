use Rattle.std.proofs.Common.{◌≡◌, ◌+◌, [], ◌∷◌, ◌++◌, Some, None, Result, Err, sym, ◌∙◌, ap, subst, rules}
use Rattle.std.specs.Prelude.{slice_index, ⊤, Ok, Option}
use Rattle.odb_values.specs.Listed.{Listed}
use Rattle.odb_device.specs.Images.{part}
use Rattle.odb_slots.specs.Bodies.{item_in}
use Rattle.odb_slots.specs.Answers.{IsAnswer, AreRecords, IsPieceOf, AreItems}
use Rattle.odb_slots.specs.declared.error.SlotError.{SlotError}
use Rattle.odb_slots.specs.declared.item.SlotItem.{SlotItem}
use Rattle.odb_slots.proofs.Finding.{records_more, piece_breaks, items_pushed}
use Rattle.odb_slots.proofs.scanning.take_slot.Goals as goal

pub returns-in_err-open_item-clause-answer : goal.returns-in_err-open_item-clause-answer
returns-in_err-open_item-clause-answer c = λ file is here.
    let same : ◌≡◌ {A = Result ⊤ SlotError} (Err c.in_err-open_item.field-0.0) c.from_residual.result = search rules in
    subst (IsPieceOf (c.args.slot + 1) file c.args.items.now.items) same
    (piece_breaks c.args.slot file c.args.bytes.now c.args.items.now.items c.in_err-open_item.field-0.0 is c.in_err-open_item.ensures.answer here)

pub returns-in-None-clause-answer : goal.returns-in-None-clause-answer
returns-in-None-clause-answer c = λ file is here.
    records_more c.args.slot file c.args.bytes.now c.args.items.now.items None is
    (subst (λ (o : Option SlotItem). IsAnswer c.args.slot (slice_index c.args.bytes.now 0) (item_in c.args.slot (part 1 1023 c.args.bytes.now)) (Ok o)) c.in-None.is c.in_ok-open_item.ensures.answer) here

pub returns-in_ok-reserve-in-Some-clause-answer : goal.returns-in_ok-reserve-in-Some-clause-answer
returns-in_ok-reserve-in-Some-clause-answer c = λ file is here.
    let added : c.push.new.self.items ≡ c.args.items.now.items ++ c.in-Some.item ∷ [] =
    ap (λ (l : Listed SlotItem). l.items) c.push.ensures ∙ ap (λ (l : Listed SlotItem). l.items ++ c.in-Some.item ∷ []) c.in_ok-reserve-in-Some.ensures.ok in
    subst (AreRecords (c.args.slot + 1) file) (sym added)
    (records_more c.args.slot file c.args.bytes.now c.args.items.now.items (Some c.in-Some.item) is
    (subst (λ (o : Option SlotItem). IsAnswer c.args.slot (slice_index c.args.bytes.now 0) (item_in c.args.slot (part 1 1023 c.args.bytes.now)) (Ok o)) c.in-Some.is c.in_ok-open_item.ensures.answer) here)

pub returns-in_ok-reserve-in-Some-clause-sound : goal.returns-in_ok-reserve-in-Some-clause-sound
returns-in_ok-reserve-in-Some-clause-sound c =
    let added : c.push.new.self.items ≡ c.args.items.now.items ++ c.in-Some.item ∷ [] =
    ap (λ (l : Listed SlotItem). l.items) c.push.ensures ∙ ap (λ (l : Listed SlotItem). l.items ++ c.in-Some.item ∷ []) c.in_ok-reserve-in-Some.ensures.ok in
    subst (AreItems (c.args.slot + 1)) (sym added) (items_pushed c.args.slot c.args.items.now.items c.in-Some.item c.requires.sound (rw c.in-Some.is at c.in_ok-open_item.ensures.sound))
