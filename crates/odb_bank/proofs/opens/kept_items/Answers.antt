use Rattle.std.proofs.Common.{◌≡◌, ◌+◌, List, length, Result, Err, sym, subst, refl, arith, rules}
use Rattle.std.proofs.lemmas.Option.{slice_get_read}
use Rattle.odb_bank.specs.declared.error.BankError.{BankError}
use Rattle.odb_bank.specs.declared.kept.Kept.{Kept}
use Rattle.odb_bank.specs.Finding.{AreItemsKept}
use Rattle.odb_bank.proofs.Items.{IsKeeping, keeping_more, keeping_breaks}
use Rattle.odb_bank.proofs.opens.kept_items.Goals as goal

pub returns-in_err-kept_item : goal.returns-in_err-kept_item
returns-in_err-kept_item c =
    let same : ◌≡◌ {A = Result (List Kept) BankError} (Err c.in_err-kept_item.field-0.0) c.from_residual.result = search rules in
    subst (AreItemsKept c.args.number c.args.items.now) same
    (keeping_breaks c.args.number c.args.items.now c.loop-item.item-index c.loop-item.slots.items c.item-item.result c.in_err-kept_item.field-0.0 c.loop-item.invariant
    (slice_get_read c.args.items.now (length c.args.items.now) c.loop-item.item-index c.item-item.result refl (omega arith) c.item-item.is) c.in_err-kept_item.ensures)

pub loop-item-preserved : goal.loop-item-preserved
loop-item-preserved c =
    subst (IsKeeping c.args.number c.args.items.now (c.loop-item.item-index + 1)) (sym c.in_ok-push.ensures.items)
    (keeping_more c.args.number c.args.items.now c.loop-item.item-index c.loop-item.slots.items c.item-item.result c.in_ok-kept_item.field-0 c.loop-item.invariant
    (slice_get_read c.args.items.now (length c.args.items.now) c.loop-item.item-index c.item-item.result refl (omega arith) c.item-item.is) c.in_ok-kept_item.ensures)
