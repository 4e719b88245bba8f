use Rattle.odb_bank.proofs.Items.{IsKeeping}
use Rattle.odb_bank.proofs.opens.kept_items.Given as goal

abbrev pub invariant-loop-item : goal.invariant-loop-item
invariant-loop-item l = IsKeeping l.number l.items l.item-index l.slots.items
