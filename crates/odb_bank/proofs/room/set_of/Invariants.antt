use Rattle.odb_bank.proofs.UsedSlots.{IsTaking}
use Rattle.odb_bank.proofs.room.set_of.Given as goal

abbrev pub invariant-loop-slot : goal.invariant-loop-slot
invariant-loop-slot l = IsTaking l.used l.slot-index l.set
