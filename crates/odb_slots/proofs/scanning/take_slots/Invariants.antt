use Rattle.odb_slots.proofs.Finding.{IsTaking}
use Rattle.odb_slots.proofs.scanning.take_slots.Given as goal

abbrev pub invariant-loop-k : goal.invariant-loop-k
invariant-loop-k l = IsTaking l.first l.bytes l.fn.items.items l.items.items l.k
