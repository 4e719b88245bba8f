use Rattle.odb_slots.proofs.Finding.{IsScanning}
use Rattle.odb_slots.proofs.scanning.scan.Given as goal

abbrev pub invariant-loop-number : goal.invariant-loop-number
invariant-loop-number g l = IsScanning l.file l.number (g.S.Outside.world l.initial.store) (g.S.Outside.world l.store) l.items.items
