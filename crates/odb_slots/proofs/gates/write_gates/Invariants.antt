use Rattle.std.proofs.Common.{◌^◌}
use Rattle.odb_device.specs.Writing.{IsWriting}
use Rattle.odb_slots.specs.Sets.{GatesOf, IsOneOf, HaveGates}
use Rattle.odb_slots.proofs.gates.write_gates.Given as goal

abbrev pub invariant-loop-slot : goal.invariant-loop-slot
invariant-loop-slot g l = IsWriting (GatesOf (IsOneOf l.slots)) (2 ^ 40) l.file (HaveGates l.gate l.slots l.slot-index) (g.S.Outside.world l.initial.store) (g.S.Outside.world l.store)
