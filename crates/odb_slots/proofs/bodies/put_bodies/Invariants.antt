use Rattle.std.proofs.Common.{◌^◌}
use Rattle.odb_device.specs.Writing.{IsWriting}
use Rattle.odb_slots.specs.Sets.{BodiesOf, HasSlot}
use Rattle.odb_slots.proofs.Filling.{HaveItems}
use Rattle.odb_slots.proofs.bodies.put_bodies.Given as goal

abbrev pub invariant-loop-item : goal.invariant-loop-item
invariant-loop-item g l =
    IsWriting (BodiesOf (HasSlot l.items)) (2 ^ 40) l.file (HaveItems l.items l.item-index) (g.S.Outside.world l.initial.store) (g.S.Outside.world l.store)
