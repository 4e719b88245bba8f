-- What calls on slots may change of a file.
use Rattle.std.specs.Prelude.{ℕ, ◌^◌, List}
use Rattle.odb_device.specs.World.{World, file_of}
use Rattle.odb_device.specs.Moments.{Runs}
use Rattle.odb_device.specs.TornSets.{TornInFrom}
use Rattle.odb_slots.specs.Sets.{GatesOf, BodiesOf, IsOneOf, HasSlot}
use Rattle.odb_slots.specs.declared.item.SlotItem.{SlotItem}

-- from old to new only the file changes, and of each image from before only the gates of these
-- slots
abbrev pub TearsGates : ℕ → List ℕ → World → World → Type 0
TearsGates file slots old new =
    Runs file (TornInFrom (GatesOf (IsOneOf slots)) (2 ^ 40) (file_of file old)) old new

-- and only the bodies of these items' slots
abbrev pub TearsBodies : ℕ → List SlotItem → World → World → Type 0
TearsBodies file items old new =
    Runs file (TornInFrom (BodiesOf (HasSlot items)) (2 ^ 40) (file_of file old)) old new
