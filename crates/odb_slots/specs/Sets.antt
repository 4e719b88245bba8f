-- Sets of slots, and the bytes that are written for them.
use Rattle.std.specs.Prelude.{◌≡◌, ℕ, ◌+◌, ◌<◌, ◌≤◌, List, length, slice_index, slice_get, Some}
use Rattle.std.specs.List.{All}
use Rattle.odb_device.specs.TornSets.{InRange}
use Rattle.odb_slots.specs.Slots.{slot_place, gate_at, body_at}
use Rattle.odb_slots.specs.Bodies.{slot_image}
use Rattle.odb_slots.specs.Views.{item_of, spelled}
use Rattle.odb_slots.specs.declared.item.SlotItem.{SlotItem}

-- the gates of slots in S
abbrev pub GatesOf : (ℕ → Type 0) → ℕ → Type 0
GatesOf S i = (n : ℕ) × S n × (i ≡ slot_place n)

-- the bodies of slots in S
abbrev pub BodiesOf : (ℕ → Type 0) → ℕ → Type 0
BodiesOf S i = (n : ℕ) × S n × InRange (slot_place n + 1) 1023 i

-- one of a list of slots
abbrev pub IsOneOf : List ℕ → ℕ → Type 0
IsOneOf slots n = (k : ℕ) × (k < length slots) × (slice_index slots k ≡ n)

-- the first so many slots of a list have this byte for their gates
abbrev pub HaveGates : ℕ → List ℕ → ℕ → List ℕ → Type 0
HaveGates gate slots count bytes =
    (k : ℕ) → k < count → gate_at (slice_index slots k) bytes ≡ gate

-- the slot of one of the items
abbrev pub HasSlot : List SlotItem → ℕ → Type 0
HasSlot items n =
    (k : ℕ) × (item : SlotItem) × (slice_get items k ≡ Some item) × (item.slot ≡ n)

-- the slots of all items lie inside the bytes
abbrev pub HasRoom : List SlotItem → List ℕ → Type 0
HasRoom items bytes = All (λ item. slot_place (item.slot + 1) ≤ length bytes) items

-- the item's slot has its body, which spells it
pub record HasItem (item : SlotItem) (bytes : List ℕ) : Type 0 where
  pub body : body_at item.slot bytes ≡ slot_image item
  pub spells : spelled item_of item.slot bytes ≡ Some item

abbrev pub HasItems : List SlotItem → List ℕ → Type 0
HasItems items bytes = All (λ item. HasItem item bytes) items
