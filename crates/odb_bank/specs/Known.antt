-- What is known of each slot of a file, whatever a crash leaves of it.
use Rattle.std.specs.Prelude.{◌≡◌, ◌≢◌, ◌⊎◌, ℕ, ◌<◌, ◌≤◌, List, [], slice_get, Option, Some, None}
use Rattle.odb_slots.specs.Views.{Spelling, spelled}
use Rattle.odb_slots.specs.Between.{IsLong}
use Rattle.odb_slots.specs.Slots.{OPEN, gate_at}
use Rattle.odb_slots.specs.Bodies.{slot_image}
use Rattle.odb_slots.specs.declared.item.SlotItem.{SlotItem}
use Rattle.odb_bank.specs.Records.{Record, View}

pub data Known : Type 0 where
  free : Known  -- its gate is closed
  filled : Record → Known  -- its gate is closed, and its body spells this record
  held : Record → Known  -- its gate is open, and so
  -- its gate is the one or the other, and so: a write of it isn't known to be on the disk
  either : Record → Known

-- a gate and what stands behind it are as known
abbrev pub Fits : Known → ℕ → Option Record → Type 0
Fits free gate it = gate ≢ OPEN
Fits (filled r) gate it = (gate ≢ OPEN) × (it ≡ Some r)
Fits (held r) gate it = (gate ≡ OPEN) × (it ≡ Some r)
Fits (either r) gate it = it ≡ Some r

-- the record that is open in each image, and the one that may be
abbrev pub sure : Known → Option Record
sure free = None
sure (filled r) = None
sure (held r) = Some r
sure (either r) = None

abbrev pub perhaps : Known → Option Record
perhaps free = None
perhaps (filled r) = None
perhaps (held r) = Some r
perhaps (either r) = Some r

-- the record behind the gate, where one is known
abbrev pub behind_gate : Known → Option Record
behind_gate free = None
behind_gate (filled r) = Some r
behind_gate (held r) = Some r
behind_gate (either r) = Some r

-- each slot inside the limit is as known, and beyond it nothing is
pub record IsFileOf (spell : Spelling Record) (limit : ℕ) (known : ℕ → Known) (bytes : List ℕ)
    : Type 0 where
  pub long : IsLong limit bytes
  pub fits : (n : ℕ) → n < limit → Fits (known n) (gate_at n bytes) (spelled spell n bytes)
  pub beyond : (n : ℕ) → limit ≤ n → known n ≡ free

-- in slots of S what was known becomes what `to` makes of the record behind the gate; the others
-- stay
abbrev pub Become : (ℕ → Type 0) → (Record → Known) → (ℕ → Known) → (ℕ → Known) → Type 0
Become S to old new = (n : ℕ) → ((S n → ⊥) × (new n ≡ old n))
    ⊎ (S n × ((r : Record) × (behind_gate (old n) ≡ Some r) × (new n ≡ to r)))

-- a free slot of an item is filled with the record that its body spells
pub record IsFilled (spell : Spelling Record) (items : List SlotItem) (n : ℕ) (old new : Known)
    : Type 0 where
  pub place : ℕ
  pub item : SlotItem
  pub fills : Record
  pub is_item : slice_get items place ≡ Some item
  pub slot : item.slot ≡ n
  pub was_free : old ≡ free
  pub spells : spell n (slot_image item) (λ p. []) ≡ Some fills
  pub now : new ≡ filled fills

-- free slots of items are filled with what these spell; the others stay
abbrev pub AreFilled : Spelling Record → List SlotItem → (ℕ → Known) → (ℕ → Known) → Type 0
AreFilled spell items old new =
    (n : ℕ) → (new n ≡ old n) ⊎ IsFilled spell items n (old n) (new n)

abbrev pub sure_of : (ℕ → Known) → View
sure_of known n = sure (known n)

abbrev pub perhaps_of : (ℕ → Known) → View
perhaps_of known n = perhaps (known n)
