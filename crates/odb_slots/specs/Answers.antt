-- What reading slots answers.
use Rattle.std.specs.Prelude.{◌≡◌, ℕ, ◌<◌, List, Option, Result, Ok, Err}
use Rattle.std.specs.List.{All, AllPairs}
use Rattle.odb_slots.specs.Slots.{gate_at, behind}
use Rattle.odb_slots.specs.Bodies.{IsInGrammar}
use Rattle.odb_slots.specs.Views.{item_of, spelled, records_in, IsBad, IsMalformed}
use Rattle.odb_slots.specs.declared.error.SlotError.{SlotError}
use Rattle.odb_slots.specs.declared.error.SlotError.TheVariants.{Fault, Malformed, NoMemory}
use Rattle.odb_slots.specs.declared.item.SlotItem.{SlotItem}

-- of a slot with this gate, behind which this is spelled: what counts, or the slot as malformed. A
-- fault may come of any bytes, and so may want of memory
abbrev pub IsAnswer : ℕ → ℕ → Option SlotItem → Result (Option SlotItem) SlotError → Type 0
IsAnswer slot gate it (Ok found) = (IsBad gate it → ⊥) × (found ≡ behind gate it)
IsAnswer slot gate it (Err (Malformed at)) = (at ≡ slot) × IsBad gate it
IsAnswer slot gate it (Err Fault) = Unit {0}
IsAnswer slot gate it (Err NoMemory) = Unit {0}

-- the same of the file's bytes
abbrev pub IsSlotOf : ℕ → Result (Option SlotItem) SlotError → List ℕ → Type 0
IsSlotOf slot result bytes = IsAnswer slot (gate_at slot bytes) (spelled item_of slot bytes) result

-- of whatever file, an item that is read for a slot
pub record IsItemOf (slot : ℕ) (item : SlotItem) : Type 0 where
  pub is_at : item.slot ≡ slot
  pub grammar : IsInGrammar item

-- none of the first n slots is malformed
abbrev pub AreWellFormed : ℕ → List ℕ → Type 0
AreWellFormed n bytes = (m : ℕ) → m < n → IsMalformed m bytes → ⊥

-- the items are the records of the first n slots, all of which are in order
pub record AreRecords (n : ℕ) (bytes : List ℕ) (items : List SlotItem) : Type 0 where
  pub well_formed : AreWellFormed n bytes
  pub list : items ≡ records_in n bytes

-- of the first n slots this is the least malformed one
pub record IsLeastMalformed (n : ℕ) (bytes : List ℕ) (slot : ℕ) : Type 0 where
  pub inside : slot < n
  pub is : IsMalformed slot bytes
  pub least : AreWellFormed slot bytes

-- The records of the first n slots, or the least malformed one of these. A fault may come of any
-- bytes, and so may want of memory
abbrev pub IsScanOf : ℕ → Result (List SlotItem) SlotError → List ℕ → Type 0
IsScanOf n (Ok items) bytes = AreRecords n bytes items
IsScanOf n (Err (Malformed slot)) bytes = IsLeastMalformed n bytes slot
IsScanOf n (Err Fault) bytes = Unit {0}
IsScanOf n (Err NoMemory) bytes = Unit {0}

-- of whatever file, items that are read from the first n slots
pub record AreItems (n : ℕ) (items : List SlotItem) : Type 0 where
  pub inside : All (λ item. item.slot < n) items
  pub ascending : AllPairs (λ a b. a.slot < b.slot) items
  pub grammar : All IsInGrammar items

-- the same of a part of the way, where the items so far are these
abbrev pub IsPieceOf : {T : Type 0} → ℕ → List ℕ → List SlotItem → Result T SlotError → Type 0
IsPieceOf n bytes items (Ok done) = AreRecords n bytes items
IsPieceOf n bytes items (Err (Malformed slot)) = IsLeastMalformed n bytes slot
IsPieceOf n bytes items (Err Fault) = Unit {0}
IsPieceOf n bytes items (Err NoMemory) = Unit {0}
