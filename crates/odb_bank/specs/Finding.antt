-- What the steps of an opening find.
use Rattle.std.specs.Prelude.{◌≡◌, ◌≢◌, ◌⊎◌, ℕ, ◌*◌, ◌<◌, ◌≤◌, true, false, is_some, List, length, slice_get, Option, Some, None, Result, Ok, Err}
use Rattle.std.specs.List.{All, AllPairs}
use Rattle.odb_extent.specs.Opened.{content_end}
use Rattle.odb_slots.specs.Slots.{slot_place}
use Rattle.odb_slots.specs.declared.item.SlotItem.{SlotItem}
use Rattle.odb_bank.specs.declared.error.BankError.{BankError}
use Rattle.odb_bank.specs.declared.error.BankError.TheVariants.{Fault, Damaged, NotNext, Phase as WrongPhase, Limit, NoMemory}
use Rattle.odb_bank.specs.declared.kept.Gate.TheVariants.{Open}
use Rattle.odb_bank.specs.declared.kept.Kept.{Kept}
use Rattle.odb_bank.specs.Records.{Record}
use Rattle.odb_bank.specs.Spelled.{record_in}
use Rattle.odb_bank.specs.Bank.{AreKnownBy}
use Rattle.odb_bank.specs.Opening.{is_lawful, IsDamagedSlot, AreLawful, IsLeastDamaged, IsShort, HasDamage, known_at}

-- what reading gave
abbrev pub given : {A : Type 0} → Result A ℕ → Option A
given (Ok x) = Some x
given (Err left) = None

-- what memory keeps of an open slot with this record
abbrev pub kept_of : ℕ → Record → Kept
kept_of slot r =
    record { slot = slot; at = r.key; stamp = r.stamp; has_row = is_some r.row; gate = Open }

-- the item has a record that is lawful, and this is kept of it
pub record IsKeptItem (number : ℕ) (item : SlotItem) (it : Kept) : Type 0 where
  pub its : Record
  pub spells : record_in item ≡ Some its
  pub lawful : is_lawful number (Some its) ≡ true
  pub is : it ≡ kept_of item.slot its

-- the item has none
pub record IsDamagedItem (number at : ℕ) (item : SlotItem) : Type 0 where
  pub place : at ≡ slot_place item.slot
  pub unlawful : is_lawful number (record_in item) ≡ false

abbrev pub IsItemAnswer : ℕ → SlotItem → Result Kept BankError → Type 0
IsItemAnswer number item (Ok it) = IsKeptItem number item it
IsItemAnswer number item (Err (Damaged at)) = IsDamagedItem number at item
IsItemAnswer number item (Err NoMemory) = Unit {0}
IsItemAnswer number item (Err Fault) = ⊥
IsItemAnswer number item (Err (NotNext mark first)) = ⊥
IsItemAnswer number item (Err (WrongPhase now)) = ⊥
IsItemAnswer number item (Err Limit) = ⊥

-- of each item its record is kept, at its place in the list
pub record KeepsItems (number : ℕ) (items : List SlotItem) (slots : List Kept) : Type 0 where
  pub as_many : length slots ≡ length items
  pub each : (k : ℕ) (item : SlotItem) (it : Kept) → slice_get items k ≡ Some item
      → slice_get slots k ≡ Some it → IsKeptItem number item it

-- the first so many items are lawful
abbrev pub AreLawfulItems : ℕ → ℕ → List SlotItem → Type 0
AreLawfulItems number count items = (k : ℕ) (item : SlotItem) → k < count
    → slice_get items k ≡ Some item → is_lawful number (record_in item) ≡ true

-- the first item that isn't lawful
pub record HasDamagedItem (number at : ℕ) (items : List SlotItem) : Type 0 where
  pub place : ℕ
  pub item : SlotItem
  pub is_item : slice_get items place ≡ Some item
  pub damaged : IsDamagedItem number at item
  pub before : AreLawfulItems number place items

abbrev pub AreItemsKept : ℕ → List SlotItem → Result (List Kept) BankError → Type 0
AreItemsKept number items (Ok slots) = KeepsItems number items slots
AreItemsKept number items (Err (Damaged at)) = HasDamagedItem number at items
AreItemsKept number items (Err NoMemory) = Unit {0}
AreItemsKept number items (Err Fault) = ⊥
AreItemsKept number items (Err (NotNext mark first)) = ⊥
AreItemsKept number items (Err (WrongPhase now)) = ⊥
AreItemsKept number items (Err Limit) = ⊥

-- a slot isn't damaged; or it is, and this is its place
abbrev pub IsSlotChecked : {T : Type 0} → ℕ → ℕ → Result T BankError → List ℕ → Type 0
IsSlotChecked number n (Ok done) bytes = IsDamagedSlot number n bytes → ⊥
IsSlotChecked number n (Err (Damaged at)) bytes =
    (at ≡ slot_place n) × IsDamagedSlot number n bytes
IsSlotChecked number n (Err NoMemory) bytes = Unit {0}
IsSlotChecked number n (Err Fault) bytes = Unit {0}
IsSlotChecked number n (Err (NotNext mark first)) bytes = ⊥
IsSlotChecked number n (Err (WrongPhase now)) bytes = ⊥
IsSlotChecked number n (Err Limit) bytes = ⊥

-- the place of a damaged slot
abbrev pub IsPlaceOfDamage : ℕ → ℕ → ℕ → List ℕ → Type 0
IsPlaceOfDamage number n at bytes =
    (slot : ℕ) × (at ≡ slot_place slot) × IsLeastDamaged number n bytes slot

abbrev pub IsDamageBefore : {T : Type 0} → ℕ → ℕ → Result T BankError → List ℕ → Type 0
IsDamageBefore number n (Ok done) bytes = AreLawful number n bytes
IsDamageBefore number n (Err (Damaged at)) bytes = IsPlaceOfDamage number n at bytes
IsDamageBefore number n (Err NoMemory) bytes = Unit {0}
IsDamageBefore number n (Err Fault) bytes = Unit {0}
IsDamageBefore number n (Err (NotNext mark first)) bytes = ⊥
IsDamageBefore number n (Err (WrongPhase now)) bytes = ⊥
IsDamageBefore number n (Err Limit) bytes = ⊥

-- of whatever file: slots inside the limit, ascending, with open gates
pub record AreKeptInside (limit : ℕ) (slots : List Kept) : Type 0 where
  pub inside : All (λ it. it.slot < limit) slots
  pub ascending : AllPairs (λ a c. a.slot < c.slot) slots
  pub opened : All (λ it. it.gate ≡ Open) slots

-- of whatever file: slots inside the limit, each once, with open gates
pub record AreKeptApart (limit : ℕ) (slots : List Kept) : Type 0 where
  pub inside : All (λ it. it.slot < limit) slots
  pub apart : AllPairs (λ a c. a.slot ≢ c.slot) slots
  pub opened : All (λ it. it.gate ≡ Open) slots

-- the slots of a file are in order, and this is kept of them
pub record AreSlotsOf (number limit : ℕ) (slots : List Kept) (bytes : List ℕ) : Type 0 where
  pub long : content_end limit ≤ length bytes
  pub lawful : AreLawful number (1024 * limit) bytes
  pub known : AreKnownBy slots (known_at (1024 * limit) bytes)

abbrev pub IsSlotsAnswer : ℕ → ℕ → Result (List Kept) BankError → List ℕ → Type 0
IsSlotsAnswer number limit (Ok slots) bytes = AreSlotsOf number limit slots bytes
IsSlotsAnswer number limit (Err (Damaged at)) bytes =
    IsShort at limit bytes ⊎ HasDamage number at limit bytes
IsSlotsAnswer number limit (Err NoMemory) bytes = Unit {0}
IsSlotsAnswer number limit (Err Fault) bytes = Unit {0}
IsSlotsAnswer number limit (Err (NotNext mark first)) bytes = ⊥
IsSlotsAnswer number limit (Err (WrongPhase now)) bytes = ⊥
IsSlotsAnswer number limit (Err Limit) bytes = ⊥

abbrev pub IsSlotsRefusal : {T : Type 0} → Result T BankError → Type 0
IsSlotsRefusal (Ok done) = Unit {0}
IsSlotsRefusal (Err (Damaged at)) = Unit {0}
IsSlotsRefusal (Err NoMemory) = Unit {0}
IsSlotsRefusal (Err Fault) = Unit {0}
IsSlotsRefusal (Err (NotNext mark first)) = ⊥
IsSlotsRefusal (Err (WrongPhase now)) = ⊥
IsSlotsRefusal (Err Limit) = ⊥
