-- The records of a run in the slots that they get.
use Rattle.std.specs.Prelude.{◌≡◌, ℕ, ◌<◌, ◌≤◌, is_some, List, length, slice_get, Some}
use Rattle.std.specs.List.{All}
use Rattle.odb_slots.specs.declared.item.SlotItem.{SlotItem}
use Rattle.odb_model.specs.declared.entry.Entry.{Entry}
use Rattle.odb_bank.specs.declared.kept.Gate.TheVariants.{Shut}
use Rattle.odb_bank.specs.declared.kept.Kept.{Kept}
use Rattle.odb_bank.specs.History.{Key, History, write_to}
use Rattle.odb_bank.specs.Records.{Record}
use Rattle.odb_bank.specs.Spelled.{item_for, FitsSlot}

-- an entry of the history by its number, with its writes in the databank
pub record IsEntryOf (h : History) (bank : ℕ) (e : Entry) : Type 0 where
  pub from : 1 ≤ e.number
  pub to : e.number ≤ h.count
  pub writes : (key : Key) → write_to bank key e.writes ≡ h.write e.number key

abbrev pub AreOf : History → ℕ → List Entry → Type 0
AreOf h bank entries = All (IsEntryOf h bank) entries

-- what memory keeps of a record behind a closed gate
abbrev pub kept_for : ℕ → Record → Kept
kept_for slot r =
    record { slot = slot; at = r.key; stamp = r.stamp; has_row = is_some r.row; gate = Shut }

-- the first so many records have their items, each in the slot at its place
pub record AreItemsFor (free : List ℕ) (records : List Record) (items : List SlotItem) (n : ℕ)
    : Type 0 where
  pub as_many : length items ≡ n
  pub each : (k f : ℕ) (r : Record) → k < n → slice_get free k ≡ Some f
      → slice_get records k ≡ Some r → (slice_get items k ≡ Some (item_for f r)) × FitsSlot r

-- and this is kept of them
pub record AreKeptFor (free : List ℕ) (records : List Record) (kept : List Kept) (n : ℕ)
    : Type 0 where
  pub as_many : length kept ≡ n
  pub each : (k f : ℕ) (r : Record) → k < n → slice_get free k ≡ Some f
      → slice_get records k ≡ Some r → slice_get kept k ≡ Some (kept_for f r)

-- the record at a place gets the slot there
pub record IsAssigned (free : List ℕ) (items : List SlotItem) (kept : List Kept) (k : ℕ)
    (r : Record) : Type 0 where
  pub slot : ℕ
  pub is_slot : slice_get free k ≡ Some slot
  pub item : slice_get items k ≡ Some (item_for slot r)
  pub keeps : slice_get kept k ≡ Some (kept_for slot r)
  pub fits : FitsSlot r

-- of the records each one
pub record AreAssigned (free : List ℕ) (records : List Record) (items : List SlotItem)
    (kept : List Kept) : Type 0 where
  pub slots : length free ≡ length records
  pub as_many : length items ≡ length records
  pub keeps : length kept ≡ length records
  pub each : (k : ℕ) (r : Record) → slice_get records k ≡ Some r → IsAssigned free items kept k r
