-- Which of what memory keeps is the record of a key.
use Rattle.std.specs.Prelude.{◌≡◌, ℕ, ◌<◌, ◌≤◌, Bool, nat_lt, ◌==◌, ◌&&◌, ◌||◌, List, slice_get, Option, Some, None}
use Rattle.odb_values.specs.declared.value.Value.{Value}
use Rattle.odb_slots.specs.Slots.{OPEN, gate_at}
use Rattle.odb_slots.specs.Views.{spelled}
use Rattle.odb_bank.specs.declared.kept.Gate.TheVariants.{Open}
use Rattle.odb_bank.specs.declared.kept.Kept.{Kept}
use Rattle.odb_bank.specs.History.{Key}
use Rattle.odb_bank.specs.Records.{Record}
use Rattle.odb_bank.specs.Spelled.{record_of_slot}

-- it is of the key, and open on the disk
abbrev pub IsFor : Key → Kept → Type 0
IsFor key it = (it.gate ≡ Open) × (it.at ≡ key)

-- Of the first n, what is kept at this place is of the key; none of the others has a greater stamp,
-- or the same and a lower slot.
pub record IsBestAt (key : Key) (slots : List Kept) (n place : ℕ) (it : Kept) : Type 0 where
  pub below : place < n
  pub is_it : slice_get slots place ≡ Some it
  pub its : IsFor key it
  pub none_above : (k : ℕ) (other : Kept) → k < n → slice_get slots k ≡ Some other
      → IsFor key other → other.stamp ≤ it.stamp
  pub least : (k : ℕ) (other : Kept) → k < n → slice_get slots k ≡ Some other
      → IsFor key other → other.stamp ≡ it.stamp → it.slot ≤ other.slot

-- such a place; or there is none
abbrev pub IsBest : Key → List Kept → ℕ → Option ℕ → Type 0
IsBest key slots n None =
    (k : ℕ) (it : Kept) → k < n → slice_get slots k ≡ Some it → IsFor key it → ⊥
IsBest key slots n (Some place) = (it : Kept) × IsBestAt key slots n place it

-- it has a greater stamp than the one so far, or the same and a lower slot
abbrev pub is_better : Kept → Kept → Bool
is_better so_far it =
    nat_lt so_far.stamp it.stamp || (so_far.stamp == it.stamp && nat_lt it.slot so_far.slot)

-- the slot is open, and its record has this row
pub record HasRowAt (slot : ℕ) (row : List Value) (bytes : List ℕ) : Type 0 where
  pub is_open : gate_at slot bytes ≡ OPEN
  pub its : Record
  pub spells : spelled record_of_slot slot bytes ≡ Some its
  pub has : its.row ≡ Some row
