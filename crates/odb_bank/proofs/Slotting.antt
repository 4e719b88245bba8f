-- What an opening finds of the slots of a file.
use Rattle.std.proofs.Common.{◌≡◌, inl, inr, ℕ, ◌*◌, ◌<◌, ◌≤◌, List, length, Option, Some, None, Result, Ok, Err, sym, subst, arith}
use Rattle.std.specs.Prelude.{IfSome, IfOk, ⊤}
use Rattle.odb_device.specs.World.{File}
use Rattle.odb_device.specs.Calls.{HasLength}
use Rattle.odb_slots.specs.Slots.{slot_place}
use Rattle.odb_slots.specs.Answers.{IsScanOf, AreRecords, AreItems}
use Rattle.odb_slots.specs.declared.error.SlotError.TheVariants.{Malformed}
use Rattle.odb_slots.specs.declared.item.SlotItem.{SlotItem}
use Rattle.odb_bank.specs.declared.error.BankError.{BankError}
use Rattle.odb_bank.specs.declared.error.BankError.TheVariants.{Fault, Damaged, NotNext, Phase as WrongPhase, Limit, NoMemory}
use Rattle.odb_bank.specs.declared.kept.Kept.{Kept}
use Rattle.odb_bank.specs.Finding.{AreItemsKept, IsDamageBefore, IsPlaceOfDamage, IsSlotsAnswer, AreKeptInside}
use Rattle.odb_bank.proofs.Lawful.{items_lawful, items_known, items_damaged, least_malformed, damage_widens, kept_inside}
use Rattle.odb_bank.proofs.Searching.{if_two}

-- the file has its slots
abbrev pub HasSlots : ℕ → List ℕ → Type 0
HasSlots limit bytes = slot_place (1024 * limit) ≤ length bytes

-- by its length
pub long_told : (o : Option File) (limit n : ℕ) → HasLength o n → slot_place (1024 * limit) ≤ n → IfSome o (λ f. HasSlots limit f.bytes)
long_told None limit n is low = tt
long_told (Some f) limit n is low = omega (arith, is)

pub short_told : (o : Option File) (number limit n : ℕ) → HasLength o n → n < slot_place (1024 * limit) → IfSome o (λ f. IsSlotsAnswer number limit (Err (Damaged n)) f.bytes)
short_told None number limit n is low = tt
short_told (Some f) number limit n is low = inl (is, omega (arith, is))

place_damage : (number limit at : ℕ) (bytes : List ℕ) → HasSlots limit bytes → IsPlaceOfDamage number (1024 * limit) at bytes → IsSlotsAnswer number limit (Err (Damaged at)) bytes
place_damage number limit at bytes long is = inr (record { long = omega arith; slot = is.0; is = is.1; least = is.2 })

-- by the items of a scan
items_answer : (number limit : ℕ) (items : List SlotItem) (result : Result (List Kept) BankError) (bytes : List ℕ) → HasSlots limit bytes → AreItems (1024 * limit) items → AreItemsKept number items result
    → AreRecords (1024 * limit) bytes items → IsSlotsAnswer number limit result bytes
items_answer number limit items (Ok slots) bytes long sound kept are = record {
  long = omega arith;
  lawful = items_lawful number (1024 * limit) bytes items are slots kept;
  known = items_known number (1024 * limit) bytes items are slots kept;
}
items_answer number limit items (Err Fault) bytes long sound kept are = absurd kept
items_answer number limit items (Err (Damaged at)) bytes long sound kept are = place_damage number limit at bytes long (items_damaged number (1024 * limit) bytes items are at sound.ascending kept)
items_answer number limit items (Err (NotNext mark first)) bytes long sound kept are = absurd kept
items_answer number limit items (Err (WrongPhase now)) bytes long sound kept are = absurd kept
items_answer number limit items (Err Limit) bytes long sound kept are = absurd kept
items_answer number limit items (Err NoMemory) bytes long sound kept are = tt

pub items_told : (o : Option File) (number limit : ℕ) (items : List SlotItem) (result : Result (List Kept) BankError) → IfSome o (λ f. HasSlots limit f.bytes) → AreItems (1024 * limit) items
    → AreItemsKept number items result → IfSome o (λ f. IsScanOf (1024 * limit) (Ok items) f.bytes) → IfSome o (λ f. IsSlotsAnswer number limit result f.bytes)
items_told o number limit items result long sound kept scan =
    if_two o (HasSlots limit) (IsScanOf (1024 * limit) (Ok items)) (IsSlotsAnswer number limit result) (λ bytes l are. items_answer number limit items result bytes l sound kept are) long scan

pub items_inside : (number limit : ℕ) (items : List SlotItem) (slots : List Kept) → AreItems (1024 * limit) items → AreItemsKept number items (Ok slots) → AreKeptInside (1024 * limit) slots
items_inside number limit items slots sound kept = kept_inside (1024 * limit) number items slots sound kept

-- by a slot that isn't in the grammar, and those before it
malformed_answer : (number limit slot searched at : ℕ) (bytes : List ℕ) → (slot < 1024 * limit → searched ≡ slot) → at ≡ slot_place slot → HasSlots limit bytes → IsScanOf (1024 * limit) (Err (Malformed slot)) bytes
    → IsDamageBefore {T = ⊤} number searched (Ok tt) bytes → IsSlotsAnswer number limit (Err (Damaged at)) bytes
malformed_answer number limit slot searched at bytes all place long is lawful =
    let same : searched ≡ slot = all is.inside in
    place_damage number limit at bytes long
    (subst (λ (p : ℕ). IsPlaceOfDamage number (1024 * limit) p bytes) (sym place)
    (least_malformed number (1024 * limit) slot bytes is (λ m low. lawful m (omega arith))))

pub malformed_told : (o : Option File) (number limit slot searched at : ℕ) → (slot < 1024 * limit → searched ≡ slot) → at ≡ slot_place slot → IfSome o (λ f. HasSlots limit f.bytes)
    → IfSome o (λ f. IsScanOf (1024 * limit) (Err (Malformed slot)) f.bytes) → IfSome o (λ f. IsDamageBefore {T = ⊤} number searched (Ok tt) f.bytes)
    → IfSome o (λ f. IsSlotsAnswer number limit (Err (Damaged at)) f.bytes)
malformed_told None number limit slot searched at all place long scan lawful = tt
malformed_told (Some f) number limit slot searched at all place long scan lawful = malformed_answer number limit slot searched at f.bytes all place long scan lawful

before_answer : (number limit searched : ℕ) (e : BankError) (bytes : List ℕ) → searched ≤ 1024 * limit → HasSlots limit bytes → IsDamageBefore {T = ⊤} number searched (Err e) bytes → IsSlotsAnswer number limit (Err e) bytes
before_answer number limit searched Fault bytes low long is = tt
before_answer number limit searched (Damaged at) bytes low long is = place_damage number limit at bytes long (damage_widens number searched (1024 * limit) at bytes low is)
before_answer number limit searched (NotNext mark first) bytes low long is = absurd is
before_answer number limit searched (WrongPhase now) bytes low long is = absurd is
before_answer number limit searched Limit bytes low long is = absurd is
before_answer number limit searched NoMemory bytes low long is = tt

pub before_told : (o : Option File) (number limit searched : ℕ) (e : BankError) → searched ≤ 1024 * limit → IfSome o (λ f. HasSlots limit f.bytes) → IfSome o (λ f. IsDamageBefore {T = ⊤} number searched (Err e) f.bytes)
    → IfSome o (λ f. IsSlotsAnswer number limit (Err e) f.bytes)
before_told o number limit searched e low long is =
    if_two o (HasSlots limit) (IsDamageBefore {T = ⊤} number searched (Err e)) (IsSlotsAnswer number limit (Err e)) (λ bytes l d. before_answer number limit searched e bytes low l d) long is

pub items_sound : (number limit : ℕ) (items : List SlotItem) (result : Result (List Kept) BankError) → AreItems (1024 * limit) items → AreItemsKept number items result → IfOk result (AreKeptInside (1024 * limit))
items_sound number limit items (Ok slots) sound kept = items_inside number limit items slots sound kept
items_sound number limit items (Err e) sound kept = tt
