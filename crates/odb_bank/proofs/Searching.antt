-- A search for damage, slot by slot.
use Rattle.std.proofs.Common.{◌≡◌, ℕ, ◌+◌, ◌<◌, List, Option, Some, None, Ok, Err, refl, subst, sym, arith}
use Rattle.std.specs.Prelude.{IfSome, ⊤}
use Rattle.odb_device.specs.World.{File, World, file_of}
use Rattle.odb_device.specs.Told.{IfTold, OnlyReads}
use Rattle.odb_device.proofs.Time.{begins, run_end, reads_then}
use Rattle.odb_slots.specs.Answers.{IsSlotOf}
use Rattle.odb_slots.specs.declared.error.SlotError.{SlotError}
use Rattle.odb_slots.specs.declared.item.SlotItem.{SlotItem}
use Rattle.odb_bank.specs.declared.error.BankError.{BankError}
use Rattle.odb_bank.specs.declared.kept.Kept.{Kept}
use Rattle.odb_bank.specs.Opening.{AreLawful}
use Rattle.odb_bank.specs.Refusals.{refusal_of}
use Rattle.odb_bank.specs.Finding.{IsKeptItem, IsItemAnswer, IsSlotChecked, IsDamageBefore}
use Rattle.odb_bank.proofs.Lawful.{lawful_more, checked_none, checked_some, checked_item, checked_refused, search_breaks}

pub if_two : (o : Option File) (P Q R : List ℕ → Type 0) → ((bytes : List ℕ) → P bytes → Q bytes → R bytes) → IfSome o (λ f. P f.bytes) → IfSome o (λ f. Q f.bytes) → IfSome o (λ f. R f.bytes)
if_two None P Q R both p q = tt
if_two (Some f) P Q R both p q = both f.bytes p q

pub if_one : (o : Option File) (P R : List ℕ → Type 0) → ((bytes : List ℕ) → P bytes → R bytes) → IfSome o (λ f. P f.bytes) → IfSome o (λ f. R f.bytes)
if_one None P R one p = tt
if_one (Some f) P R one p = one f.bytes p

pub if_all : (o : Option File) (R : List ℕ → Type 0) → ((bytes : List ℕ) → R bytes) → IfSome o (λ f. R f.bytes)
if_all None R all = tt
if_all (Some f) R all = all f.bytes

-- what is told after reads is told before
pub told_before : (file : ℕ) (first mid : World) (P : List ℕ → Type 0) → OnlyReads file first mid → IfTold file mid P → IfTold file first P
told_before file first mid P run is = subst (λ (o : Option File). IfSome o (λ f. P f.bytes)) (run_end file (λ f. f ≡ file_of file first) first mid run) is

pub told_after : (file : ℕ) (first mid : World) (P : List ℕ → Type 0) → OnlyReads file first mid → IfTold file first P → IfTold file mid P
told_after file first mid P run is = subst (λ (o : Option File). IfSome o (λ f. P f.bytes)) (sym (run_end file (λ f. f ≡ file_of file first) first mid run)) is

-- the first n slots are in order
pub record IsSearching (file number n : ℕ) (first now : World) : Type 0 where
  pub run : OnlyReads file first now
  pub lawful : IfTold file first (AreLawful number n)

pub searching_begins : (file number : ℕ) (w : World) → IsSearching file number 0 w w
searching_begins file number w = record {
  run = begins file (λ f. f ≡ file_of file w) w refl;
  lawful = if_all (file_of file w) (AreLawful number 0) (λ bytes m low bad. omega arith);
}

module _ (file number n : ℕ) (first mid now : World) (so_far : IsSearching file number n first mid) (run : OnlyReads file mid now) where
  pub searching_reads : OnlyReads file first now
  searching_reads = reads_then file first mid now so_far.run run

  pub searching_more : IfTold file mid (IsSlotChecked {T = ⊤} number n (Ok tt)) → IsSearching file number (n + 1) first now
  searching_more answer = record {
    run = searching_reads;
    lawful = if_two (file_of file first) (IsSlotChecked {T = ⊤} number n (Ok tt)) (AreLawful number n) (AreLawful number (n + 1)) (lawful_more number n)
        (told_before file first mid (IsSlotChecked {T = ⊤} number n (Ok tt)) so_far.run answer) so_far.lawful;
  }

  pub searching_breaks : (limit : ℕ) (e : BankError) → n < limit → IfTold file mid (IsSlotChecked {T = ⊤} number n (Err e)) → IfTold file first (IsDamageBefore {T = ⊤} number limit (Err e))
  searching_breaks limit e low answer =
      if_two (file_of file first) (IsSlotChecked {T = ⊤} number n (Err e)) (AreLawful number n) (IsDamageBefore {T = ⊤} number limit (Err e)) (λ bytes is l. search_breaks number n limit bytes e low is l)
      (told_before file first mid (IsSlotChecked {T = ⊤} number n (Err e)) so_far.run answer) so_far.lawful

-- one slot
pub slot_none : (o : Option File) (number n : ℕ) → IfSome o (λ f. IsSlotOf n (Ok None) f.bytes) → IfSome o (λ f. IsSlotChecked {T = ⊤} number n (Ok tt) f.bytes)
slot_none o number n answer = if_one o (IsSlotOf n (Ok None)) (IsSlotChecked {T = ⊤} number n (Ok tt)) (λ bytes a. checked_none number n bytes a) answer

pub slot_some : (o : Option File) (number n : ℕ) (item : SlotItem) (it : Kept) → IsKeptItem number item it → IfSome o (λ f. IsSlotOf n (Ok (Some item)) f.bytes) → IfSome o (λ f. IsSlotChecked {T = ⊤} number n (Ok tt) f.bytes)
slot_some o number n item it kept answer = if_one o (IsSlotOf n (Ok (Some item))) (IsSlotChecked {T = ⊤} number n (Ok tt)) (λ bytes a. checked_some number n bytes item it a kept) answer

pub slot_item : (o : Option File) (number n : ℕ) (item : SlotItem) (e : BankError) → item.slot ≡ n → IsItemAnswer number item (Err e) → IfSome o (λ f. IsSlotOf n (Ok (Some item)) f.bytes) → IfSome o (λ f. IsSlotChecked {T = ⊤} number n (Err e) f.bytes)
slot_item o number n item e slot damaged answer = if_one o (IsSlotOf n (Ok (Some item))) (IsSlotChecked {T = ⊤} number n (Err e)) (λ bytes a. checked_item number n bytes item e a slot damaged) answer

pub slot_refused : (o : Option File) (number n : ℕ) (e : SlotError) (r : BankError) → r ≡ refusal_of e → IfSome o (λ f. IsSlotOf n (Err e) f.bytes) → IfSome o (λ f. IsSlotChecked {T = ⊤} number n (Err r) f.bytes)
slot_refused o number n e r is answer =
    subst (λ (x : BankError). IfSome o (λ f. IsSlotChecked {T = ⊤} number n (Err x) f.bytes)) (sym is)
    (if_one o (IsSlotOf n (Err e)) (IsSlotChecked {T = ⊤} number n (Err (refusal_of e))) (λ bytes a. checked_refused number n bytes e a) answer)
