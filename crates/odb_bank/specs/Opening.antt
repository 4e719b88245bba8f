-- When a databank file is in order, and where it isn't.
use Rattle.std.specs.Prelude.{◌≡◌, ◌⊎◌, ℕ, ◌*◌, ◌<◌, ◌≤◌, Bool, false, List, [], length, Option, Some, None, Result, Ok, Err}
use Rattle.std.specs.List.{All}
use Rattle.std.specs.Int.{is_in_range}
use Rattle.odb_extent.specs.Opened.{content_end, Holds}
use Rattle.odb_extent.specs.Standing.{limit_of, IsSettled}
use Rattle.odb_slots.specs.Slots.{OPEN, slot_place, gate_at}
use Rattle.odb_slots.specs.Views.{spelled, view_by}
use Rattle.odb_bank.specs.declared.error.BankError.{BankError}
use Rattle.odb_bank.specs.declared.error.BankError.TheVariants.{Fault, Damaged, NotNext, Phase as WrongPhase, Limit, NoMemory}
use Rattle.odb_bank.specs.declared.kept.Gate.TheVariants.{Open}
use Rattle.odb_bank.specs.declared.phase.Phase.TheVariants.{Idle}
use Rattle.odb_bank.specs.Records.{Record}
use Rattle.odb_bank.specs.Spelled.{record_of_slot}
use Rattle.odb_bank.specs.Fields.{bank_image}
use Rattle.odb_bank.specs.Known.{Known, free, held}
use Rattle.odb_bank.specs.Bank.{BankState, file_number, slot_limit, AreKnownBy}

-- the pair keeps a limit from 1 to 4,096 and the fields of this databank, with a mark of at most the
-- number
pub record HasHead (bank number limit mark : ℕ) (bytes : List ℕ) : Type 0 where
  pub holds : Holds 4096 limit (bank_image bank mark) bytes
  pub not_above : mark ≤ number

-- a record whose stamp is from 1 to the number
abbrev pub is_lawful : ℕ → Option Record → Bool
is_lawful number None = false
is_lawful number (Some r) = is_in_range 1 number r.stamp

-- the slot is open, and what it spells is no such record
abbrev pub IsDamagedSlot : ℕ → ℕ → List ℕ → Type 0
IsDamagedSlot number n bytes =
    (gate_at n bytes ≡ OPEN) × (is_lawful number (spelled record_of_slot n bytes) ≡ false)

-- none of the first n slots is so
abbrev pub AreLawful : ℕ → ℕ → List ℕ → Type 0
AreLawful number n bytes = (m : ℕ) → m < n → IsDamagedSlot number m bytes → ⊥

-- of the first n slots this is the least one that is so
pub record IsLeastDamaged (number n : ℕ) (bytes : List ℕ) (slot : ℕ) : Type 0 where
  pub inside : slot < n
  pub damaged : IsDamagedSlot number slot bytes
  pub least : AreLawful number slot bytes

-- The file is in order: head, length and each open slot
pub record IsInOrder (bank number limit mark : ℕ) (bytes : List ℕ) : Type 0 where
  pub head : HasHead bank number limit mark bytes
  pub long : content_end limit ≤ length bytes
  pub slots : AreLawful number (1024 * limit) bytes

-- The file is damaged at 0 where it has no head; else at its length, where that is less than its
-- limit says; else where the least damaged slot begins
abbrev pub IsShort : ℕ → ℕ → List ℕ → Type 0
IsShort at limit bytes = (at ≡ length bytes) × (length bytes < content_end limit)

pub record HasDamage (number at limit : ℕ) (bytes : List ℕ) : Type 0 where
  pub long : content_end limit ≤ length bytes
  pub slot : ℕ
  pub is : at ≡ slot_place slot
  pub least : IsLeastDamaged number (1024 * limit) bytes slot

abbrev pub IsDamagedAt : ℕ → ℕ → ℕ → List ℕ → Type 0
IsDamagedAt bank number at bytes =
    ((at ≡ 0) × ((limit mark : ℕ) → HasHead bank number limit mark bytes → ⊥))
    ⊎ ((limit : ℕ) × (mark : ℕ) × HasHead bank number limit mark bytes
    × (IsShort at limit bytes ⊎ HasDamage number at limit bytes))

-- what is known of a slot of a file that is all on the disk
abbrev pub held_or_free : Option Record → Known
held_or_free None = free
held_or_free (Some r) = held r

abbrev pub known_at : ℕ → List ℕ → ℕ → Known
known_at limit bytes n = held_or_free (view_by record_of_slot limit bytes n)

-- the file is in order, with the limit and the mark that are kept; and memory keeps of each open slot
-- just the record that its bytes spell
pub record IsBankOf (bank number : ℕ) (b : BankState) (bytes : List ℕ) : Type 0 where
  pub in_order : IsInOrder bank number (limit_of b.extents) b.mark bytes
  pub known : AreKnownBy b.slots (known_at (slot_limit b) bytes)

-- what `open` answers of the file's bytes; a fault may come of any, and so may want of memory
abbrev pub IsOpening : ℕ → ℕ → Result BankState BankError → List ℕ → Type 0
IsOpening bank number (Ok b) bytes = IsBankOf bank number b bytes
IsOpening bank number (Err (Damaged at)) bytes = IsDamagedAt bank number at bytes
IsOpening bank number (Err Fault) bytes = Unit {0}
IsOpening bank number (Err NoMemory) bytes = Unit {0}
IsOpening bank number (Err (NotNext mark first)) bytes = ⊥
IsOpening bank number (Err (WrongPhase now)) bytes = ⊥
IsOpening bank number (Err Limit) bytes = ⊥

-- of whatever file: the bank of this number and file, between turns, with a mark of at most the
-- number; of which a crash leaves nothing but what is kept, and no gate is in doubt
pub record IsOpened (file bank number : ℕ) (b : BankState) : Type 0 where
  pub of_file : file_number b ≡ file
  pub of_bank : b.bank ≡ bank
  pub idle : b.phase ≡ Idle
  pub reached : b.reached ≡ b.mark
  pub not_above : b.mark ≤ number
  pub settled : IsSettled b.extents
  pub no_run : b.run ≡ []
  pub gates_open : All (λ it. it.gate ≡ Open) b.slots

-- the refusals of `open`
abbrev pub IsOpenRefusal : Result BankState BankError → Type 0
IsOpenRefusal (Ok b) = Unit {0}
IsOpenRefusal (Err (Damaged at)) = Unit {0}
IsOpenRefusal (Err Fault) = Unit {0}
IsOpenRefusal (Err NoMemory) = Unit {0}
IsOpenRefusal (Err (NotNext mark first)) = ⊥
IsOpenRefusal (Err (WrongPhase now)) = ⊥
IsOpenRefusal (Err Limit) = ⊥
