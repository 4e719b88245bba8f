-- What a turn closes, and what it has room for.
use Rattle.std.specs.Prelude.{◌≡◌, ◌⊎◌, ℕ, ◌+◌, ◌<◌, ◌≤◌, Bool, true, false, not, ◌&&◌, ◌||◌, ◌==◌, nat_lt, nat_le, List, length, map, None}
use Rattle.std.specs.List.{filter, list_any}
use Rattle.odb_model.specs.declared.entry.Entry.{Entry}
use Rattle.odb_bank.specs.declared.kept.Gate.{Gate}
use Rattle.odb_bank.specs.declared.kept.Gate.TheVariants.{Shut, Open, Doubtful}
use Rattle.odb_bank.specs.declared.kept.Kept.{Kept}
use Rattle.odb_bank.specs.History.{is_key}
use Rattle.odb_bank.specs.Records.{Record}
use Rattle.odb_bank.specs.Known.{Known, either, sure, perhaps}
use Rattle.odb_bank.specs.Turns.{IsStaleSlot}
use Rattle.odb_bank.specs.Bank.{BankState}
use Rattle.odb_bank.specs.Latest.{AreLatest}

-- of one key, the one has a greater stamp than the other, or an equal one and a lower slot
abbrev pub supersedes : Kept → Kept → Bool
supersedes by it = is_key by.at it.at
    && (nat_lt it.stamp by.stamp || (by.stamp == it.stamp && nat_lt by.slot it.slot))

abbrev pub is_older : Kept → Kept → Bool
is_older other it = is_key other.at it.at && nat_lt other.stamp it.stamp

abbrev pub is_open : Gate → Bool
is_open Open = true
is_open Shut = false
is_open Doubtful = false

abbrev pub is_doubtful : Gate → Bool
is_doubtful Open = false
is_doubtful Shut = false
is_doubtful Doubtful = true

-- the stale slots, by what memory keeps: one that is open on the disk supersedes it, or it is a
-- deletion mark of at most the mark and there is none older of its key
abbrev pub is_stale : ℕ → List Kept → Kept → Bool
is_stale mark slots it = list_any (λ by. is_open by.gate && supersedes by it) slots
    || (not it.has_row && nat_le it.stamp mark
    && not (list_any (λ other. is_older other it) slots))

-- a turn closes those, and those in doubt, whose closing was begun
abbrev pub is_closing : ℕ → List Kept → Kept → Bool
is_closing mark slots it = is_doubtful it.gate || is_stale mark slots it

abbrev pub closing_of : BankState → List ℕ
closing_of b = map (λ it. it.slot) (filter (is_closing b.mark b.slots) b.slots)

abbrev pub staying_of : BankState → List Kept
staying_of b = filter (λ it. not (is_closing b.mark b.slots it)) b.slots

-- A slot that a turn closes: it is stale, or its closing was begun and isn't known to be on the disk.
-- On a file that stands for a history the second is stale, too
abbrev pub IsToClose : ℕ → (ℕ → Known) → ℕ → Type 0
IsToClose mark known n = IsStaleSlot mark known n ⊎ ((r : Record) × (known n ≡ either r))

-- those are closed in each image, and in the others the same is open as before
abbrev pub ClosesJust : ℕ → (ℕ → Known) → (ℕ → Known) → Type 0
ClosesJust mark old new = (n : ℕ) → (IsToClose mark old n × (perhaps (new n) ≡ None))
    ⊎ ((IsToClose mark old n → ⊥) × (sure (new n) ≡ sure (old n))
    × (perhaps (new n) ≡ perhaps (old n)))

-- with all extents that may be added there is a slot for the last write of each key, or there isn't
abbrev pub HasRoomFor : BankState → List Entry → Type 0
HasRoomFor b entries = (records : List Record) × AreLatest b.bank entries records
    × (length (staying_of b) + length records ≤ 4194304)

abbrev pub LacksRoomFor : BankState → List Entry → Type 0
LacksRoomFor b entries = (records : List Record) × AreLatest b.bank entries records
    × (4194304 < length (staying_of b) + length records)
