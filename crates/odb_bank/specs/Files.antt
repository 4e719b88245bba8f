-- When the bytes of a file stand for a history.
use Rattle.std.specs.Prelude.{ℕ, ◌*◌, ◌^◌, ◌<◌, ◌≤◌, List}
use Rattle.odb_slots.specs.Slots.{gate_at}
use Rattle.odb_slots.specs.Views.{Spelling, spelled, view_by, IsBad}
use Rattle.odb_slots.specs.Between.{IsLong}
use Rattle.odb_extent.specs.Opened.{Holds}
use Rattle.odb_extent.specs.Standing.{IsNew}
use Rattle.odb_bank.specs.History.{History}
use Rattle.odb_bank.specs.Records.{Record}
use Rattle.odb_bank.specs.Stands.{Stands}
use Rattle.odb_bank.specs.Spelled.{record_of_slot}
use Rattle.odb_bank.specs.Fields.{bank_image}

-- each open slot inside the limit spells a record
abbrev pub EachSpells : Spelling Record → ℕ → List ℕ → Type 0
EachSpells spell limit bytes =
    (n : ℕ) → n < limit → IsBad (gate_at n bytes) (spelled spell n bytes) → ⊥

-- Inside a limit in slots, each open slot of the bytes spells a record, and these records stand for
-- the history, complete to a.
pub record StandsIn (spell : Spelling Record) (h : History) (a limit : ℕ) (bytes : List ℕ)
    : Type 0 where
  pub long : IsLong limit bytes
  pub spells : EachSpells spell limit bytes
  pub stands : Stands h a (view_by spell limit bytes)

-- The bytes are a file of this databank with this mark, and stand for the history, complete to the
-- mark.
pub record StandsAt (bank : ℕ) (h : History) (mark : ℕ) (bytes : List ℕ) : Type 0 where
  pub small : mark < 2 ^ 64
  pub within : mark ≤ h.count
  pub limit : ℕ
  pub holds : Holds 4096 limit (bank_image bank mark) bytes
  pub stands : StandsIn record_of_slot h mark (1024 * limit) bytes

-- with the mark that they hold
abbrev pub StandsAtMark : ℕ → History → List ℕ → Type 0
StandsAtMark bank h bytes = (mark : ℕ) × StandsAt bank h mark bytes

-- a new file: one extent of zeros, under the fields of this databank and this mark
abbrev pub IsNewFile : ℕ → ℕ → List ℕ → Type 0
IsNewFile bank mark = IsNew 4096 (bank_image bank mark)
