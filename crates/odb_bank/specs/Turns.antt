-- The steps of a turn, by what is known of each slot.
use Rattle.std.specs.Prelude.{◌≡◌, ◌⊎◌, ℕ, ◌<◌, ◌≤◌, Some, None}
use Rattle.odb_bank.specs.History.{Key, History, IsLast}
use Rattle.odb_bank.specs.Records.{Record, View}
use Rattle.odb_bank.specs.Stands.{Stands}
use Rattle.odb_bank.specs.Changes.{IsSuperseded, IsDoneMark, IsStale, IsOfRun}
use Rattle.odb_slots.specs.Between.{Between}
use Rattle.odb_bank.specs.Known.{Known, filled, either, sure, perhaps, sure_of, perhaps_of}

-- whatever is open, the file stands for the history, complete to a
abbrev pub AllStand : History → ℕ → (ℕ → Known) → Type 0
AllStand h a known =
    (view : View) → Between (sure_of known) (perhaps_of known) view → Stands h a view

-- each slot of which it isn't known if it is open is stale
abbrev pub DoubtsStale : ℕ → (ℕ → Known) → Type 0
DoubtsStale mark known =
    (n : ℕ) (r : Record) → known n ≡ either r → IsStale mark (perhaps_of known) n r

-- A slot is stale: what may be open in it has a record beside it, open on the disk, that supersedes
-- it; or it is a deletion mark that is done.
pub record IsStaleSlot (mark : ℕ) (known : ℕ → Known) (n : ℕ) : Type 0 where
  pub it : Record
  pub may_be_open : perhaps (known n) ≡ Some it
  pub stale : IsSuperseded (sure_of known) n it ⊎ IsDoneMark mark (perhaps_of known) it

-- the stale slots are closed in each image, and in the others the same is open as before
abbrev pub ClosesJustStale : ℕ → (ℕ → Known) → (ℕ → Known) → Type 0
ClosesJustStale mark old new = (n : ℕ) → (IsStaleSlot mark old n × (perhaps (new n) ≡ None))
    ⊎ ((IsStaleSlot mark old n → ⊥) × (sure (new n) ≡ sure (old n))
    × (perhaps (new n) ≡ perhaps (old n)))

-- of each slot it is known if it is open
abbrev pub IsQuiet : (ℕ → Known) → Type 0
IsQuiet known = (n : ℕ) → perhaps (known n) ≡ sure (known n)

-- of each slot outside of S
abbrev pub IsQuietBeside : (ℕ → Type 0) → (ℕ → Known) → Type 0
IsQuietBeside S known = (n : ℕ) → (S n → ⊥) → perhaps (known n) ≡ sure (known n)

-- behind its gate, which is closed or in doubt, a slot has this record
abbrev pub Waits : Known → Record → Type 0
Waits k r = (k ≡ filled r) ⊎ (k ≡ either r)

-- the slots of S hold the run from above a up to the number reached: for each key that it writes the
-- record of its last write
pub record HoldsRun (h : History) (a reached : ℕ) (S : ℕ → Type 0) (known : ℕ → Known) : Type 0 where
  pub within : reached ≤ h.count
  pub each : (n : ℕ) → S n → (r : Record) × Waits (known n) r × IsOfRun h a reached r
  pub all : (key : Key) (j : ℕ) → IsLast h reached key j → a < j
      → (n : ℕ) × (r : Record) × S n × Waits (known n) r × (r.key ≡ key) × (r.stamp ≡ j)
