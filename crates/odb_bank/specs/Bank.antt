-- A databank file in memory, and the bytes of its file.
use Rattle.std.specs.Prelude.{◌≡◌, ◌≢◌, ◌⊎◌, ℕ, ◌*◌, ◌<◌, ◌≤◌, is_some, List, slice_get, Option, Some, IfSome}
use Rattle.std.specs.List.{All, AllPairs}
use Rattle.odb_device.specs.World.{File}
use Rattle.odb_device.specs.Images.{IsImage}
use Rattle.odb_extent.specs.Standing.{ExtentState, limit_of, limit_tried, fields_of, fields_tried, IsFileOf as IsExtentFile}
use Rattle.odb_slots.specs.Sets.{IsOneOf}
use Rattle.odb_bank.specs.declared.kept.Gate.{Gate}
use Rattle.odb_bank.specs.declared.kept.Gate.TheVariants.{Shut, Open, Doubtful}
use Rattle.odb_bank.specs.declared.kept.Kept.{Kept}
use Rattle.odb_bank.specs.declared.phase.Phase.{Phase}
use Rattle.odb_bank.specs.declared.phase.Phase.TheVariants.{Idle, Bodies, Gates}
use Rattle.odb_bank.specs.History.{Row, History}
use Rattle.odb_bank.specs.Records.{Record}
use Rattle.odb_bank.specs.Stands.{Stands as Stand}
use Rattle.odb_bank.specs.Known.{Known, free, filled, held, either, sure_of, perhaps_of, IsFileOf}
use Rattle.odb_bank.specs.Turns.{AllStand, DoubtsStale, IsQuiet, IsQuietBeside, HoldsRun}
use Rattle.odb_bank.specs.Spelled.{record_of_slot}
use Rattle.odb_bank.specs.Fields.{bank_image}
use Rattle.odb_bank.specs.Files.{StandsAt}

-- Its extents, the number of its databank, the mark kept, the number that the run reaches, the phase
-- of its turn, the slots of the run, and what memory keeps of each slot that isn't free.
pub record BankState : Type 0 where
  pub extents : ExtentState
  pub bank : ℕ
  pub mark : ℕ
  pub reached : ℕ
  pub phase : Phase
  pub run : List ℕ
  pub slots : List Kept

-- the number of its file, and how many slots that has
abbrev pub file_number : BankState → ℕ
file_number b = b.extents.pair.file

abbrev pub slot_limit : BankState → ℕ
slot_limit b = 1024 * limit_of b.extents

-- the record of a slot with this row, and what is known of the slot with it
abbrev pub record_by : Kept → Option Row → Record
record_by it row = record { key = it.at; row = row; stamp = it.stamp }

abbrev pub known_by : Gate → Record → Known
known_by Shut r = filled r
known_by Open r = held r
known_by Doubtful r = either r

-- with some row, that memory doesn't keep, this is known of a slot
pub record IsKnownBy (it : Kept) (known : Known) : Type 0 where
  pub row : Option Row
  pub has_row : is_some row ≡ it.has_row
  pub is : known ≡ known_by it.gate (record_by it row)

-- what is known of each slot is what memory keeps of it; slots of which it keeps nothing are free
pub record AreKnownBy (slots : List Kept) (known : ℕ → Known) : Type 0 where
  pub each : (k : ℕ) (it : Kept) → slice_get slots k ≡ Some it → IsKnownBy it (known it.slot)
  pub others : (n : ℕ) → ((k : ℕ) (it : Kept) → slice_get slots k ≡ Some it → it.slot ≢ n)
      → known n ≡ free

-- the bytes are those of its extents, and in them this is known of each slot
pub record IsBankFile (b : BankState) (known : ℕ → Known) (bytes : List ℕ) : Type 0 where
  pub extents : IsExtentFile b.extents bytes
  pub slots : IsFileOf record_of_slot (slot_limit b) known bytes

-- this is known of its slots, whatever a crash leaves of the file
pub record IsKnownIn (b : BankState) (known : ℕ → Known) (f : File) : Type 0 where
  pub kept : AreKnownBy b.slots known
  pub images : (image : List ℕ) → IsImage f image → IsBankFile b known image

-- each image of the file is one of the bank's, where the file is told
abbrev pub Stands : BankState → Option File → Type 0
Stands b file = IfSome file (λ f. (known : ℕ → Known) × IsKnownIn b known f)

-- What is known stands for the history. Between turns it does so complete to the mark, and just
-- stale slots are in doubt; with a run in its slots it does without the run; with the run's gates
-- open it does, complete to the mark and to the number reached.
abbrev pub StandsInPhase : History → BankState → Phase → (ℕ → Known) → Type 0
StandsInPhase h b Idle known = Stand h b.mark (perhaps_of known) × DoubtsStale b.mark known
StandsInPhase h b Bodies known = Stand h b.mark (sure_of known)
    × HoldsRun h b.mark b.reached (IsOneOf b.run) known × IsQuietBeside (IsOneOf b.run) known
StandsInPhase h b Gates known =
    AllStand h b.mark known × AllStand h b.reached known × IsQuiet known

-- An image stands for the history, complete to the mark that it holds: the one kept, or with the
-- run's gates open the number reached.
abbrev pub StandsByMark : History → BankState → List ℕ → Type 0
StandsByMark h b image = StandsAt b.bank h b.mark image
    ⊎ ((b.phase ≡ Gates) × StandsAt b.bank h b.reached image)

-- Each image of the file is one of the bank's and stands for the history by the mark that it holds,
-- and what is known of it stands for the history, as the phase says.
pub record IsStandingFor (h : History) (b : BankState) (f : File) : Type 0 where
  pub known : ℕ → Known
  pub is_known : IsKnownIn b known f
  pub low : b.mark ≤ b.reached
  pub within : b.reached ≤ h.count
  pub stands : StandsInPhase h b b.phase known
  pub images : (image : List ℕ) → IsImage f image → StandsByMark h b image

-- it is so, where the file is told
abbrev pub StandsFor : History → BankState → Option File → Type 0
StandsFor h b file = IfSome file (IsStandingFor h b)

-- what a crash may leave besides is the fields kept, or with the run's gates open the mark that it
-- reaches
abbrev pub TriesMark : BankState → Phase → Type 0
TriesMark b Idle = fields_tried b.extents ≡ bank_image b.bank b.mark
TriesMark b Bodies = fields_tried b.extents ≡ bank_image b.bank b.mark
TriesMark b Gates = (fields_tried b.extents ≡ bank_image b.bank b.mark)
    ⊎ (fields_tried b.extents ≡ bank_image b.bank b.reached)

-- a slot of which memory keeps something
abbrev pub IsUsed : List Kept → ℕ → Type 0
IsUsed slots n = (k : ℕ) × (it : Kept) × (slice_get slots k ≡ Some it) × (it.slot ≡ n)

-- a gate that is closed is one of the run, of which memory keeps each slot
abbrev pub KeepsRun : BankState → Phase → Type 0
KeepsRun b Idle = All (λ it. it.gate ≢ Shut) b.slots
KeepsRun b Bodies = ((n : ℕ) → IsOneOf b.run n → IsUsed b.slots n)
    × All (λ it. it.gate ≡ Shut → IsOneOf b.run it.slot) b.slots
KeepsRun b Gates = All (λ it. it.gate ≢ Shut) b.slots

-- The pair of the file keeps the number of the databank and the mark, what memory keeps are slots
-- inside the limit, each once, and those of the run ascend.
pub record IsSound (file : ℕ) (b : BankState) : Type 0 where
  pub number : file_number b ≡ file
  pub most : b.extents.most ≡ 4096
  pub high : limit_of b.extents ≤ 4096
  pub fields : fields_of b.extents ≡ bank_image b.bank b.mark
  pub tried : TriesMark b b.phase
  pub limits : limit_of b.extents ≤ limit_tried b.extents
  pub reached : b.mark ≤ b.reached
  pub inside : All (λ it. it.slot < slot_limit b) b.slots
  pub apart : AllPairs (λ a c. a.slot ≢ c.slot) b.slots
  pub run_inside : All (λ n. n < slot_limit b) b.run
  pub run_ascending : AllPairs (λ a c. a < c) b.run
  pub run_kept : KeepsRun b b.phase
