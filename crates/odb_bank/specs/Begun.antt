-- What beginning a turn answers, and what it leaves.
use Rattle.std.specs.Prelude.{◌≡◌, ◌≢◌, ◌⊎◌, ℕ, ◌+◌, ◌<◌, ◌≤◌, List, [], ◌∷◌, ◌++◌, length, map, Option, IfSome, Result, Ok, Err}
use Rattle.std.specs.List.{All}
use Rattle.std.specs.List.Sorted.{IsPermutation}
use Rattle.odb_device.specs.World.{File}
use Rattle.odb_extent.specs.Standing.{limit_of}
use Rattle.odb_slots.specs.Sets.{IsOneOf}
use Rattle.odb_model.specs.declared.entry.Entry.{Entry}
use Rattle.odb_model.specs.State.{IsNumberedFrom}
use Rattle.odb_bank.specs.declared.begin.Plan.{Plan}
use Rattle.odb_bank.specs.declared.error.BankError.{BankError}
use Rattle.odb_bank.specs.declared.error.BankError.TheVariants.{Fault, Damaged, NotNext, Phase as WrongPhase, Limit, NoMemory}
use Rattle.odb_bank.specs.declared.kept.Gate.TheVariants.{Shut, Open, Doubtful}
use Rattle.odb_bank.specs.declared.kept.Kept.{Kept}
use Rattle.odb_bank.specs.declared.phase.Phase.TheVariants.{Idle, Bodies}
use Rattle.odb_bank.specs.Additions.{record_of}
use Rattle.odb_bank.specs.Records.{Record}
use Rattle.odb_bank.specs.Bank.{BankState, file_number, slot_limit, IsKnownIn}
use Rattle.odb_bank.specs.Gates.{with_gate}
use Rattle.odb_bank.specs.History.{History}
use Rattle.odb_bank.specs.Known.{Known, sure, perhaps}
use Rattle.odb_bank.specs.Closing.{closing_of, staying_of, ClosesJust, HasRoomFor, LacksRoomFor}
use Rattle.odb_bank.specs.Filling.{AreItemsFor, AreKeptFor, AreOf}
use Rattle.odb_bank.specs.Latest.{AreLatest}
use Rattle.odb_bank.specs.Room.{AreFree}

-- the number of each entry but the first is one above that of the entry before it
abbrev pub AreConsecutive : List Entry → Type 0
AreConsecutive [] = Unit {0}
AreConsecutive (e ∷ entries) = IsNumberedFrom e.number (e ∷ entries)

-- the first entry, where there is one, is the one behind the mark
abbrev pub IsNext : BankState → List Entry → Type 0
IsNext b [] = Unit {0}
IsNext b (e ∷ entries) = e.number ≡ b.mark + 1

abbrev pub IsFirst : ℕ → List Entry → Type 0
IsFirst first [] = ⊥
IsFirst first (e ∷ entries) = e.number ≡ first

-- what a turn is to do: it closes just the slots that are stale or in doubt, and gives the last
-- write of each key one of the least slots that are free then
pub record IsPlanned (b : BankState) (entries : List Entry) (p : Plan) : Type 0 where
  pub closing : p.closing.items ≡ closing_of b
  pub latest : AreLatest b.bank entries (map record_of p.additions.items)
  pub fits : length (staying_of b) + length p.additions.items ≤ 4194304
  pub free : AreFree (map (λ it. it.slot) (staying_of b)) (length p.additions.items) p.run.items
  pub items : AreItemsFor p.run.items (map record_of p.additions.items) p.items.items
      (length p.additions.items)
  pub keeps : AreKeptFor p.run.items (map record_of p.additions.items) p.kept.items
      (length p.additions.items)
  pub reached : p.reached ≡ b.mark + length entries

-- What `bodies` answers: each refusal by its cause, in their order. Want of memory may come where
-- the first two don't, and a fault where none of the three does.
abbrev pub IsBodiesAnswer : BankState → List Entry → Result ℕ BankError → Type 0
IsBodiesAnswer b entries (Ok n) = (b.phase ≡ Idle) × IsNext b entries × HasRoomFor b entries
    × (n ≡ b.mark + length entries)
IsBodiesAnswer b entries (Err (WrongPhase now)) = (now ≡ b.phase) × (b.phase ≢ Idle)
IsBodiesAnswer b entries (Err (NotNext mark first)) = (b.phase ≡ Idle) × (mark ≡ b.mark)
    × IsFirst first entries × (first ≢ b.mark + 1)
IsBodiesAnswer b entries (Err Limit) =
    (b.phase ≡ Idle) × IsNext b entries × LacksRoomFor b entries
IsBodiesAnswer b entries (Err Fault) =
    (b.phase ≡ Idle) × IsNext b entries × HasRoomFor b entries
IsBodiesAnswer b entries (Err NoMemory) = (b.phase ≡ Idle) × IsNext b entries
IsBodiesAnswer b entries (Err (Damaged at)) = ⊥

-- the number that a turn reaches, or why none may begin
abbrev pub IsReachAnswer : BankState → List Entry → Result ℕ BankError → Type 0
IsReachAnswer b entries (Ok n) =
    (b.phase ≡ Idle) × IsNext b entries × (n ≡ b.mark + length entries)
IsReachAnswer b entries (Err (WrongPhase now)) = (now ≡ b.phase) × (b.phase ≢ Idle)
IsReachAnswer b entries (Err (NotNext mark first)) = (b.phase ≡ Idle) × (mark ≡ b.mark)
    × IsFirst first entries × (first ≢ b.mark + 1)
IsReachAnswer b entries (Err Fault) = ⊥
IsReachAnswer b entries (Err (Damaged at)) = ⊥
IsReachAnswer b entries (Err Limit) = ⊥
IsReachAnswer b entries (Err NoMemory) = ⊥

-- a plan for the slots as they are, all inside the limit
pub record IsReady (b : BankState) (p : Plan) : Type 0 where
  pub free : AreFree (map (λ it. it.slot) b.slots) (length p.additions.items) p.run.items
  pub inside : All (λ n. n < slot_limit b) p.run.items
  pub items : AreItemsFor p.run.items (map record_of p.additions.items) p.items.items
      (length p.additions.items)
  pub keeps : AreKeptFor p.run.items (map record_of p.additions.items) p.kept.items
      (length p.additions.items)
  pub reached : b.mark ≤ p.reached

-- the plan, or one of the refusals that call no store
abbrev pub IsPlanAnswer : BankState → List Entry → Result Plan BankError → Type 0
IsPlanAnswer b entries (Ok p) = (b.phase ≡ Idle) × IsNext b entries × IsPlanned b entries p
IsPlanAnswer b entries (Err Fault) = ⊥
IsPlanAnswer b entries (Err (Damaged at)) = ⊥
IsPlanAnswer b entries (Err (WrongPhase now)) = (now ≡ b.phase) × (b.phase ≢ Idle)
IsPlanAnswer b entries (Err (NotNext mark first)) = (b.phase ≡ Idle) × (mark ≡ b.mark)
    × IsFirst first entries × (first ≢ b.mark + 1)
IsPlanAnswer b entries (Err Limit) =
    (b.phase ≡ Idle) × IsNext b entries × LacksRoomFor b entries
IsPlanAnswer b entries (Err NoMemory) = (b.phase ≡ Idle) × IsNext b entries

-- the bank, with other notes of its slots
abbrev pub with_kept : BankState → List Kept → BankState
with_kept b slots = record b { slots = slots }

-- all but the extents stays, and these have no fewer slots
pub record HasGrown (old new : BankState) : Type 0 where
  pub file : file_number new ≡ file_number old
  pub bank : new.bank ≡ old.bank
  pub mark : new.mark ≡ old.mark
  pub reached : new.reached ≡ old.reached
  pub phase : new.phase ≡ old.phase
  pub run : new.run ≡ old.run
  pub slots : new.slots ≡ old.slots
  pub more : slot_limit old ≤ slot_limit new

-- the run stands behind its gates in its slots
abbrev pub with_run : BankState → List Kept → List ℕ → ℕ → BankState
with_run b slots run reached = record b {
  slots = slots;
  run = run;
  reached = reached;
  phase = Bodies;
}

-- so it is, with these records added
pub record HasRun (old : BankState) (added : List Kept) (run : List ℕ) (reached : ℕ) (new : BankState)
    : Type 0 where
  pub slots : IsPermutation (old.slots ++ added) new.slots
  pub is : new ≡ with_run old new.slots run reached

-- the entries are of the history, behind the mark, and the plan is for them
pub record AreTaken (h : History) (b : BankState) (entries : List Entry) (p : Plan) : Type 0 where
  pub numbers : IsNumberedFrom (b.mark + 1) entries
  pub of_history : AreOf h b.bank entries
  pub latest : AreLatest b.bank entries (map record_of p.additions.items)
  pub reached : p.reached ≡ b.mark + length entries

-- the gate of a slot of the run is closed, that of another open
abbrev pub HasItsGate : List ℕ → Kept → Type 0
HasItsGate run it = (IsOneOf run it.slot × (it.gate ≡ Shut))
    ⊎ ((IsOneOf run it.slot → ⊥) × (it.gate ≡ Open))

-- What a turn leaves that is begun: what stays of the old records, and in the least slots that are
-- free the last write of each key of the databank that the entries write, in the order of the keys.
-- It has no more extents than before, or a slot of the run lies in the last one
pub record IsFilled (entries : List Entry) (n : ℕ) (old new : BankState) : Type 0 where
  pub phase_is : new.phase ≡ Bodies
  pub reached : new.reached ≡ n
  pub mark : new.mark ≡ old.mark
  pub bank : new.bank ≡ old.bank
  pub file : file_number new ≡ file_number old
  pub gates : All (HasItsGate new.run) new.slots
  pub records : List Record
  pub latest : AreLatest old.bank entries records
  pub added : List Kept
  pub slots : IsPermutation (staying_of old ++ added) new.slots
  pub keeps : AreKeptFor new.run records added (length records)
  pub free : AreFree (map (λ it. it.slot) (staying_of old)) (length records) new.run
  pub grown : (limit_of new.extents ≡ limit_of old.extents)
      ⊎ ((n : ℕ) × IsOneOf new.run n × (slot_limit new ≤ n + 1024))

-- after a call that broke off no turn is begun, and memory keeps the same, but for slots that are
-- closed or in doubt
pub record IsStillIdle (old new : BankState) : Type 0 where
  pub phase_is : new.phase ≡ Idle
  pub mark : new.mark ≡ old.mark
  pub reached : new.reached ≡ old.reached
  pub run : new.run ≡ old.run
  pub bank : new.bank ≡ old.bank
  pub file : file_number new ≡ file_number old
  pub slots : (new.slots ≡ staying_of old)
      ⊎ (new.slots ≡ map (with_gate (closing_of old) Doubtful) old.slots)

-- where the file is told, just the slots are closed that a turn is to close
abbrev pub ClosesTold : BankState → BankState → Option File → Option File → Type 0
ClosesTold old new before after = IfSome before (λ f. IfSome after (λ g.
    (known : ℕ → Known) → IsKnownIn old known f
    → (later : ℕ → Known) × IsKnownIn new later g × ClosesJust old.mark known later))

-- of each slot the same is open as before
abbrev pub SameOpen : (ℕ → Known) → (ℕ → Known) → Type 0
SameOpen old new =
    (n : ℕ) → (sure (new n) ≡ sure (old n)) × (perhaps (new n) ≡ perhaps (old n))

-- where the file is told, the same is open as before
abbrev pub KeepsTold : BankState → BankState → Option File → Option File → Type 0
KeepsTold old new before after = IfSome before (λ f. IfSome after (λ g.
    (known : ℕ → Known) → IsKnownIn old known f
    → (later : ℕ → Known) × IsKnownIn new later g × SameOpen known later))
