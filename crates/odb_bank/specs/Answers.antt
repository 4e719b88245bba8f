-- What the calls of a turn answer, and what they leave.
use Rattle.std.specs.Prelude.{◌≡◌, ◌≢◌, ℕ, Result, Ok, Err}
use Rattle.odb_bank.specs.declared.error.BankError.{BankError}
use Rattle.odb_bank.specs.declared.error.BankError.TheVariants.{Fault, Damaged, NotNext, Phase as WrongPhase, Limit, NoMemory}
use Rattle.odb_bank.specs.declared.phase.Phase.{Phase}
use Rattle.odb_bank.specs.Bank.{BankState, file_number}

-- What `gates` and `raise_mark` answer, which need a phase
abbrev pub IsStepAnswer : {T : Type 0} → Phase → Phase → Result T BankError → Type 0
IsStepAnswer needed phase (Ok done) = phase ≡ needed
IsStepAnswer needed phase (Err Fault) = phase ≡ needed
IsStepAnswer needed phase (Err (WrongPhase now)) = (now ≡ phase) × (phase ≢ needed)
IsStepAnswer needed phase (Err NoMemory) = ⊥
IsStepAnswer needed phase (Err (Damaged at)) = ⊥
IsStepAnswer needed phase (Err (NotNext mark first)) = ⊥
IsStepAnswer needed phase (Err Limit) = ⊥

-- a call without effect
abbrev pub IsQuietly : {T : Type 0} → Result T BankError → Type 0
IsQuietly (Ok done) = ⊥
IsQuietly (Err Fault) = ⊥
IsQuietly (Err refused) = Unit {0}

-- the phase and the mark are these; memory keeps the same, and the run reaches as far
pub record IsMoved (phase : Phase) (mark : ℕ) (old new : BankState) : Type 0 where
  pub phase_is : new.phase ≡ phase
  pub mark_is : new.mark ≡ mark
  pub reached : new.reached ≡ old.reached
  pub slots : new.slots ≡ old.slots
  pub run : new.run ≡ old.run
  pub bank : new.bank ≡ old.bank
  pub file : file_number new ≡ file_number old
