-- What is noted of gates.
use Rattle.std.specs.Prelude.{ℕ, Bool, ◌==◌, if◌then◌else◌, List, map}
use Rattle.std.specs.List.{list_any}
use Rattle.odb_bank.specs.declared.kept.Gate.{Gate}
use Rattle.odb_bank.specs.declared.kept.Kept.{Kept}
use Rattle.odb_bank.specs.declared.phase.Phase.{Phase}
use Rattle.odb_bank.specs.Bank.{BankState}

abbrev pub is_in : List ℕ → ℕ → Bool
is_in run slot = list_any (λ n. n == slot) run

-- what memory keeps of a slot, with this of its gate where it is one of the run
abbrev pub with_gate : List ℕ → Gate → Kept → Kept
with_gate run gate it = if is_in run it.slot then record it { gate = gate } else it

-- the bank in this phase, with this of the gates of its run
abbrev pub noted_as : Phase → Gate → BankState → BankState
noted_as phase gate b = record b { phase = phase; slots = map (with_gate b.run gate) b.slots }
