-- What a control line leaves of the machine.
use Rattle.std.proofs.Common.{◌≡◌, Bool, true, false, Option, Some, None}
use Rattle.odb_model.specs.declared.control.Control.{Control as ControlLine}
use Rattle.odb_model.specs.declared.control.Control.TheVariants as control
use Rattle.odb_model.specs.declared.reply.Reply.{Reply}
use Rattle.odb_model.specs.declared.reply.Reply.TheVariants.{Turned, Fault, NotYet, Memory}
use Rattle.odb_machine.specs.Sides.{Sides, turned}
use Rattle.odb_machine.specs.Book.{Seen}
use Rattle.odb_machine.specs.Refusals.{refusal}
use Rattle.odb_machine.specs.Clearing.{next_in, TurnsSides}
use Rattle.odb_machine.specs.Controls.{WorksUnless, Controls}
use Rattle.odb_machine.specs.Machine.{Machine, is_built, UpkeepStep, ControlStep}

-- all but what the sides of TRANSDB are stays
abbrev pub OnlyTurns : Machine → Machine → Type 0
OnlyTurns m after = (sides : Sides) × (broken : Bool) × (after ≡ record m { sides = sides; may_turn = broken })

only_same : (m after : Machine) → after ≡ m → OnlyTurns m after
only_same m after same = (m.sides, m.may_turn, same)

only_turn : (m : Machine) (seen : Seen) (reply : Reply) (after : Machine) → TurnsSides m seen reply after → OnlyTurns m after
only_turn m seen (Turned side first) after step = (turned (next_in m) m.sides, false, step.2)
only_turn m seen (Fault f) after step = (m.sides, true, step.2)
only_turn m seen reply after step = absurd step

only_unless : (why : Option Reply) (m : Machine) (seen : Seen) (reply : Reply) (after : Machine) → WorksUnless why m seen control.Turn reply after → OnlyTurns m after
only_unless (Some r) m seen reply after step = only_same m after step.1
only_unless None m seen reply after step = only_turn m seen reply after step

only_controls : (m : Machine) (seen : Seen) (reply : Reply) (after : Machine) → Controls m seen control.Turn reply after → OnlyTurns m after
only_controls m seen Memory after step = only_same m after step
only_controls m seen reply after step = only_unless (refusal m control.Turn) m seen reply after step

only_told : (why : Option Reply) (m : Machine) (seen : Seen) (reply : Reply) (after : Machine) → WorksUnless why m seen control.State reply after → OnlyTurns m after
only_told (Some r) m seen reply after step = only_same m after step.1
only_told None m seen reply after step = only_same m after step.1

only_state : (m : Machine) (seen : Seen) (reply : Reply) (after : Machine) → Controls m seen control.State reply after → OnlyTurns m after
only_state m seen Memory after step = only_same m after step
only_state m seen reply after step = only_told (refusal m control.State) m seen reply after step

only_upkeep : (m : Machine) (reply : Reply) (after : Machine) → UpkeepStep m reply after → OnlyTurns m after
only_upkeep m NotYet after step = only_same m after step
only_upkeep m reply after step = absurd step

-- so of each control line
pub only_turns : (m : Machine) (line : ControlLine) (seen : Seen) (reply : Reply) (after : Machine) → ControlStep (is_built line) m seen line reply after → OnlyTurns m after
only_turns m control.Turn seen reply after step = only_controls m seen reply after step
only_turns m control.State seen reply after step = only_state m seen reply after step
only_turns m line seen reply after step = only_upkeep m reply after step
