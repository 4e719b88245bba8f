-- When a step is a function of what it meets.
use Rattle.std.specs.Prelude.{◌≡◌, ◌≢◌, ◌⊎◌, ℕ, true, false, Contains}
use Rattle.odb_model.specs.declared.event.Event.{Event}
use Rattle.odb_model.specs.declared.event.Event.TheVariants.{Session as OfSession, Control}
use Rattle.odb_model.specs.declared.control.Control.{Control as ControlLine}
use Rattle.odb_model.specs.declared.control.Control.TheVariants as control
use Rattle.odb_model.specs.declared.reply.Reply.{Reply}
use Rattle.odb_model.specs.declared.reply.Reply.TheVariants.{Memory}
use Rattle.odb_machine.specs.Log.{has_log}
use Rattle.odb_machine.specs.Copies.{Copy, copy_at}
use Rattle.odb_machine.specs.Book.{Seen, is_told}
use Rattle.odb_machine.specs.MachineState.{Machine, master_for, copies_asked}
use Rattle.odb_machine.specs.Covered.{is_new}
use Rattle.odb_machine.specs.Turning.{takes_log}
use Rattle.odb_machine.specs.Controls.{OnCopy}
use Rattle.odb_machine.specs.Machine.{Step}

-- COPY reads the source, and in the end the copy
abbrev pub IsFillingFile : Machine → Copy → ℕ → Type 0
IsFillingFile m c file =
    OnCopy (master_for m c.bank) (λ source. file ≡ source.file) ⊎ (file ≡ c.file)

-- a turn reads TRANSDB, and LOGDB for entries that TRANSDB no longer holds
abbrev pub IsTurnFile : Machine → Copy → ℕ → Type 0
IsTurnFile m c file = (file ≡ 0) ⊎ ((file ≡ 1) × (takes_log m c ≡ true))

-- a copy that isn't new is in this file
pub record IsFileOfCopy (m : Machine) (file : ℕ) : Type 0 where
  pub copy : Copy
  pub there : Contains (copies_asked m) copy
  pub finished : is_new copy.standing ≡ false
  pub of_file : copy.file ≡ file

-- the files that the step of a control line reads: REOPEN reads TRANSDB, LOGDB where databases have one,
-- and each copy that isn't new
abbrev pub LineReads : Machine → ControlLine → ℕ → Type 0
LineReads m (control.Bodies at) file = OnCopy (copy_at m.copies at) (λ c. IsTurnFile m c file)
LineReads m control.Log file = (file ≡ 0) ⊎ (file ≡ 1)
LineReads m (control.DropLog number) file = file ≡ 1
LineReads m (control.Copy at) file =
    OnCopy (copy_at m.copies at) (λ c. IsFillingFile m c file)
LineReads m control.Reopen file =
    (file ≡ 0) ⊎ (((file ≡ 1) × (has_log ≡ true)) ⊎ IsFileOfCopy m file)
LineReads m line file = ⊥

-- a statement's rows are in memory
abbrev pub StepReads : Machine → Event → ℕ → Type 0
StepReads m (OfSession s st) file = ⊥
StepReads m (Control line) file = LineReads m line file

-- GATES adds its records to a copy that is honest: in another their slots decide which of one stamp
-- counts
abbrev pub HasPlaces : Machine → Event → Type 0
HasPlaces m (Control (control.Gates at)) = OnCopy (copy_at m.copies at) (λ c. m.honest c.file ≡ true)
HasPlaces m other = Unit {0}

-- The reply tells of no fault, the store tells each file that the step reads, and LOGDB is honest where
-- the step reads it
pub record IsPlain (m : Machine) (event : Event) (seen : Seen) : Type 0 where
  pub quiet : (file : ℕ) → seen.rose file ≡ false
  pub told : (file : ℕ) → StepReads m event file → is_told seen file ≡ true
  pub honest : StepReads m event 1 → m.honest 1 ≡ true
  pub places : HasPlaces m event

-- The store tells the same files. REOPEN finds them as they read: so for it they read as the same; when
-- that is determined by the machine itself is told in `Again`
abbrev pub SeesAlike : Event → Seen → Seen → Type 0
SeesAlike (Control control.Reopen) seen other = seen.reads ≡ other.reads
SeesAlike event seen other = (file : ℕ) → is_told seen file ≡ is_told other file

-- With ample memory such a step has one reply and leads to one machine, by the machine, the event, and
-- which files the store tells
abbrev pub IsDetermined : Machine → Event → Type 0
IsDetermined m event =
    (seen met : Seen) → SeesAlike event seen met → IsPlain m event seen → IsPlain m event met
    → (reply other : Reply) (after next : Machine) → reply ≢ Memory → other ≢ Memory
    → Step m event seen reply after → Step m event met other next
    → (reply ≡ other) × (after ≡ next)
