-- When a REOPEN is told by the machine alone. No function names this yet: the next step's clause on
-- what REOPEN does is to.
use Rattle.std.specs.Prelude.{◌≡◌, ℕ, true, List, [], ◌∷◌, length, IsSome}
use Rattle.odb_device.specs.World.{World, file_of}
use Rattle.odb_device.specs.Calls.{FileCountRose}
use Rattle.odb_model.specs.declared.control.Control.TheVariants.{Reopen}
use Rattle.odb_model.specs.declared.reply.Reply.{Reply}
use Rattle.odb_model.specs.declared.reply.Reply.TheVariants.{Opened}
use Rattle.odb_machine.specs.MachineState.{Machine}
use Rattle.odb_machine.specs.Determined.{LineReads}
use Rattle.odb_machine.specs.Again.{found_again, takes_all}
use Rattle.odb_machine.specs.Play.{Answer}

-- no file's count of faults rose from one world to the other
abbrev pub NoCountRose : World → World → Type 0
NoCountRose old new = (file : ℕ) → FileCountRose file old new → ⊥

-- A REOPEN between two worlds of a machine whose files were last opened up to a third: no count has
-- risen since; the store tells each file that is read, and LOGDB is honest where it is; LOGDB isn't
-- out, and no copy is out but by a choice that the machine has
pub record IsPlainReopening (opened old new : World) (m : Machine) : Type 0 where
  pub quiet : NoCountRose opened new
  pub told : (file : ℕ) → LineReads m Reopen file → IsSome (file_of file old)
  pub honest : LineReads m Reopen 1 → m.honest 1 ≡ true
  pub whole : takes_all m ≡ true

-- then the reply and the machine behind it are told by the machine before it
abbrev pub FindsAgain : Machine → Answer → Type 0
FindsAgain m answer =
    (answer.reply ≡ Opened (length m.history)) × (answer.after ≡ found_again m)

-- a step of a run: its answer, and the worlds between which it was taken
pub record Taken : Type 0 where
  pub answer : Answer
  pub before : World
  pub behind : World

-- where the files were last opened behind a step with this reply: REOPEN alone is answered OPENED
abbrev pub opened_behind : Reply → World → World → World
opened_behind (Opened number) opened behind = behind
opened_behind reply opened behind = opened

abbrev pub ReopensBy : Reply → World → Machine → Taken → Type 0
ReopensBy (Opened number) opened m taken =
    IsPlainReopening opened taken.before taken.behind m → FindsAgain m taken.answer
ReopensBy reply opened m taken = Unit {0}

-- so in each REOPEN of a run, from a machine whose files were opened up to this world
abbrev pub AllReopen : World → Machine → List Taken → Type 0
AllReopen opened m [] = Unit {0}
AllReopen opened m (taken ∷ rest) =
    ReopensBy taken.answer.reply opened m taken
    × AllReopen (opened_behind taken.answer.reply opened taken.behind) taken.answer.after rest
