-- What a part of a script's play does to the files, and what it says.
use Rattle.std.specs.Prelude.{◌≡◌, ℕ, true, List, [], ◌∷◌, ◌++◌, Option}
use Rattle.odb_device.specs.World.{Moment, World, present}
use Rattle.odb_device.specs.Calls.{FileCountRose}
use Rattle.odb_device.specs.Console.{Says}
use Rattle.odb_device.specs.Steps.{Steps, IsQuiet}
use Rattle.odb_kept.specs.Running.{KeptAlong, IsRunning}
use Rattle.odb_machine.specs.Machine.{Machine}
use Rattle.odb_machine.specs.Play.{Answer, machine_after, text_of_answer, said_by}
use Rattle.odb_reply.specs.Telling.{TellsAlone}
use Rattle.odb_system.specs.Kept.{IsKept, Rests, IsRoseFromGate, IsDoubtCaused, StepWrites}
use Rattle.odb_play.specs.Outside.{TouchesOnly, Passed, LeavesFiles}

abbrev pub after_of : Answer → Machine
after_of answer = answer.after

-- A moment of a run of these answers from the machine `first` on, where `before` was said before
-- it: with i replies wholly said the images of all files are kept by the machine after i answers or
-- the one after i + 1, and, where no byte is said yet, perhaps by the one at entry
abbrev pub Along : Machine → Machine → List Answer → Option (List ℕ) → Moment → Type 0
Along = KeptAlong IsKept after_of text_of_answer

-- a file's count rose in the step where the answer has it so, that of TRANSDB before a record's gate
-- or from it on where the answer has that; INDOUBT has its cause; and the step wrote only what its
-- reply has it write
pub record IsCaused (m : Machine) (answer : Answer) (before after : World) : Type 0 where
  pub rose : (file : ℕ) → answer.seen.rose file ≡ true → FileCountRose file before after
  pub before_gate : answer.seen.rose_before_gate ≡ true → FileCountRose 0 before after
  pub from_gate : answer.seen.rose_at_gate ≡ true → IsRoseFromGate m answer.after before after
  pub doubt : IsDoubtCaused m answer.reply answer.after before after
  pub writes : StepWrites m answer.head answer.reply before after

-- From machine m on, the step of the answer was taken between two moments of a stretch, the last
-- ones of `before` and `after`. At both just these bytes are said since its beginning; until the
-- first each file is as it was, and no call on one failed; the counts that the answer tells of rose
-- between them; and at the second the files rest, as the machine after the step has them
pub record IsStep (m : Machine) (answer : Answer) (bytes : List ℕ) (old before after : World) :
    Type 0 where
  pub reaches : LeavesFiles old before
  pub says : Says bytes old before
  pub passes : Passed before after
  pub quiet : IsQuiet before after
  pub caused : IsCaused m answer before after
  pub rests : Rests answer.after (present after)

-- From machine m on, the steps of the answers were taken one behind another, each where just these
-- bytes are said behind the one before it: first the given ones, and then the text of the answer
-- before. Between them each file is as it was, and no call on one failed. At the end, when these are
-- the bytes of the last one, End holds
abbrev pub StepsTaken : (List ℕ → World → World → Type 0)
    → Machine → List ℕ → List Answer → World → World → Type 0
StepsTaken End m bytes [] old new = End bytes old new
StepsTaken End m bytes (answer ∷ answers) old new =
    (before : World) × (after : World) × IsStep m answer bytes old before after
    × StepsTaken End answer.after (text_of_answer answer) answers after new

-- behind the last one each file is as it was and no call on one failed, and anything may have been
-- said
abbrev pub EndsAnyhow : List ℕ → World → World → Type 0
EndsAnyhow bytes old new = LeavesFiles old new

-- or just its text
abbrev pub EndsSaid : List ℕ → World → World → Type 0
EndsSaid bytes old new = LeavesFiles old new × Says bytes old new

-- the steps of the answers, each between moments of its own, at which just the texts of the answers
-- before it are said; the files change only in them
abbrev pub Causes : Machine → List Answer → World → World → Type 0
Causes m answers old new = StepsTaken EndsAnyhow m [] answers old new

-- and in the end the text of each is said
abbrev pub CausesOfSaid : Machine → List Answer → World → World → Type 0
CausesOfSaid m answers old new = StepsTaken EndsSaid m [] answers old new

-- a front of each answer's text tells of no other commit than the reply's own
abbrev pub TellAlone : List Answer → Type 0
TellAlone [] = Unit {0}
TellAlone (answer ∷ answers) =
    TellsAlone (text_of_answer answer) answer.reply × TellAlone answers

-- a front of the texts of the first answers is said, and these tell of their own commits alone
pub record IsHeard (answers : List Answer) (old new : World) : Type 0 where
  pub told : List Answer
  pub untold : List Answer
  pub all : answers ≡ told ++ untold
  pub alone : TellAlone told
  pub front : List ℕ
  pub rest : List ℕ
  pub text : said_by told ≡ front ++ rest
  pub says : Says front old new

-- a part of a play, in which these are the answers from machine m on
pub record IsPart (m : Machine) (answers : List Answer) (old new : World) : Type 0 where
  pub only : TouchesOnly 0 old new
  pub causes : Causes m answers old new
  pub heard : IsHeard answers old new
  pub kept : Steps (Along m m answers (present old).said) old new

-- a part whose answers are all said, and in the end the files rest
pub record IsWhole (m : Machine) (answers : List Answer) (old new : World) : Type 0 where
  pub only : TouchesOnly 0 old new
  pub causes : CausesOfSaid m answers old new
  pub alone : TellAlone answers
  pub running : IsRunning IsKept after_of text_of_answer m m answers (machine_after m answers)
      old new
  pub rests : Rests (machine_after m answers) (present new)
