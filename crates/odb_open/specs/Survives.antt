-- The claim on a script played from files that a sound machine keeps, master, shadow or backup with the
-- log. No function names it yet: the next step's clause on `run` is to. What a run is in the world
-- stands in the crate of scripts, above; so here it is taken from outside:
--
-- `Causes` first answers old new: the steps of these answers from the first machine on were taken one
-- behind another between two worlds, each between moments of its own, with the causes of its reply;
-- `Plays` first answers status old new: these are the answers to the lines taken, their texts are said,
-- and the call ended with this status.
use Rattle.std.specs.Prelude.{◌≡◌, ◌⊎◌, ℕ, ◌+◌, Bool, true, false, ◌&&◌, List, take, slice_get, Some}
use Rattle.odb_device.specs.World.{World, present}
use Rattle.odb_device.specs.Console.{Says, Takes}
use Rattle.odb_model.specs.declared.entry.Entry.{Entry}
use Rattle.odb_model.specs.declared.status.Status.{Status}
use Rattle.odb_model.specs.declared.status.Status.TheVariants.{FileFault}
use Rattle.odb_model.specs.declared.control.Control.TheVariants.{Reopen}
use Rattle.odb_model.specs.Control.{control_text}
use Rattle.odb_machine.specs.Copies.{Choice}
use Rattle.odb_machine.specs.Book.{Seen}
use Rattle.odb_machine.specs.MachineState.{Machine, IsSettled}
use Rattle.odb_machine.specs.First.{IsFirstMachine, IsRefusedOpening}
use Rattle.odb_machine.specs.Play.{Answer, Plays, machine_after, said_by, faults_told, lines_so_far}
use Rattle.odb_machine.specs.Masters.{has_honest_masters, are_trusted_steps}
use Rattle.odb_open.specs.Images.{readings_at}
use Rattle.odb_open.specs.Trusted.{AreTrusted}
use Rattle.odb_open.specs.Leaves.{SurvivesCrashes}
use Rattle.odb_open.specs.Opening.{Passed, MeetsFiles, IsRefused}

-- a run in the world, by its first machine and its answers
abbrev pub RunCauses : Type 1
RunCauses = Machine → List Answer → World → World → Type 0

-- and how it ended
abbrev pub RunPlays : Type 1
RunPlays = Machine → List Answer → Status → World → World → Type 0

-- A REOPEN is refused with this status: the lines before it are answered, and just the texts of these
-- answers are said. A fault of a file counts with the replies that tell of one
pub record EndsReopening
    (rose : ℕ → ℕ → Type 0) (m : Machine) (status : Status) (lines : List (List ℕ))
    (answers : List Answer) (output : List ℕ) (before : World) : Type 0 where
  pub count : ℕ
  pub plays : Plays rose m (take count lines) answers
  pub line : slice_get lines count ≡ Some (control_text Reopen)
  pub seen : Seen
  pub sees : seen.reads ≡ readings_at (present before)
  pub refused : IsRefusedOpening seen (machine_after m answers).choices status
  pub rose_is : (file : ℕ) → seen.rose file ≡ true → rose file 1
  pub counted : (file : ℕ) → status ≡ FileFault file → rose file (faults_told file answers + 1)
  pub says : output ≡ said_by answers

-- the answers to the first of the lines that are taken by this world, all of them said
pub record IsAnswered
    (rose : ℕ → ℕ → Type 0) (first : Machine) (answers : List Answer) (old until : World) :
    Type 0 where
  pub input : List ℕ
  pub takes : Takes input old until
  pub count : ℕ
  pub plays : Plays rose first (take count (lines_so_far until.talk.has_ended input)) answers
  pub says : Says (said_by answers) old until

-- each working master of the first machine is honest, and each that a step makes is trusted
abbrev pub keeps_trust : Machine → List Answer → Bool
keeps_trust first answers = has_honest_masters first && are_trusted_steps first answers

-- The run went on to the end as the status tells; or by some world a lawful run has made a master of a
-- file that isn't known to come from the history, and nothing is claimed of what came behind
pub data RunEnds (rose : ℕ → ℕ → Type 0) (Ends : RunPlays) (first : Machine)
    (answers : List Answer) (status : Status) (old until new : World) : Type 0 where
  whole : until ≡ new → Ends first answers status old new
      → RunEnds rose Ends first answers status old until new
  untrusted : keeps_trust first answers ≡ false → IsAnswered rose first answers old until
      → Passed until new → RunEnds rose Ends first answers status old until new

-- The script was played from the first machine of the files as they read, with this history
pub record IsPlayedFrom (rose : ℕ → ℕ → Type 0) (Causes : RunCauses) (Ends : RunPlays)
    (choices : List Choice) (entry : Machine) (h : List Entry) (trusted : ℕ → Bool)
    (status : Status) (old new : World) : Type 0 where
  pub begun : World
  pub seen : Seen
  pub meets : MeetsFiles seen old begun
  pub first : Machine
  pub is_first : IsFirstMachine seen choices trusted h first
  pub answers : List Answer
  pub until : World
  pub causes : Causes first answers begun until
  pub crash : SurvivesCrashes entry first answers old until
  pub ends : RunEnds rose Ends first answers status old until new

-- A call that plays a script, from files that this machine keeps as the call begins: the history is
-- that of the machine, or that with the entry in doubt; and whichever files are known to hold only what
-- comes from it, the script is played from the first machine of the files
pub record Survives (rose : ℕ → ℕ → Type 0) (Causes : RunCauses) (Ends : RunPlays)
    (choices : List Choice) (entry : Machine) (status : Status) (old new : World) : Type 0 where
  pub history : List Entry
  pub settled : IsSettled entry entry.in_doubt history
  pub runs : (trusted : ℕ → Bool) → AreTrusted trusted history (present old)
      → IsRefused entry status old new
      ⊎ IsPlayedFrom rose Causes Ends choices entry history trusted status old new
