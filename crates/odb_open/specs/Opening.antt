-- How an opening ends, of whatever files: exactly as what the files read as has it. No function names
-- these yet: the next step's clause on `run` is to.
use Rattle.std.specs.Prelude.{◌≡◌, ◌⊎◌, ℕ, true, List, Option, Some, None}
use Rattle.odb_device.specs.World.{World, present}
use Rattle.odb_device.specs.Calls.{FileCountRose}
use Rattle.odb_device.specs.Steps.{Steps, IsQuiet}
use Rattle.odb_device.specs.Moments.{EachMoment, EachCrashSince}
use Rattle.odb_model.specs.declared.status.Status.{Status}
use Rattle.odb_model.specs.declared.status.Status.TheVariants.{Usage, FileFault, Exists, NoMemory}
use Rattle.odb_machine.specs.Copies.{Choice}
use Rattle.odb_machine.specs.Book.{Seen}
use Rattle.odb_machine.specs.MachineState.{Machine}
use Rattle.odb_machine.specs.Opening.{Finds, opening_refusal}
use Rattle.odb_machine.specs.First.{IsMet}
use Rattle.odb_open.specs.Images.{readings_at}
use Rattle.odb_open.specs.Kept.{Keeps}

-- some calls were made from one world to the other, or none
abbrev pub Passed : World → World → Type 0
Passed old new = Steps (λ moment. Unit {0}) old new

-- An opening from one world to the other saw what the files read as when it began; a call failed only
-- where the file's count rose in it; and nothing was said or taken
pub record MeetsFiles (seen : Seen) (old begun : World) : Type 0 where
  pub passes : Passed old begun
  pub sees : seen.reads ≡ readings_at (present old)
  pub rose : (file : ℕ) → seen.rose file ≡ true → FileCountRose file old begun
  pub quiet : IsQuiet old begun

-- how a call that plays a script may end behind an opening
abbrev pub MayEndPlay : Status → Type 0
MayEndPlay Usage = ⊥
MayEndPlay Exists = ⊥
MayEndPlay status = Unit {0}

-- a refused opening ends the call with its status, or memory ran out before it was known
abbrev pub OpeningEnds : Option Status → Status → World → World → Type 0
OpeningEnds (Some why) status begun new =
    ((status ≡ why) ⊎ (status ≡ NoMemory)) × (begun ≡ new)
OpeningEnds None status begun new = MayEndPlay status

-- A call that plays a script opened the files by these choices, and ended so
pub record IsOpeningOf (choices : List Choice) (status : Status) (old new : World) : Type 0 where
  pub begun : World
  pub seen : Seen
  pub meets : MeetsFiles seen old begun
  pub later : Passed begun new
  pub finds : Finds
  pub met : IsMet seen finds
  pub ends : OpeningEnds (opening_refusal finds choices) status begun new

-- Why an opening is refused by choices that are admissible: memory ran out, or the file's count rose
abbrev pub IsExcused : Status → World → World → Type 0
IsExcused NoMemory old new = Unit {0}
IsExcused (FileFault file) old new = FileCountRose file old new
IsExcused status old new = ⊥

-- such an opening; the machine at entry keeps whatever a crash leaves of it
pub record IsRefused (entry : Machine) (status : Status) (old new : World) : Type 0 where
  pub why : IsExcused status old new
  pub quiet : IsQuiet old new
  pub crash : EachMoment (EachCrashSince old (λ said image. Keeps entry image)) old new
