-- What a crash leaves of the files while a script is played.
use Rattle.std.specs.Prelude.{◌≡◌, ◌⊎◌, ℕ, ◌≤◌, List, [], length, take}
use Rattle.odb_device.specs.World.{World, present}
use Rattle.odb_device.specs.Moments.{EachMoment, EachCrashSince}
use Rattle.odb_device.specs.Steps.{Steps}
use Rattle.odb_kept.specs.Kept.{KeptBy, TellsAsked}
use Rattle.odb_model.specs.declared.entry.Entry.{Entry}
use Rattle.odb_machine.specs.Machine.{Machine, history_or_more}
use Rattle.odb_machine.specs.Play.{Answer, machine_after}
use Rattle.odb_model.specs.Acknowledged.{Acknowledges}
use Rattle.odb_transdb.specs.declared.header.Header.{Header}
use Rattle.odb_transdb.specs.Header.{first_held}
use Rattle.odb_transdb.specs.Opened.{Holds}
use Rattle.odb_system.specs.Kept.{MayHaveSides, IsKept}
use Rattle.odb_play.specs.Part.{Along}

-- the machine that the run begins with goes on from the history of the one at entry, or from it
-- with the entry in doubt, in a database of the same format and sides; where a turn of an earlier
-- play may have been broken off, it may have those of that turn
pub record IsFound (entry first : Machine) : Type 0 where
  pub format : first.format ≡ entry.format
  pub sides : MayHaveSides entry first.sides
  pub history : (first.history ≡ entry.history) ⊎ (first.history ≡ history_or_more entry)

-- a machine keeps every image of every file as the call begins, one entry in doubt allowed, and the
-- host tells each file of which it asks something
pub record KeepsAtEntry (entry : Machine) (old : World) : Type 0 where
  pub keeps : KeptBy (IsKept entry) (present old)
  pub told : TellsAsked (IsKept entry) (present old)

-- Whichever machine keeps all files at entry, the run begins with its history, and at every moment
-- whatever a crash leaves of the files is kept along the answers
abbrev pub SurvivesCrashes : Machine → List Answer → World → World → Type 0
SurvivesCrashes first answers old new =
    (entry : Machine) → KeepsAtEntry entry old
    → IsFound entry first × Steps (Along entry first answers (present old).said) old new

-- the image of TRANSDB opens to these entries, from number 1 on
abbrev pub OpensTo : List Entry → List ℕ → Type 0
OpensTo entries image = (h : Header) × Holds h entries image × (first_held h ≡ 1)

-- With these bytes said, this image of TRANSDB opens to a prefix of the last machine's history with
-- the entry in doubt behind it. The prefix has all of the first machine's history, and each commit
-- that the bytes tell of
pub record HoldsCommits (first last : Machine) (said : List ℕ) (image : List ℕ) : Type 0 where
  pub count : ℕ
  pub within : count ≤ length (history_or_more last)
  pub opens : OpensTo (take count (history_or_more last)) image
  pub least : length first.history ≤ count
  pub told : (k : ℕ) → Acknowledges said k → k ≤ count

-- No commit that was found, and none that was acknowledged, is lost. At every moment, with the
-- bytes said since the call and every image of TRANSDB: while no byte is said it is as the machine
-- at entry asks, or it holds the commits
abbrev pub LosesNoCommit : Machine → List Answer → World → World → Type 0
LosesNoCommit first answers old new =
    (entry : Machine) → KeepsAtEntry entry old
    → EachMoment (EachCrashSince old (λ said images.
    ((said ≡ []) × IsKept entry 0 (images 0))
    ⊎ HoldsCommits first (machine_after first answers) said (images 0))) old new
