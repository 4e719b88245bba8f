-- What `play` makes of the files that it finds.
use Rattle.std.specs.Prelude.{◌≡◌, ◌≢◌, ◌⊎◌, ℕ, List, IfSome}
use Rattle.odb_device.specs.World.{World, present, file_of}
use Rattle.odb_device.specs.Calls.{Keeps}
use Rattle.odb_device.specs.Steps.{Steps}
use Rattle.odb_model.specs.declared.entry.Entry.{Entry}
use Rattle.odb_model.specs.declared.status.Status.{Status}
use Rattle.odb_model.specs.declared.status.Status.TheVariants.{Done, Usage, ReadFault, WriteFault, FileFault, NoDatabase, Exists, Damaged, NotHeld, InputTooLong, NoMemory, NotACopy, Unfinished}
use Rattle.odb_machine.specs.Sides.{Sides}
use Rattle.odb_machine.specs.Machine.{first_machine}
use Rattle.odb_transdb.specs.declared.header.Header.{Header}
use Rattle.odb_transdb.specs.Header.{first_held}
use Rattle.odb_transdb.specs.Opened.{Opened, no_database, damaged, holding, opened}
use Rattle.odb_transdb.specs.Worlds.{OpensAsBefore, OnlyClosesGates, HasClosedGates}
use Rattle.odb_commit.specs.Standing.{sides_of}
use Rattle.odb_system.specs.Kept.{Rests}
use Rattle.odb_play.specs.Crash.{SurvivesCrashes, LosesNoCommit}
use Rattle.odb_play.specs.Part.{Along, Causes}
use Rattle.odb_play.specs.Played.{IsPlayed}

-- the bytes hold entries from the first on
abbrev pub HoldsWhole : Opened → Type 0
HoldsWhole what =
    (h : Header) × (entries : List Entry) × (what ≡ holding h entries) × (first_held h ≡ 1)

-- they hold entries from this number on, and it isn't 1: the earlier ones are nowhere, since no
-- databank has a file yet
abbrev pub HoldsLate : ℕ → Opened → Type 0
HoldsLate first what =
    (h : Header) × (entries : List Entry) × (what ≡ holding h entries) × (first ≡ first_held h)
    × (first ≢ 1)

-- Which status may come of these bytes: a fault and want of memory of any
abbrev pub IsOpeningOf : Status → Opened → Type 0
IsOpeningOf Done what = HoldsWhole what
IsOpeningOf ReadFault what = HoldsWhole what
IsOpeningOf WriteFault what = HoldsWhole what
IsOpeningOf InputTooLong what = HoldsWhole what
IsOpeningOf NoDatabase what = what ≡ no_database
IsOpeningOf (Damaged file at) what = (file ≡ 0) × (what ≡ damaged at)
IsOpeningOf (NotHeld bank mark first) what = (bank ≡ 2) × (mark ≡ 0) × HoldsLate first what
IsOpeningOf (FileFault file) what = Unit {0}
IsOpeningOf NoMemory what = Unit {0}
IsOpeningOf Usage what = ⊥
IsOpeningOf Exists what = ⊥
IsOpeningOf (NotACopy bank file) what = ⊥
IsOpeningOf (Unfinished file) what = ⊥

-- the bytes hold these entries, from number 1 on, in a database of this format with these sides
abbrev pub HoldsFrom : ℕ → Sides → List Entry → Opened → Type 0
HoldsFrom format sides entries what =
    (h : Header) × (what ≡ holding h entries) × (format ≡ h.format) × (sides ≡ sides_of h)
    × (first_held h ≡ 1)

-- The script was played, from the machine of the entries that TRANSDB holds. That survives a crash
-- at every moment, which loses no commit. The steps came behind a moment, the last one of `begun`,
-- until which nothing was said, and TRANSDB changed only as a refused opening may change it, and at
-- which the files rested; so each count that an answer tells of rose after it. From then on the
-- files change only in the steps, and whatever they were at the call, at every moment a crash
-- leaves what is kept along the answers
pub record IsPlayedFrom (status : Status) (old new : World) : Type 0 where
  pub format : ℕ
  pub sides : Sides
  pub entries : List Entry
  pub opens : IfSome (file_of 0 old) (λ f. HoldsFrom format sides entries (opened f.bytes))
  pub played : IsPlayed (first_machine format sides entries) status old new
  pub begun : World
  pub opening : OpensAsBefore old begun
  pub gates : OnlyClosesGates old begun
  pub resting : Rests (first_machine format sides entries) (present begun)
  pub behind : Causes (first_machine format sides entries) played.answers begun new
  pub kept : Steps (Along (first_machine format sides entries) (first_machine format sides entries)
      played.answers (present begun).said) begun new
  pub crash : SurvivesCrashes (first_machine format sides entries) played.answers old new
  pub commits : LosesNoCommit (first_machine format sides entries) played.answers old new

-- The opening was refused with this status, and nothing was taken or said. Only TRANSDB may have
-- changed. At every moment, whatever the status is, each image of it opens as one from before, and
-- each is one from before but for gates that were open where the lists of the sides that hold
-- entries end. At the end such a gate reads as before or is closed, unless a call of the store
-- failed, which is FileFault. Where it is no database, it is just as it was, and on the disk
pub record IsRefused (status : Status) (old new : World) : Type 0 where
  pub run : OpensAsBefore old new
  pub bytes : OnlyClosesGates old new
  pub closed : ((file : ℕ) → status ≢ FileFault file) → HasClosedGates old new
  pub nothing : status ≡ NoDatabase → Keeps 0 old new

abbrev pub PlayOutcome : Status → World → World → Type 0
PlayOutcome Done old new = IsPlayedFrom Done old new
PlayOutcome ReadFault old new = IsPlayedFrom ReadFault old new
PlayOutcome WriteFault old new = IsPlayedFrom WriteFault old new
PlayOutcome InputTooLong old new = IsPlayedFrom InputTooLong old new
PlayOutcome NoMemory old new = IsRefused NoMemory old new ⊎ IsPlayedFrom NoMemory old new
PlayOutcome NoDatabase old new = IsRefused NoDatabase old new
PlayOutcome (Damaged file at) old new = IsRefused (Damaged file at) old new
PlayOutcome (NotHeld bank mark first) old new = IsRefused (NotHeld bank mark first) old new
PlayOutcome (FileFault file) old new = IsRefused (FileFault file) old new
PlayOutcome Usage old new = ⊥
PlayOutcome Exists old new = ⊥
PlayOutcome (NotACopy bank file) old new = ⊥
PlayOutcome (Unfinished file) old new = ⊥
