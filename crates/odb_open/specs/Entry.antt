-- What is asked of the files as a call begins: the premises of what is claimed of a script played from
-- them. No function names these yet: the next step's clause on `run` is to.
use Rattle.std.specs.Prelude.{◌≡◌, ◌⊎◌, ℕ, ◌+◌, ◌≤◌, List, take, Contains, IsSome}
use Rattle.odb_device.specs.World.{Moment}
use Rattle.odb_device.specs.Moments.{AreImages}
use Rattle.odb_model.specs.declared.entry.Entry.{Entry}
use Rattle.odb_model.specs.State.{replay}
use Rattle.odb_machine.specs.Sides.{first_in}
use Rattle.odb_model.specs.Databanks.{Databank, databanks}
use Rattle.odb_machine.specs.Copies.{Choice}
use Rattle.odb_machine.specs.Readings.{Holds, TransdbReading, last_number}
use Rattle.odb_machine.specs.MachineState.{Machine, history_or_more}
use Rattle.odb_machine.specs.Joined.{file_for}
use Rattle.odb_machine.specs.Named.{HasSoundCopies}
use Rattle.odb_sound.specs.Sound.{IsSound}
use Rattle.odb_bank.specs.History.{history_of}
use Rattle.odb_bank.specs.Files.{StandsAt}
use Rattle.odb_open.specs.Files.{transdb_in}
use Rattle.odb_open.specs.Images.{Image}
use Rattle.odb_open.specs.Admissible.{IsAdmissible}
use Rattle.odb_open.specs.Kept.{Keeps}

-- TRANSDB alone has the entries above the marks of the files that the databanks are read from
abbrev pub NeedsNoLog : List Choice → Image → TransdbReading → List Entry → Type 0
NeedsNoLog choices image t h =
    (b : Databank) (mark : ℕ) → Contains (databanks (replay h)) b
    → StandsAt b.number (history_of b.number h) mark (image (file_for choices b))
    → first_in t.sides ≤ mark + 1

-- the host tells TRANSDB, the files that the databanks are read from, and LOGDB where one of these
-- needs it
pub record TellsFiles
    (choices : List Choice) (image : Image) (t : TransdbReading) (h : List Entry) (moment : Moment) :
    Type 0 where
  pub transdb : IsSome (moment.files 0)
  pub banks : (b : Databank) → Contains (databanks (replay h)) b
      → IsSome (moment.files (file_for choices b))
  pub log : IsSome (moment.files 1) ⊎ NeedsNoLog choices image t h

-- As the call begins a sound machine keeps whatever a crash leaves; by these choices the database may
-- be opened in all of it; and the host tells the files that are read for that
pub record IsEntry (choices : List Choice) (entry : Machine) (moment : Moment) : Type 0 where
  pub sound : IsSound entry
  pub copies : HasSoundCopies entry
  pub keeps : (image : Image) → AreImages moment image → Keeps entry image
  pub admissible : (image : Image) → AreImages moment image
      → IsAdmissible choices image (history_or_more entry)
  pub tells : (image : Image) (t : TransdbReading) → AreImages moment image
      → transdb_in (image 0) ≡ Holds t
      → TellsFiles choices image t (take (last_number t) (history_or_more entry)) moment
