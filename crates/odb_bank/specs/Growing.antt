-- The extents of a databank file, while some are added in a turn.
use Rattle.std.specs.Prelude.{◌≡◌, ℕ, ◌*◌, ◌^◌, ◌<◌, ◌≤◌, List}
use Rattle.odb_device.specs.World.{World, file_of}
use Rattle.odb_device.specs.Images.{EachImage}
use Rattle.odb_device.specs.Moments.{ChangesOnly, Runs}
use Rattle.odb_extent.specs.Standing.{ExtentState, limit_of, limit_tried, fields_of, fields_tried, IsFileOf as IsExtentFile, Stands as ExtentStands}
use Rattle.odb_bank.specs.History.{History}
use Rattle.odb_bank.specs.Known.{Known, IsFileOf}
use Rattle.odb_bank.specs.Turns.{AllStand}
use Rattle.odb_bank.specs.Spelled.{record_of_slot}
use Rattle.odb_bank.specs.Fields.{bank_image}
use Rattle.odb_bank.specs.Files.{StandsAt}

-- the bytes are those of the extents, and in them this is known of each slot
pub record IsFit (e : ExtentState) (known : ℕ → Known) (bytes : List ℕ) : Type 0 where
  pub extents : IsExtentFile e bytes
  pub slots : IsFileOf record_of_slot (1024 * limit_of e) known bytes

-- its pair keeps this mark of this databank, and no other is tried
pub record IsMarkedAt (bank mark : ℕ) (e : ExtentState) : Type 0 where
  pub limits : limit_of e ≤ limit_tried e
  pub most : e.most ≡ 4096
  pub fields : fields_of e ≡ bank_image bank mark
  pub tried : fields_tried e ≡ bank_image bank mark
  pub small : mark < 2 ^ 64

-- what stands for a history, with this known of its slots, and no other mark tried
pub record StandsWith (bank mark : ℕ) (known : ℕ → Known) (h : History) (e : ExtentState) (w : World)
    : Type 0 where
  pub marked : IsMarkedAt bank mark e
  pub within : mark ≤ h.count
  pub all : AllStand h mark known
  pub fits : EachImage (IsFit e known) (file_of e.pair.file w)
  pub now : EachImage (StandsAt bank h mark) (file_of e.pair.file w)

-- From the one to the other some extents are added, or none: what is known of the slots stays, and
-- at each moment the file stands for the history as before.
pub record IsGrowing (old : ExtentState) (first : World) (new : ExtentState) (now : World) : Type 0
  where
    pub file : new.pair.file ≡ old.pair.file
    pub most : new.most ≡ old.most
    pub limits : limit_of old ≤ limit_of new
    pub only : ChangesOnly old.pair.file first now
    pub stands : ExtentStands new (file_of old.pair.file now)
    pub marked : (bank mark : ℕ) → IsMarkedAt bank mark old → IsMarkedAt bank mark new
    pub known : (known : ℕ → Known) → EachImage (IsFit old known) (file_of old.pair.file first)
        → EachImage (IsFit new known) (file_of old.pair.file now)
    pub run : (bank mark : ℕ) (known : ℕ → Known) (h : History)
        → StandsWith bank mark known h old first
        → Runs old.pair.file (EachImage (StandsAt bank h mark)) first now
