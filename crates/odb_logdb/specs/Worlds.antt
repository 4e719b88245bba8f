-- What calls of the log leave of file 1, said of the worlds before and after them.
use Rattle.std.specs.Prelude.{◌≡◌, ℕ, ◌+◌, ◌≤◌, max, List, length, Some}
use Rattle.odb_device.specs.World.{World, file_of}
use Rattle.odb_device.specs.Images.{EachImage}
use Rattle.odb_device.specs.Moments.{Runs}
use Rattle.odb_device.specs.Told.{IfTold}
use Rattle.odb_device.specs.TornSets.{TornInFrom}
use Rattle.odb_extent.specs.Opened.{content_end, Holds as ExtentsHold}
use Rattle.odb_reclog.specs.Ends.{IsOpenEnd}
use Rattle.odb_model.specs.declared.entry.Entry.{Entry}
use Rattle.odb_model.specs.State.{IsNumberedFrom}
use Rattle.odb_logdb.specs.declared.state.ListState.TheVariants.{Known}
use Rattle.odb_logdb.specs.declared.fields.LogFields.{LogFields}
use Rattle.odb_logdb.specs.Fields.{lawful_in}
use Rattle.odb_logdb.specs.Opened.{MOST, entries_in}
use Rattle.odb_logdb.specs.Opening.{list_start}
use Rattle.odb_logdb.specs.Standing.{LogState, StandsFor, Stands, first_of, next_of, held}
use Rattle.odb_logdb.specs.Answers.{KeepsOpened}

-- only file 1 changes, and at each moment each image opens as one from before did
abbrev pub OpensAsBefore : World → World → Type 0
OpensAsBefore old new = Runs 1 (KeepsOpened (file_of 1 old)) old new

-- The gate at this place is open, where the list of a log ends: the extents that the bytes are keep
-- lawful fields, and are as long as the limit
pub record IsListEnd (bytes : List ℕ) (place : ℕ) : Type 0 where
  pub limit : ℕ
  pub fields : List ℕ
  pub found : LogFields
  pub extents : ExtentsHold MOST limit fields bytes
  pub lawful : lawful_in limit fields ≡ Some found
  pub long : content_end limit ≤ length bytes
  pub ends : IsOpenEnd (list_start limit found) (content_end limit) found.first bytes place

-- only file 1 changes, and at each moment each image is one from before but for the gate where the
-- list ends, as the file reads, and that only where it is open
abbrev pub OnlyClosesGate : World → World → Type 0
OnlyClosesGate old new =
    IfTold 1 old (λ bytes. Runs 1 (TornInFrom (IsListEnd bytes) 0 (file_of 1 old)) old new)

-- the entries are as before, as the file reads
abbrev pub SameEntries : World → World → Type 0
SameEntries old new = entries_in (file_of 1 new) ≡ entries_in (file_of 1 old)

-- a new log: it begins with this number, and holds no entry; its first record goes to the content's
-- first byte
pub record IsNewLog (first : ℕ) (l : LogState) (after : World) : Type 0 where
  pub stands : Stands l (file_of 1 after)
  pub first_is : first_of l ≡ first
  pub known : l.state ≡ Known
  pub none : next_of l ≡ first
  pub place : l.log.place ≡ 1024

-- at each moment each image holds what is held, and the log stands for it as before
abbrev pub KeepsStanding : LogState → World → World → Type 0
KeepsStanding l old new = Runs 1 (EachImage (StandsFor l (held l (file_of 1 old)))) old new

-- entries from a number on, up to the last one held
pub record AreFrom (l : LogState) (from : ℕ) (entries : List Entry) : Type 0 where
  pub numbers : IsNumberedFrom from entries
  pub count : from + length entries ≤ max from (next_of l)
