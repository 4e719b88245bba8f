-- What the parts of an opening find.
use Rattle.std.specs.Prelude.{◌≡◌, ◌⊎◌, ℕ, ◌<◌, ◌≤◌, ◌==◌, List, length, Some, Result, Ok, Err, if◌then◌else◌}
use Rattle.odb_device.specs.World.{World, file_of}
use Rattle.odb_device.specs.Images.{IsKept}
use Rattle.odb_device.specs.Told.{IfTold}
use Rattle.odb_extent.specs.Opened.{Opened as ExtentsOpened, no_open_place, malformed, holding as holding_extents, Holds as ExtentsHold, content_end}
use Rattle.odb_extent.specs.Standing.{ExtentState, limit_of, fields_of, IsSettled, Stands as ExtentsStand}
use Rattle.odb_model.specs.declared.entry.Entry.{Entry}
use Rattle.odb_logdb.specs.declared.fields.LogFields.{LogFields}
use Rattle.odb_logdb.specs.declared.error.LogdbError.{LogdbError}
use Rattle.odb_logdb.specs.declared.error.LogdbError.TheVariants.{Fault, LogFull, NotHeld, Damaged, NoMemory}
use Rattle.odb_logdb.specs.Fields.{DIRTY, lawful_in}
use Rattle.odb_logdb.specs.Opened.{MOST, records_start}

-- the extents of file 1 were opened, all of which is on the disk, and keep these lawful fields
pub record HasExtents (e : ExtentState) (f : LogFields) (w : World) : Type 0 where
  pub file : e.pair.file ≡ 1
  pub most : e.most ≡ MOST
  pub fields : lawful_in (limit_of e) (fields_of e) ≡ Some f
  pub settled : IsSettled e
  pub kept : IsKept (file_of 1 w)
  pub stands : ExtentsStand e (file_of 1 w)
  pub found : IfTold 1 w (ExtentsHold MOST (limit_of e) (fields_of e))

-- the limit and the fields that the pair keeps, or damage at 0 where it keeps none
abbrev pub IsExtentsAnswer : Result ExtentState LogdbError → ExtentsOpened → Type 0
IsExtentsAnswer (Ok e) what = what ≡ holding_extents (limit_of e) (fields_of e)
IsExtentsAnswer (Err (Damaged at)) what =
    (at ≡ 0) × ((what ≡ no_open_place) ⊎ (what ≡ malformed))
IsExtentsAnswer (Err Fault) what = Unit {0}
IsExtentsAnswer (Err (LogFull need room)) what = ⊥
IsExtentsAnswer (Err (NotHeld first)) what = ⊥
IsExtentsAnswer (Err NoMemory) what = ⊥

-- where the list of a log begins: that of a Dirty one is none, at the end
abbrev pub list_start : ℕ → LogFields → ℕ
list_start limit f = if f.state == DIRTY then content_end limit else records_start f

-- the file is as long as its limit, or damaged at its length
abbrev pub IsLongAnswer : {T : Type 0} → ℕ → Result T LogdbError → List ℕ → Type 0
IsLongAnswer limit (Ok done) bytes = content_end limit ≤ length bytes
IsLongAnswer limit (Err (Damaged at)) bytes =
    (at ≡ length bytes) × (length bytes < content_end limit)
IsLongAnswer limit (Err Fault) bytes = Unit {0}
IsLongAnswer limit (Err (LogFull need room)) bytes = ⊥
IsLongAnswer limit (Err (NotHeld first)) bytes = ⊥
IsLongAnswer limit (Err NoMemory) bytes = ⊥

-- each payload is an entry's image, or that of the record at this place is none
abbrev pub IsChecked : {T : Type 0} → Result (List Entry) ℕ → Result T LogdbError → Type 0
IsChecked read (Ok done) = (all : List Entry) × (read ≡ Ok all)
IsChecked read (Err (Damaged at)) = read ≡ Err at
IsChecked read (Err Fault) = Unit {0}
IsChecked read (Err NoMemory) = Unit {0}
IsChecked read (Err (LogFull need room)) = ⊥
IsChecked read (Err (NotHeld first)) = ⊥
