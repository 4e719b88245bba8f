-- What the parts of making a Dirty log Live leave.
use Rattle.std.specs.Prelude.{◌≡◌, ◌⊎◌, ℕ, ◌≤◌, List, [], length, Some}
use Rattle.odb_device.specs.World.{World, file_of}
use Rattle.odb_device.specs.Images.{EachImage}
use Rattle.odb_device.specs.Moments.{Runs}
use Rattle.odb_device.specs.Zeros.{AreZero}
use Rattle.odb_extent.specs.Opened.{content_end}
use Rattle.odb_extent.specs.Standing.{ExtentState, limit_of, fields_of, limit_tried, fields_tried, IsSound, IsFileOf, IsSettled}
use Rattle.odb_logdb.specs.declared.fields.LogFields.{LogFields}
use Rattle.odb_logdb.specs.Fields.{LIVE, DIRTY, fields_image, lawful_in, log_fields}
use Rattle.odb_logdb.specs.Opened.{MOST, Holds}

-- the bytes from one to before another are there, and zeros
pub record HasZeros (start end : ℕ) (bytes : List ℕ) : Type 0 where
  pub long : end ≤ length bytes
  pub zero : AreZero start end bytes

-- no crash leaves other fields than the Dirty ones; or those of a Live log over zeros
abbrev pub MayBeLiveBy : ExtentState → LogFields → List ℕ → Type 0
MayBeLiveBy e f bytes =
    (lawful_in (limit_of e) (fields_tried e) ≡ Some f)
    ⊎ ((fields_tried e ≡ fields_image (log_fields LIVE f.first))
    × AreZero 1024 (content_end (limit_of e)) bytes)

-- an image of a file whose log is Dirty
pub record IsDirtyImage (e : ExtentState) (f : LogFields) (bytes : List ℕ) : Type 0 where
  pub extents : IsFileOf e bytes
  pub long : content_end (limit_of e) ≤ length bytes
  pub tried : MayBeLiveBy e f bytes

-- the extents keep these fields of a Dirty log
pub record IsDirtyIn (e : ExtentState) (f : LogFields) (w : World) : Type 0 where
  pub file : e.pair.file ≡ 1
  pub most : e.most ≡ MOST
  pub sound : IsSound e
  pub fields : lawful_in (limit_of e) (fields_of e) ≡ Some f
  pub dirty : f.state ≡ DIRTY
  pub limit : limit_tried e ≡ limit_of e
  pub each : EachImage (IsDirtyImage e f) (file_of 1 w)

-- of a Dirty log that is to be Live with these
abbrev pub IsDirtyOf : ExtentState → LogFields → World → Type 0
IsDirtyOf e live w = (f : LogFields) × (live ≡ log_fields LIVE f.first) × IsDirtyIn e f w

-- at each moment each image holds no entry
abbrev pub HoldsNoneThrough : ℕ → World → World → Type 0
HoldsNoneThrough first old new = Runs 1 (EachImage (Holds first [])) old new

-- the extents keep these fields of a Live log over zeros, and no crash leaves others
pub record IsLiveIn (e : ExtentState) (f : LogFields) (w : World) : Type 0 where
  pub file : e.pair.file ≡ 1
  pub most : e.most ≡ MOST
  pub sound : IsSound e
  pub settled : IsSettled e
  pub fields : lawful_in (limit_of e) (fields_of e) ≡ Some f
  pub each : EachImage (IsFileOf e) (file_of 1 w)
  pub zeros : EachImage (HasZeros 1024 (content_end (limit_of e))) (file_of 1 w)
