-- A log in memory and the bytes of its file.
use Rattle.std.specs.Prelude.{◌≡◌, ◌⊎◌, ℕ, ◌+◌, ◌-◌, ◌≤◌, false, List, [], ◌∷◌, ◌++◌, length, take, Option, Some, None, Ok}
use Rattle.odb_device.specs.World.{File}
use Rattle.odb_device.specs.Images.{EachImage}
use Rattle.odb_device.specs.Zeros.{AreZero}
use Rattle.odb_extent.specs.Opened.{content_end}
use Rattle.odb_extent.specs.Standing.{ExtentState, limit_of, fields_of, limit_tried, fields_tried, IsSound, IsFileOf}
use Rattle.odb_reclog.specs.Records.{end_of_list}
use Rattle.odb_reclog.specs.Standing.{Log, Stands as LogStands, StandsFor as LogStandsFor}
use Rattle.odb_entries.specs.Listed.{entries_from, log_entries}
use Rattle.odb_model.specs.declared.entry.Entry.{Entry}
use Rattle.odb_logdb.specs.declared.fields.LogFields.{LogFields}
use Rattle.odb_logdb.specs.declared.state.ListState.{ListState}
use Rattle.odb_logdb.specs.declared.state.ListState.TheVariants.{Known, Unknown, Dirty}
use Rattle.odb_logdb.specs.Fields.{LIVE, DIRTY, fields_image, lawful_in, log_fields}
use Rattle.odb_logdb.specs.Opened.{MOST, Holds, records_start, entries_in}

-- Its extents and the fields that they keep, the record log of its region, and what is known of the
-- list: all of it, all but whether the record in doubt is there, or that the file is Dirty.
pub record LogState : Type 0 where
  pub extents : ExtentState
  pub fields : LogFields
  pub log : Log
  pub state : ListState

-- the region of a Live log, of which no crash leaves other fields than those kept
pub record IsRegionOf (l : LogState) : Type 0 where
  pub live : l.fields.state ≡ LIVE
  pub alike : fields_tried l.extents ≡ fields_of l.extents
  pub start : l.log.start ≡ records_start l.fields
  pub end : l.log.end ≡ content_end (limit_of l.extents)

-- where the list is known no record is in doubt
pub record IsKnown (l : LogState) : Type 0 where
  pub region : IsRegionOf l
  pub usable : l.log.in_doubt ≡ false

-- the fields of a Dirty log once it is made Live
abbrev pub live_fields : LogState → LogFields
live_fields l = log_fields LIVE l.fields.first

-- a Dirty log has no record, and its region is none yet
pub record IsDirty (l : LogState) : Type 0 where
  pub dirty : l.fields.state ≡ DIRTY
  pub limit : limit_tried l.extents ≡ limit_of l.extents

abbrev pub IsInState : LogState → ListState → Type 0
IsInState l Known = IsKnown l
IsInState l Unknown = IsRegionOf l
IsInState l Dirty = IsDirty l

-- it is file 1, of at most 1,024 extents, which keeps these fields
pub record IsLogdb (l : LogState) : Type 0 where
  pub file : l.extents.pair.file ≡ 1
  pub most : l.extents.most ≡ MOST
  pub sound : IsSound l.extents
  pub fields : lawful_in (limit_of l.extents) (fields_of l.extents) ≡ Some l.fields
  pub log_file : l.log.file ≡ 1
  pub first : l.log.first ≡ l.fields.first
  pub in_state : IsInState l l.state

-- the number of the first entry that it holds, that of the next one, and how many it holds; the one
-- in doubt doesn't count
abbrev pub first_of : LogState → ℕ
first_of l = l.fields.first

abbrev pub next_by : LogState → ListState → ℕ
next_by l Known = l.log.next
next_by l Unknown = l.log.next
next_by l Dirty = first_of l

abbrev pub next_of : LogState → ℕ
next_of l = next_by l l.state

abbrev pub count_of : LogState → ℕ
count_of l = next_of l - first_of l

-- the entries that it holds, as the file reads
abbrev pub held : LogState → Option File → List Entry
held l file = take (count_of l) (entries_in file)

-- the record log once the gate of its body is open
abbrev pub behind_body : Log → Log
behind_body log = record log {
  place = log.clear_from;
  next = log.next + 1;
  clear_from = log.clear_from + 1;
  touched = false;
  has_body = false;
  in_doubt = false;
}

-- the bytes hold these entries, and the record log goes on behind their records
pub record GoesOn (log : Log) (entries : List Entry) (bytes : List ℕ) : Type 0 where
  pub holds : Holds log.first entries bytes
  pub records : List (List ℕ)
  pub between : List ℕ
  pub stands : LogStandsFor log records between bytes
  pub read : entries_from log.first log.start records ≡ Ok entries

-- the bytes hold these entries and one more, whose record is the one in doubt
pub record HasOneMore (log : Log) (entries : List Entry) (bytes : List ℕ) : Type 0 where
  pub last : Entry
  pub holds : Holds log.first (entries ++ last ∷ []) bytes
  pub records : List (List ℕ)
  pub payload : List ℕ
  pub stands : LogStandsFor (behind_body log) (records ++ payload ∷ []) [] bytes
  pub ends : end_of_list log.start records ≡ log.place
  pub read : entries_from log.first log.start records ≡ Ok entries
  pub read_more : entries_from log.first log.start (records ++ payload ∷ [])
      ≡ Ok (entries ++ last ∷ [])

-- the record in doubt is there or not
abbrev pub MayHaveOneMore : Log → List Entry → List ℕ → Type 0
MayHaveOneMore log entries bytes = GoesOn log entries bytes ⊎ HasOneMore log entries bytes

-- no crash leaves other fields than the Dirty ones; or those of a Live log over zeros
abbrev pub MayBeLive : LogState → List ℕ → Type 0
MayBeLive l bytes =
    (lawful_in (limit_of l.extents) (fields_tried l.extents) ≡ Some l.fields)
    ⊎ ((fields_tried l.extents ≡ fields_image (live_fields l))
    × AreZero 1024 (content_end (limit_of l.extents)) bytes)

-- a Dirty log holds none
pub record HoldsNone (l : LogState) (entries : List Entry) (bytes : List ℕ) : Type 0 where
  pub holds : Holds (first_of l) entries bytes
  pub none : entries ≡ []
  pub tried : MayBeLive l bytes

-- the bytes hold these entries, which a list that is known has
abbrev pub HoldsBy : LogState → ListState → List Entry → List ℕ → Type 0
HoldsBy l Known entries bytes =
    Holds (first_of l) entries bytes × (log_entries l.log bytes ≡ Ok entries)
HoldsBy l Unknown entries bytes = MayHaveOneMore l.log entries bytes
HoldsBy l Dirty entries bytes = HoldsNone l entries bytes

-- The bytes are those of the file: the pair's, as long as the limit, and they hold these entries;
-- and where a record is in doubt perhaps that one too
pub record StandsFor (l : LogState) (entries : List Entry) (bytes : List ℕ) : Type 0 where
  pub extents : IsFileOf l.extents bytes
  pub long : content_end (limit_of l.extents) ≤ length bytes
  pub holds : HoldsBy l l.state entries bytes

-- Each image of the file is one of these, of the first of the entries that a read gives, as many as
-- memory counts; and where the list is known its record log stands for the file. Of a file that
-- isn't told this says nothing
pub record StandsIn (l : LogState) (file : File) : Type 0 where
  pub each : EachImage (StandsFor l (held l (Some file))) (Some file)
  pub count : length (held l (Some file)) ≡ count_of l
  pub log : l.state ≡ Known → LogStands l.log (Some file)

abbrev pub Stands : LogState → Option File → Type 0
Stands l None = Unit {0}
Stands l (Some file) = StandsIn l file
