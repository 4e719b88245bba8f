-- An extent file in memory, and the bytes of its file.
use Rattle.std.specs.Prelude.{◌≡◌, ◌⊎◌, ℕ, ◌+◌, ◌<◌, ◌≤◌, true, List, length, Option}
use Rattle.odb_device.specs.World.{File, World, file_of}
use Rattle.odb_device.specs.Images.{EachImage}
use Rattle.odb_device.specs.Moments.{Runs}
use Rattle.odb_device.specs.TornSets.{InRange, TornInFrom}
use Rattle.odb_device.specs.Zeros.{AreZero}
use Rattle.odb_pair.specs.Standing.{PairState, StandsFor, formatted}
use Rattle.odb_extent.specs.Opened.{content_end, value_with, limit_in, fields_in, Holds, AddsZeros}

-- its pair, with the file's number, and how many extents it may have
pub record ExtentState : Type 0 where
  pub pair : PairState
  pub most : ℕ

-- the limit and the fields kept
abbrev pub limit_of : ExtentState → ℕ
limit_of e = limit_in e.pair.value

abbrev pub fields_of : ExtentState → List ℕ
fields_of e = fields_in e.pair.value

-- those that a crash may leave besides, since a call that broke off
abbrev pub limit_tried : ExtentState → ℕ
limit_tried e = limit_in e.pair.tried

abbrev pub fields_tried : ExtentState → List ℕ
fields_tried e = fields_in e.pair.tried

-- a limit kept from 1 to `most`, at most 4,096, and one tried that is no less and no more than
-- `most`
pub record IsSound (e : ExtentState) : Type 0 where
  pub low : 1 ≤ limit_of e
  pub high : limit_of e ≤ e.most
  pub most : e.most ≤ 4096
  pub tried_low : limit_of e ≤ limit_tried e
  pub tried_high : limit_tried e ≤ e.most

-- no crash leaves anything but what is kept
pub record IsSettled (e : ExtentState) : Type 0 where
  pub settled : e.pair.settled ≡ true
  pub tried : e.pair.tried ≡ e.pair.value

-- The bytes are those of the file: its pair's, and what a limit tried adds to the one kept is
-- zeros. Of the content inside the limit it asks nothing.
pub record IsFileOf (e : ExtentState) (bytes : List ℕ) : Type 0 where
  pub pair : StandsFor e.pair bytes
  pub added : AddsZeros (limit_of e) (limit_tried e) bytes

-- each image of the file is one of these
abbrev pub Stands : ExtentState → Option File → Type 0
Stands e file = EachImage (IsFileOf e) file

-- they hold this limit, with what it adds to the one kept as zeros, and these fields
pub record HoldsAt (e : ExtentState) (limit : ℕ) (fields : List ℕ) (bytes : List ℕ) : Type 0 where
  pub holds : Holds e.most limit fields bytes
  pub added : AddsZeros (limit_of e) limit bytes

-- they hold what is kept, or what a call tried that broke off
abbrev pub HoldsKept : ExtentState → List ℕ → Type 0
HoldsKept e bytes =
    HoldsAt e (limit_of e) (fields_of e) bytes ⊎ HoldsAt e (limit_tried e) (fields_tried e) bytes

-- or this limit and these fields
abbrev pub HoldsKeptOr : ExtentState → ℕ → List ℕ → List ℕ → Type 0
HoldsKeptOr e limit fields bytes = HoldsKept e bytes ⊎ HoldsAt e limit fields bytes

-- a place of the content inside a limit
abbrev pub IsContent : ℕ → ℕ → Type 0
IsContent limit i = (1024 ≤ i) × (i < content_end limit)

-- the extent behind the limit, and the pair besides
abbrev pub IsBehindContent : ℕ → ℕ → Type 0
IsBehindContent limit = InRange (content_end limit) 1048576

abbrev pub IsBesideContent : ℕ → ℕ → Type 0
IsBesideContent limit i = (i < 1024) ⊎ IsBehindContent limit i

-- from old to new only the file changes, and each image is one from before but for places in P
abbrev pub WritesIn : (ℕ → Type 0) → ℕ → ℕ → World → World → Type 0
WritesIn P end file old new = Runs file (TornInFrom P end (file_of file old)) old new

-- From old to new only the file changes; at each moment each image of it has P, and is one from
-- before but for its pair and the extent behind the limit kept. So the content stays.
pub record RunsExtents (e : ExtentState) (P : List ℕ → Type 0) (old new : World) : Type 0 where
  pub run : Runs e.pair.file (EachImage P) old new
  pub beside : WritesIn (IsBesideContent (limit_of e)) (content_end (limit_of e + 1)) e.pair.file
      old new

-- what `format` leaves: one extent of zeros under these fields
pub record IsNew (most : ℕ) (fields : List ℕ) (bytes : List ℕ) : Type 0 where
  pub holds : Holds most 1 fields bytes
  pub long : content_end 1 ≤ length bytes
  pub zero : AreZero 1024 (content_end 1) bytes

abbrev pub new_file : ℕ → ℕ → List ℕ → ExtentState
new_file file most fields = record { pair = formatted file (value_with 1 fields); most = most }

-- after a call with Ok that put this limit and these fields: they are kept, and nothing else is
-- tried
pub record Takes (limit : ℕ) (fields : List ℕ) (old new : ExtentState) : Type 0 where
  pub file : new.pair.file ≡ old.pair.file
  pub most : new.most ≡ old.most
  pub limit_is : limit_of new ≡ limit
  pub fields_are : fields_of new ≡ fields
  pub settled : IsSettled new

-- this limit and these fields were tried
abbrev pub Tried : ℕ → List ℕ → ExtentState → Type 0
Tried limit fields e = (limit_tried e ≡ limit) × (fields_tried e ≡ fields)

-- after a call that failed: what is kept stays, and a crash may leave besides it what was tried
-- before, or this limit and these fields
pub record LeavesTried (limit : ℕ) (fields : List ℕ) (old new : ExtentState) : Type 0 where
  pub file : new.pair.file ≡ old.pair.file
  pub most : new.most ≡ old.most
  pub limit_is : limit_of new ≡ limit_of old
  pub fields_are : fields_of new ≡ fields_of old
  pub tried : Tried (limit_tried old) (fields_tried old) new
      ⊎ (Tried (limit_of old) (fields_of old) new ⊎ Tried limit fields new)
