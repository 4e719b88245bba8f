-- A TRANSDB whose pair may be unsettled: what a crash may leave of it, and what turning and cleaning
-- its sides do.
use Rattle.std.specs.Prelude.{◌≡◌, ◌≢◌, ◌⊎◌, ℕ, ◌+◌, ◌-◌, ◌<◌, ◌≤◌, max, false, List, ◌++◌, length, ⊤, Option, Some, None, Result, Ok, Err, IfSome, IfOk}
use Rattle.odb_device.specs.World.{File, World, file_of}
use Rattle.odb_device.specs.Images.{EachImage}
use Rattle.odb_device.specs.Calls.{FileCountRose}
use Rattle.odb_device.specs.Moments.{Runs, WritesWithin}
use Rattle.odb_device.specs.TornSets.{TornInFrom}
use Rattle.odb_device.specs.Zeros.{AreZero}
use Rattle.odb_pair.specs.Standing.{StandsFor as PairStandsFor}
use Rattle.odb_reclog.specs.Standing.{Stands as LogStands, begun}
use Rattle.odb_model.specs.declared.entry.Entry.{Entry}
use Rattle.odb_model.specs.declared.side.OtherSide.{OtherSide}
use Rattle.odb_model.specs.declared.side.OtherSide.TheVariants.{Live, Dirty, Clean}
use Rattle.odb_transdb.specs.declared.header.Header.{Header}
use Rattle.odb_transdb.specs.declared.error.TransdbError.{TransdbError}
use Rattle.odb_transdb.specs.declared.error.TransdbError.TheVariants.{NoDatabase, Damaged, Full, FaultBefore, InDoubt, NotClean, Held, Fault, NoMemory}
use Rattle.odb_transdb.specs.Header.{header_image, header_of, side_start, side_end, active_first, first_held, other_of, with_other, turned}
use Rattle.odb_transdb.specs.Opened.{holding, with_header, Holds, entries_in}
use Rattle.odb_transdb.specs.Standing.{Db, HasPlaces, Stands}
use Rattle.odb_transdb.specs.Worlds.{Forces}

-- a header that a crash may leave: that of the value that the pair keeps, or of the one tried since
abbrev pub IsLeft : Db → Header → Type 0
IsLeft db k = (header_of db.pair.value ≡ Some k) ⊎ (header_of db.pair.tried ≡ Some k)

-- What may be left beside this header by a put that broke off, where the next record has this number:
-- of a Clean other side that a turn was begun, and of a Dirty one that it was Live, or is Clean
abbrev pub IsBeside : ℕ → Header → Header → Type 0
IsBeside next h k =
    (k ≡ h)
    ⊎ (((h.other ≡ Clean) × (k ≡ turned next h))
    ⊎ ((h.other ≡ Dirty) × ((k ≡ with_other Live h) ⊎ (k ≡ with_other Clean h))))

-- the entries are the last of all, from the first number of the header to before the next one
pub record IsEnd (h : Header) (next : ℕ) (all entries : List Entry) : Type 0 where
  pub front : List Entry
  pub all_is : all ≡ front ++ entries
  pub count : first_held h + length entries ≡ next

-- the bytes hold the last of these entries, under this header
pub record HoldsEnd (h : Header) (next : ℕ) (all : List Entry) (bytes : List ℕ) : Type 0 where
  pub entries : List Entry
  pub end : IsEnd h next all entries
  pub holds : Holds h entries bytes

-- under one of the headers in P
abbrev pub HoldsOneOf : (Header → Type 0) → ℕ → List Entry → List ℕ → Type 0
HoldsOneOf P next all bytes = (k : Header) × P k × HoldsEnd k next all bytes

-- This value is the image of the header or of one that may be beside it; and if it were the one that
-- the pair counts the bytes would hold the last of these entries under it
pub record HoldsBy
    (h : Header) (next : ℕ) (all : List Entry) (value : List ℕ) (bytes : List ℕ) :
    Type 0 where
  pub header : Header
  pub is : header_of value ≡ Some header
  pub beside : IsBeside next h header
  pub entries : List Entry
  pub end : IsEnd header next all entries
  pub holds : with_header (Some header) bytes ≡ holding header entries

-- the bytes are those of the pair, and hold the last of these entries whichever of the headers counts
pub record StandsEither (db : Db) (all : List Entry) (bytes : List ℕ) : Type 0 where
  pub pair : PairStandsFor db.pair bytes
  pub own : HoldsBy db.header db.active.next all (header_image db.header) bytes
  pub kept : HoldsBy db.header db.active.next all db.pair.value bytes
  pub tried : HoldsBy db.header db.active.next all db.pair.tried bytes

-- Each image holds the last of these entries, under one of the headers that a crash may leave, each
-- log stands for its side, and the places kept are those of the records. Of a file that isn't told
-- this says nothing
abbrev pub StandsSince : Db → List Entry → Option File → Type 0
StandsSince db all None = Unit {0}
StandsSince db all (Some file) =
    LogStands db.active (Some file) × IfSome db.live (λ log. LogStands log (Some file))
    × EachImage (StandsEither db all) (Some file) × HasPlaces db (Some file)

-- of some entries
abbrev pub MayStand : Db → Option File → Type 0
MayStand db file = (all : List Entry) × StandsSince db all file

-- these entries are held up to the next record's number; of a file that isn't told, nothing is said
abbrev pub EndsHeld : Db → List Entry → Option File → Type 0
EndsHeld db all file = IfSome file
    (λ f. IsEnd db.header db.active.next all (entries_in (Some f)))

-- the entries are the last of all, from this number on; none where there is none
pub record AreLast (from next : ℕ) (all entries : List Entry) : Type 0 where
  pub front : List Entry
  pub all_is : all ≡ front ++ entries
  pub count : from + length entries ≡ max from next

-- where the file stands for some entries, what is given is the last of them from a number on
abbrev pub GivesLast : Db → ℕ → Result (List Entry) TransdbError → Option File → Type 0
GivesLast db from result file = (all : List Entry) → StandsSince db all file
    → IfSome file (λ f. IfOk result (AreLast from db.active.next all))

-- the number of the last entry of a Live side, which ends right before the active one begins
abbrev pub last_live : Db → ℕ
last_live db = active_first db.header - 1

-- they differ in the pair alone
pub record SameSides (old new : Db) : Type 0 where
  pub header : new.header ≡ old.header
  pub active : new.active ≡ old.active
  pub live : new.live ≡ old.live
  pub places : new.places ≡ old.places
  pub live_places : new.live_places ≡ old.live_places

-- `turn`: NotClean exactly where the other side isn't Clean; else it is done, or a fault came
abbrev pub IsTurnAnswer : Db → Result ⊤ TransdbError → Type 0
IsTurnAnswer db (Ok done) = db.header.other ≡ Clean
IsTurnAnswer db (Err NotClean) = db.header.other ≢ Clean
IsTurnAnswer db (Err Fault) = db.header.other ≡ Clean
IsTurnAnswer db (Err NoDatabase) = ⊥
IsTurnAnswer db (Err (Damaged at)) = ⊥
IsTurnAnswer db (Err (Full need room)) = ⊥
IsTurnAnswer db (Err FaultBefore) = ⊥
IsTurnAnswer db (Err (InDoubt number)) = ⊥
IsTurnAnswer db (Err (Held mark last)) = ⊥
IsTurnAnswer db (Err NoMemory) = ⊥

-- a header that is left, or that of the turn, with the same first entry
abbrev pub IsOfTurn : Db → Header → Type 0
IsOfTurn db k =
    (IsLeft db k ⊎ (k ≡ turned db.active.next db.header))
    × (first_held k ≡ first_held db.header)

-- Through a turn at each moment each image holds the same entries, under a header that was left or the
-- new one; and what stood for these entries does so
pub record RunsTurn (all : List Entry) (old new : Db) (before after : World) : Type 0 where
  pub run : Runs 0 (EachImage (HoldsOneOf (IsOfTurn old) old.active.next all)) before after
  pub stands : StandsSince new all (file_of 0 after)

-- After it: the other side is active and has no record, the one that was is Live with all of its own,
-- and no crash leaves anything but this
pub record IsTurned (old new : Db) (after : World) : Type 0 where
  pub header : new.header ≡ turned old.active.next old.header
  pub active : new.active ≡ begun 0 (side_start new.header new.header.active)
      (side_end new.header new.header.active) old.active.next
  pub live : new.live ≡ Some old.active
  pub stands : Stands new (file_of 0 after)

-- a Live side holds an entry above this number
abbrev pub IsHeld : Db → ℕ → Type 0
IsHeld db least = (db.header.other ≡ Live) × (least < last_live db)

-- none is above it
abbrev pub IsReleased : Db → ℕ → Type 0
IsReleased db least = db.header.other ≡ Live → last_live db ≤ least

-- `clean`: Held exactly where a Live side holds an entry above this number; else it is done, or a
-- fault came, which it does only where the side isn't Clean
abbrev pub IsCleanAnswer : Db → ℕ → Result ⊤ TransdbError → Type 0
IsCleanAnswer db least (Ok done) = IsReleased db least
IsCleanAnswer db least (Err (Held mark last)) =
    IsHeld db least × (mark ≡ least) × (last ≡ last_live db)
IsCleanAnswer db least (Err Fault) = IsReleased db least × (db.header.other ≢ Clean)
IsCleanAnswer db least (Err NoDatabase) = ⊥
IsCleanAnswer db least (Err (Damaged at)) = ⊥
IsCleanAnswer db least (Err (Full need room)) = ⊥
IsCleanAnswer db least (Err FaultBefore) = ⊥
IsCleanAnswer db least (Err (InDoubt number)) = ⊥
IsCleanAnswer db least (Err NotClean) = ⊥
IsCleanAnswer db least (Err NoMemory) = ⊥

-- a header that is left, or the same one with a Dirty or a Clean other side
abbrev pub IsOfClean : Db → Header → Type 0
IsOfClean db k =
    IsLeft db k ⊎ ((k ≡ with_other Dirty db.header) ⊎ (k ≡ with_other Clean db.header))

-- Through a cleaning at each moment each image holds the last of the entries, from the old first number
-- or the new one; and what stood for these entries does so
pub record RunsClean (all : List Entry) (old new : Db) (before after : World) : Type 0 where
  pub run : Runs 0 (EachImage (HoldsOneOf (IsOfClean old) old.active.next all)) before after
  pub stands : StandsSince new all (file_of 0 after)

-- The other side is in this state, and none is Live; the active side is as before
pub record HasOther (state : OtherSide) (old new : Db) : Type 0 where
  pub header : new.header ≡ with_other state old.header
  pub active : new.active ≡ old.active
  pub live : new.live ≡ None

-- after a cleaning: no crash leaves anything but a Clean other side
pub record IsCleaned (old new : Db) (after : World) : Type 0 where
  pub clean : HasOther Clean old new
  pub stands : Stands new (file_of 0 after)

-- the side that isn't active is zeros
abbrev pub HasZeroOther : Header → List ℕ → Type 0
HasZeroOther h bytes = AreZero (side_start h (other_of h)) (side_end h (other_of h)) bytes

-- the byte is of the pair, or of the side that isn't active
abbrev pub IsOfOther : Header → ℕ → Type 0
IsOfOther h i = (i < 1024) ⊎ ((side_start h (other_of h) ≤ i) × (i < side_end h (other_of h)))

-- only file 0 changes, and at each moment each image is one from before but for such bytes
abbrev pub WritesOther : Header → World → World → Type 0
WritesOther h old new =
    Runs 0 (TornInFrom (IsOfOther h) (side_end h (other_of h)) (file_of 0 old)) old new

-- a header that is left, or the present one
abbrev pub IsOfSettling : Db → Header → Type 0
IsOfSettling db k = IsLeft db k ⊎ (k ≡ db.header)

-- while the pair is settled only it is written, and each image holds the last of the entries, under a
-- header that was left or the present one
pub record RunsSettling (all : List Entry) (old new : Db) (before after : World) : Type 0 where
  pub run : Runs 0 (EachImage (HoldsOneOf (IsOfSettling old) old.active.next all)) before after
  pub only : WritesWithin 0 0 1024 before after
  pub stands : StandsSince new all (file_of 0 after)
  pub sides : SameSides old new

-- Settling the pair broke off: the count rose, the pair is unsettled, and nothing more was done
pub record BreaksOff
    (result : Result ℕ TransdbError) (settled new : Db) (before mid after : World) : Type 0 where
  pub fault : result ≡ Err FaultBefore
  pub same : new ≡ settled
  pub nothing : after ≡ mid
  pub unsettled : settled.pair.settled ≡ false
  pub rose : FileCountRose 0 before mid

-- The pair is settled first, and what follows is as from a settled one, or it broke off in that
pub record SettlesFirst
    (payload : List ℕ) (all : List Entry) (result : Result ℕ TransdbError) (old new : Db)
    (before after : World) : Type 0 where
  pub mid : World
  pub settled : Db
  pub settling : RunsSettling all old settled before mid
  pub rest : (Stands settled (file_of 0 mid) × Forces payload result settled new mid after)
      ⊎ BreaksOff result settled new before mid after
