-- A TRANSDB in memory and the bytes of its file.
use Rattle.std.specs.Prelude.{◌≡◌, ℕ, ◌+◌, ◌-◌, ◌≤◌, true, false, List, length, drop, Option, Some, None, IfSome, IsTrue}
use Rattle.odb_device.specs.World.{File}
use Rattle.odb_device.specs.Images.{EachImage}
use Rattle.odb_pair.specs.Standing.{PairState, StandsFor as PairStandsFor}
use Rattle.odb_reclog.specs.Standing.{Log, Stands as LogStands}
use Rattle.odb_model.specs.declared.entry.Entry.{Entry}
use Rattle.odb_model.specs.declared.side.OtherSide.{OtherSide}
use Rattle.odb_model.specs.declared.side.OtherSide.TheVariants.{Live, Dirty, Clean}
use Rattle.odb_model.specs.State.{IsNumberedFrom}
use Rattle.odb_model.specs.Width.{records_width}
use Rattle.odb_transdb.specs.declared.header.Header.{Header}
use Rattle.odb_transdb.specs.Header.{header_image, is_header, side_start, side_end, first_on, active_first, first_held, other_of}
use Rattle.odb_transdb.specs.Opened.{Holds, entries_in}
use Rattle.odb_transdb.specs.Kept.{AreWithin, AreKept}

-- Its header, the pair that keeps it, the log of the active side, and that of the other side where
-- it is Live; and the places kept of each, for the readings.
pub record Db : Type 0 where
  pub header : Header
  pub pair : PairState
  pub active : Log
  pub live : Option Log
  pub places : List ℕ
  pub live_places : List ℕ

-- the log is that of this side of file 0
pub record IsOfSide (h : Header) (side : ℕ) (log : Log) : Type 0 where
  pub file : log.file ≡ 0
  pub start : log.start ≡ side_start h side
  pub end : log.end ≡ side_end h side
  pub first : log.first ≡ first_on h side

-- there is a log of the other side just where it is Live; then it ends right before the active one
-- begins
abbrev pub IsLiveBy : Header → OtherSide → Option Log → Log → Type 0
IsLiveBy h Live (Some log) active =
    IsOfSide h (other_of h) log × (log.next ≡ active.first) × (log.in_doubt ≡ false)
IsLiveBy h Live None active = ⊥
IsLiveBy h Dirty (Some log) active = ⊥
IsLiveBy h Dirty None active = Unit {0}
IsLiveBy h Clean (Some log) active = ⊥
IsLiveBy h Clean None active = Unit {0}

-- the header is lawful, the pair of file 0 keeps it where that is settled, the logs are those of its
-- sides, and the places kept lie in them
pub record IsDb (db : Db) : Type 0 where
  pub lawful : IsTrue (is_header db.header)
  pub file : db.pair.file ≡ 0
  pub kept : db.pair.settled ≡ true
      → (db.pair.value ≡ header_image db.header) × (db.pair.tried ≡ db.pair.value)
  pub active : IsOfSide db.header db.header.active db.active
  pub place : db.active.start ≤ db.active.place
  pub from : first_on db.header db.header.active ≤ db.active.next
  pub live : IsLiveBy db.header db.header.other db.live db.active
  pub places : AreWithin db.active db.places
  pub live_places : IfSome db.live (λ log. AreWithin log db.live_places)

-- Where the active side lies, of whatever file: its next record stands in it, and its number isn't
-- below that of the side's first, which is 1 or more
pub record IsPlaced (db : Db) : Type 0 where
  pub side : IsOfSide db.header db.header.active db.active
  pub place : db.active.start ≤ db.active.place
  pub from : first_on db.header db.header.active ≤ db.active.next
  pub some : 1 ≤ first_on db.header db.header.active

-- they differ in the places kept of the active side alone
pub record AreAlike (old new : Db) : Type 0 where
  pub header : new.header ≡ old.header
  pub pair : new.pair ≡ old.pair
  pub active : new.active ≡ old.active
  pub live : new.live ≡ old.live
  pub live_places : new.live_places ≡ old.live_places

-- they are under the same header, and both placed
pub record AreAlikePlaced (old new : Db) : Type 0 where
  pub header : new.header ≡ old.header
  pub before : IsPlaced old
  pub after : IsPlaced new

-- no crash leaves another header in the pair than this one
pub record IsSettled (db : Db) : Type 0 where
  pub lawful : IsTrue (is_header db.header)
  pub settled : db.pair.settled ≡ true
  pub value : db.pair.value ≡ header_image db.header
  pub tried : db.pair.tried ≡ db.pair.value

-- the bytes are those of the pair, and hold these entries
pub record StandsFor (db : Db) (entries : List Entry) (bytes : List ℕ) : Type 0 where
  pub pair : PairStandsFor db.pair bytes
  pub holds : Holds db.header entries bytes

-- the places kept of each side that holds entries are those of its records
abbrev pub HasPlaces : Db → Option File → Type 0
HasPlaces db file =
    AreKept db.active db.places file × IfSome db.live (λ log. AreKept log db.live_places file)

-- The pair is settled, each image holds the entries that a read gives, which end where the next
-- record's number begins, each log stands for its side, and the places kept are those of the records.
-- Of a file that isn't told this says that the pair is settled
abbrev pub Stands : Db → Option File → Type 0
Stands db None = IsSettled db
Stands db (Some file) =
    LogStands db.active (Some file) × IfSome db.live (λ log. LogStands log (Some file))
    × EachImage (StandsFor db (entries_in (Some file))) (Some file)
    × (first_held db.header + length (entries_in (Some file)) ≡ db.active.next)
    × IsSettled db × HasPlaces db (Some file)

-- the bytes left on the active side
abbrev pub room_of : Db → ℕ
room_of db = db.active.end - db.active.place

-- after a record of n bytes was added
pub record IsAdvanced (n : ℕ) (old new : Db) : Type 0 where
  pub header : new.header ≡ old.header
  pub next : new.active.next ≡ old.active.next + 1
  pub place : new.active.place ≡ old.active.place + n
  pub usable : new.active.in_doubt ≡ false

-- after a call that failed before the gate: the entries are as before and stand, and the place and
-- the number of the next record too
pub record IsSettledIn (before after : Option File) (old new : Db) : Type 0 where
  pub stands : Stands new after
  pub entries : entries_in after ≡ entries_in before
  pub header : new.header ≡ old.header
  pub next : new.active.next ≡ old.active.next
  pub place : new.active.place ≡ old.active.place
  pub usable : new.active.in_doubt ≡ false

-- the place and the number of the next record are as before
abbrev pub SamePlace : Db → Db → Type 0
SamePlace old new = (new.active.next ≡ old.active.next) × (new.active.place ≡ old.active.place)

-- the entries are all that the log of commits holds, in order, as its numbers say
abbrev pub AreAllOf : Db → List Entry → Type 0
AreAllOf db entries =
    IsNumberedFrom (first_held db.header) entries
    × (first_held db.header + length entries ≡ db.active.next)

-- the records of those of them that the active side holds fill it up to the next record's place
abbrev pub FillActive : Db → List Entry → Type 0
FillActive db entries =
    records_width (drop (active_first db.header - first_held db.header) entries)
    ≡ db.active.place - db.active.start

-- the logs of the active side and of the other one, under a lawful header
pub record AreSides (h : Header) (live : Option Log) (active : Log) : Type 0 where
  pub lawful : IsTrue (is_header h)
  pub side : IsOfSide h h.active active
  pub other : IsLiveBy h h.other live active
  pub least : first_on h h.active ≤ active.next

-- The entries from a number on go to the last one held, and the records of those on the active side
-- to the place of the next one
pub record AreWhole (db : Db) (from : ℕ) (entries : List Entry) : Type 0 where
  pub count : from ≤ db.active.next → from + length entries ≡ db.active.next
  pub width : from ≤ active_first db.header
      → records_width (drop (active_first db.header - from) entries)
      ≡ db.active.place - db.active.start
