-- What calls of TRANSDB leave of file 0, said of the worlds before and after them.
use Rattle.std.specs.Prelude.{◌≡◌, ◌≢◌, ◌+◌, ◌-◌, ◌≤◌, ℕ, true, false, List, [], ◌∷◌, ◌++◌, length, IsTrue, IfSome, Some, Result, Ok, Err, OnOk, IfOk}
use Rattle.odb_device.specs.World.{World, file_of}
use Rattle.odb_device.specs.Images.{EachImage, IsKept}
use Rattle.odb_device.specs.Calls.{FileCountRose, IsOnePut, Keeps}
use Rattle.odb_device.specs.Moments.{Runs, WritesWithin}
use Rattle.odb_device.specs.TornSets.{TornInFrom}
use Rattle.odb_device.specs.Zeros.{AreZero}
use Rattle.odb_pair.specs.Places.{opened as pair_opened, holding as holding_value}
use Rattle.odb_pair.specs.Standing.{PairState, StandsFor as PairStandsFor}
use Rattle.odb_reclog.specs.Told.{IfTold}
use Rattle.odb_reclog.specs.Regions.{region, TearsOpenEnd}
use Rattle.odb_reclog.specs.Records.{OPEN, HEAD, payload_at, log_of, end_of_list}
use Rattle.odb_reclog.specs.Standing.{HasItsBody}
use Rattle.odb_codec.specs.Reading.{read_entry}
use Rattle.odb_model.specs.declared.entry.Entry.{Entry}
use Rattle.odb_model.specs.State.{IsNumberedFrom}
use Rattle.odb_transdb.specs.declared.header.Header.{Header}
use Rattle.odb_transdb.specs.declared.error.TransdbError.{TransdbError}
use Rattle.odb_transdb.specs.declared.error.TransdbError.TheVariants.{NoDatabase, FaultBefore, InDoubt, Fault}
use Rattle.odb_transdb.specs.Header.{header_image, is_header, side_start, side_end, first_on, active_first, first_held}
use Rattle.odb_transdb.specs.Opened.{entries_in}
use Rattle.odb_transdb.specs.Opening.{KeepsSide}
use Rattle.odb_transdb.specs.Standing.{Db, Stands, IsPlaced, IsSettledIn, IsAdvanced, SamePlace, AreAllOf, FillActive}
use Rattle.odb_transdb.specs.Steps.{IsWritten}
use Rattle.odb_transdb.specs.Answers.{HoldsAll, HoldsAllOrMore, HasRecord, KeepsOpened, ClosesGates, IsListEnd}

-- only file 0 changes, and at each moment each image opens as one from before did
abbrev pub OpensAsBefore : World → World → Type 0
OpensAsBefore old new = Runs 0 (KeepsOpened (file_of 0 old)) old new

-- Only file 0 changes, and at each moment each image is one from before but for open gates where
-- the lists of the sides that hold entries end, as the file reads: there are two at most, and none
-- where its pair keeps no lawful header
abbrev pub OnlyClosesGates : World → World → Type 0
OnlyClosesGates old new =
    IfTold 0 old (λ bytes. Runs 0 (TornInFrom (IsListEnd bytes) 0 (file_of 0 old)) old new)

-- the same of one side alone
abbrev pub TearsSideEnd : Header → ℕ → World → World → Type 0
TearsSideEnd h side =
    TearsOpenEnd (region 0 (side_start h side) (side_end h side) (first_on h side))

-- each byte reads as before, but that a gate that was open may be closed
abbrev pub HasClosedGates : World → World → Type 0
HasClosedGates old new = ClosesGates (file_of 0 old) (file_of 0 new)

-- the entries are as before, as the file reads
abbrev pub SameEntries : World → World → Type 0
SameEntries old new = entries_in (file_of 0 new) ≡ entries_in (file_of 0 old)

-- or there is one more behind them
abbrev pub AddsEntry : Entry → World → World → Type 0
AddsEntry e old new =
    IfSome (file_of 0 new) (λ f. entries_in (Some f) ≡ entries_in (file_of 0 old) ++ e ∷ [])

-- only file 0 changes, and at each moment each image holds the entries from before
abbrev pub KeepsEntries : Db → World → World → Type 0
KeepsEntries db old new = Runs 0 (HoldsAll db (entries_in (file_of 0 old))) old new

-- or those and this one
abbrev pub KeepsOrAddsEntry : Db → Entry → World → World → Type 0
KeepsOrAddsEntry db e old new = Runs 0 (HoldsAllOrMore db (entries_in (file_of 0 old)) e) old new

-- the place and the number of the next record are as before, and what is held stands
abbrev pub Settles : Db → Db → World → World → Type 0
Settles old new before after = IsSettledIn (file_of 0 before) (file_of 0 after) old new

-- What an opening with this result leaves of file 0. At each moment each image opens as one from
-- before, and is one from before but for open gates where the lists of the sides that hold entries
-- end. At the end, unless a call failed, each of these gates reads as before or is closed. Where
-- there is no database the bytes stay, and are on the disk; after Ok the entries are as before
pub record LeavesOpened {T : Type 0} (result : Result T TransdbError) (old new : World) :
    Type 0 where
  pub run : OpensAsBefore old new
  pub gates : OnlyClosesGates old new
  pub closed : result ≢ Err Fault → HasClosedGates old new
  pub nothing : result ≡ Err NoDatabase → Keeps 0 old new
  pub entries : IfOk result (λ _. SameEntries old new)

-- what an opening finds: what is held stands, a record may be forced, and the entries are all of
-- those held
pub record IsOpened (db : Db) (entries : List Entry) (after : World) : Type 0 where
  pub stands : Stands db (file_of 0 after)
  pub usable : db.active.in_doubt ≡ false
  pub numbers : AreAllOf db entries
  pub width : FillActive db entries
  pub placed : IsPlaced db

-- the pair of file 0 was opened, all of which is on the disk, and keeps this lawful header
pub record HasPair (pair : PairState) (h : Header) (w : World) : Type 0 where
  pub lawful : IsTrue (is_header h)
  pub value : pair.value ≡ header_image h
  pub file : pair.file ≡ 0
  pub settled : pair.settled ≡ true
  pub tried : pair.tried ≡ pair.value
  pub kept : IsKept (file_of 0 w)
  pub stands : EachImage (PairStandsFor pair) (file_of 0 w)
  pub found : IfTold 0 w (λ bytes. pair_opened bytes ≡ holding_value pair.value)

-- behind the closed gate of the next record the file reads the image of this entry
abbrev pub IsWrittenIn : Db → Entry → World → Type 0
IsWrittenIn db e w = IsWritten db e (file_of 0 w)

-- at each moment each image holds the entries from before, or those and this one, which is there
-- after Ok
pub record PutsEntry {T E : Type 0} (db : Db) (e : Entry) (result : Result T E) (old new : World)
    : Type 0 where
  pub run : KeepsOrAddsEntry db e old new
  pub added : OnOk result (AddsEntry e old new)

-- in each image all is zeros from where the list of the active side ends
abbrev pub HasClearTail : Db → World → Type 0
HasClearTail db w =
    let log = db.active in
    EachImage (λ image.
    let place = end_of_list log.start (log_of log.start log.end log.first image) in
    AreZero place log.end image) (file_of 0 w)

-- after a record of n bytes of payload was added, what is held stands, the next one goes behind it,
-- and there all is clear
pub record IsForced (n : ℕ) (old new : Db) (after : World) : Type 0 where
  pub stands : Stands new (file_of 0 after)
  pub advanced : IsAdvanced (HEAD + n) old new
  pub clear : HasClearTail old after

-- Only what is behind the gate of the next record changes: at each moment each image is one from
-- before, but for bytes of the active side behind that gate. So the gate isn't written
abbrev pub WritesBehindGate : Db → World → World → Type 0
WritesBehindGate db old new =
    let from = db.active.place + 1 in
    WritesWithin 0 from (db.active.end - from) old new

-- the same, but that the gate may be written too
abbrev pub WritesFromGate : Db → World → World → Type 0
WritesFromGate db old new =
    let from = db.active.place in
    WritesWithin 0 from (db.active.end - from) old new

-- and at the end nothing stands behind the last record, so the record is all that is left of the
-- writes
abbrev pub WritesRecord : Db → World → World → Type 0
WritesRecord db old new = WritesFromGate db old new × HasClearTail db new

-- a stretch of writes behind the gate, at one moment of which all behind it was zeros on the disk:
-- what stands there at its end was written in it
pub record RewritesTail (db : Db) (old new : World) : Type 0 where
  pub mid : World
  pub clears : WritesBehindGate db old mid
  pub cleared : EachImage (AreZero (db.active.place + 1) db.active.end) (file_of 0 mid)
  pub writes : WritesBehindGate db mid new

-- the file's count rose before the gate of the next record was written, which it was at no moment:
-- the entries are as before, and stand
pub record FaultedBefore (old new : Db) (before after : World) : Type 0 where
  pub keeps : KeepsEntries old before after
  pub settles : Settles old new before after
  pub gate : WritesBehindGate old before after
  pub rose : FileCountRose 0 before after

-- The file's count rose from the gate's write on. At a moment of this stretch, the last of `mid`,
-- the tail had been made zeros, and the whole record but its gate was written and on the disk;
-- until then each image held just the entries before. From then on no call failed or changed
-- anything but the gate's write and the sync behind it, or one failed in its place and changed
-- nothing; no other byte than the gate may have changed, and the count rose
pub record RoseAtGate (db : Db) (payload : List ℕ) (old new : World) : Type 0 where
  pub mid : World
  pub before : KeepsEntries db old mid
  pub tail : RewritesTail db old mid
  pub body : EachImage (HasRecord db payload) (file_of 0 mid)
  pub gate : IsOnePut 0 db.active.place (OPEN ∷ []) mid new
  pub only : WritesWithin 0 db.active.place 1 mid new
  pub rose : FileCountRose 0 mid new

-- the count rose from the gate's write on, and the place and the number of the next record are as
-- before
pub record LeavesInDoubt (payload : List ℕ) (old new : Db) (before after : World) : Type 0 where
  pub gate : RoseAtGate old payload before after
  pub place : SamePlace old new

-- What forcing a record with this payload does to the log and its file, where the pair is settled
pub record Forces
    (payload : List ℕ) (result : Result ℕ TransdbError) (old new : Db) (before after : World) :
    Type 0 where
  pub entry : (e : Entry) → read_entry old.active.next payload ≡ Ok e
      → PutsEntry old e result before after
  pub forced : OnOk result (IsForced (length payload) old new after)
  pub faulted : result ≡ Err FaultBefore → FaultedBefore old new before after
  pub doubt : (number : ℕ) → result ≡ Err (InDoubt number)
      → LeavesInDoubt payload old new before after
  pub only : WritesFromGate old before after

-- behind the closed gate of the next record, in this stretch, its body was written with this
-- payload, and put on the disk
pub record IsRecorded (payload : List ℕ) (old new : Db) (before after : World) : Type 0 where
  pub has_body : new.active.has_body ≡ true
  pub body : HasItsBody new.active (file_of 0 after)
  pub payload_is : IfTold 0 after (λ bytes. payload_at new.active.place bytes ≡ payload)
  pub behind : new.active.clear_from ≡ old.active.place + HEAD + length payload
  pub tail : RewritesTail old before after

-- the gate of the next record, whose body stands behind it on the disk, may be opened
pub record IsAtGate (db : Db) (w : World) : Type 0 where
  pub usable : db.active.in_doubt ≡ false
  pub room : db.active.place + HEAD ≤ db.active.end
  pub behind : db.active.place ≤ db.active.clear_from
  pub has_body : db.active.has_body ≡ true
  pub body : HasItsBody db.active (file_of 0 w)
  pub stands : Stands db (file_of 0 w)

-- Only file 0 changes, and at each moment each image is one from before but for this side's bytes,
-- and has its list
abbrev pub KeepsSideOf : Header → ℕ → World → World → Type 0
KeepsSideOf h side old new = Runs 0 (KeepsSide h side (file_of 0 old)) old new

-- the entries of the side that isn't active end where the active side begins
abbrev pub LeadsToActive : Header → List Entry → Type 0
LeadsToActive h entries =
    IsNumberedFrom (first_held h) entries × (first_held h + length entries ≡ active_first h)
