-- What the parts of an adding do to the extents and the record log of a Live log.
use Rattle.std.specs.Prelude.{◌≡◌, ◌⊎◌, ℕ, ◌+◌, ◌-◌, ◌<◌, ◌≤◌, false, List, [], ◌∷◌, ◌++◌, length, take, drop, Some, Result, Ok, Err, OnOk, OnErr}
use Rattle.odb_device.specs.World.{World, file_of}
use Rattle.odb_device.specs.Images.{EachImage}
use Rattle.odb_device.specs.Moments.{Runs}
use Rattle.odb_device.specs.Told.{IfTold}
use Rattle.odb_extent.specs.Opened.{content_end}
use Rattle.odb_extent.specs.Standing.{ExtentState, limit_of, fields_of, fields_tried, IsSound, Stands as ExtentsStand}
use Rattle.odb_reclog.specs.Records.{HEAD, payload_at, end_of_list}
use Rattle.odb_reclog.specs.Standing.{Log, Stands as LogStands}
use Rattle.odb_codec.specs.Reading.{read_entry}
use Rattle.odb_entries.specs.Listed.{entries_from, log_entries}
use Rattle.odb_model.specs.declared.entry.Entry.{Entry}
use Rattle.odb_logdb.specs.declared.fields.LogFields.{LogFields}
use Rattle.odb_logdb.specs.declared.error.AddError.{AddError}
use Rattle.odb_logdb.specs.declared.error.AddError.TheVariants.{Fault, InDoubt, Full}
use Rattle.odb_logdb.specs.Fields.{LIVE, lawful_in}
use Rattle.odb_logdb.specs.Opened.{MOST, Holds, records_start}
use Rattle.odb_logdb.specs.Standing.{MayHaveOneMore}

-- the extents of file 1 keep these fields of a Live log, and the record log is that of its region
pub record IsLive (e : ExtentState) (f : LogFields) (log : Log) : Type 0 where
  pub file : e.pair.file ≡ 1
  pub most : e.most ≡ MOST
  pub sound : IsSound e
  pub fields : lawful_in (limit_of e) (fields_of e) ≡ Some f
  pub alike : fields_tried e ≡ fields_of e
  pub live : f.state ≡ LIVE
  pub log_file : log.file ≡ 1
  pub first : log.first ≡ f.first
  pub start : log.start ≡ records_start f
  pub end : log.end ≡ content_end (limit_of e)

-- the file holds these entries, all of which the record log knows
pub record IsHeld (e : ExtentState) (f : LogFields) (log : Log) (entries : List Entry) (w : World) :
    Type 0 where
  pub live : IsLive e f log
  pub usable : log.in_doubt ≡ false
  pub extents : ExtentsStand e (file_of 1 w)
  pub stands : LogStands log (file_of 1 w)
  pub read : IfTold 1 w (λ bytes. log_entries log bytes ≡ Ok entries)

-- of some fields and entries
abbrev pub AreHeld : ExtentState → Log → World → Type 0
AreHeld e log w = (f : LogFields) × (entries : List Entry) × IsHeld e f log entries w

-- and of some extents
abbrev pub IsHeldLog : Log → World → Type 0
IsHeldLog log w = (e : ExtentState) × AreHeld e log w

-- the file holds these entries, and perhaps one more, whose record is in doubt
pub record IsDoubtful (e : ExtentState) (f : LogFields) (log : Log) (entries : List Entry)
    (w : World) : Type 0 where
  pub live : IsLive e f log
  pub extents : ExtentsStand e (file_of 1 w)
  pub each : EachImage (MayHaveOneMore log entries) (file_of 1 w)

-- at each moment each image holds these entries
abbrev pub HoldsThrough : ℕ → List Entry → World → World → Type 0
HoldsThrough first entries old new = Runs 1 (EachImage (Holds first entries)) old new

-- or these and one more
abbrev pub HoldsOrOneMore : ℕ → List Entry → Entry → List ℕ → Type 0
HoldsOrOneMore first entries e bytes =
    Holds first entries bytes ⊎ Holds first (entries ++ e ∷ []) bytes

-- the entries are held throughout, and the log stands for them
pub record KeepsHeld (e : ExtentState) (f : LogFields) (log : Log) (entries : List Entry)
    (old new : World) : Type 0 where
  pub run : HoldsThrough f.first entries old new
  pub held : IsHeld e f log entries new

-- behind the closed gate of the next record the file reads the image of this entry
abbrev pub IsBodyOf : Log → Entry → World → Type 0
IsBodyOf log e w = IfTold 1 w (λ bytes. read_entry log.next (payload_at log.place bytes) ≡ Ok e)

-- what adding an entry leaves: it and those before; those before; or those and perhaps it
abbrev pub LeavesBy : {T : Type 0} → ExtentState → LogFields → Log → List Entry → Entry
    → Result T AddError → World → Type 0
LeavesBy e f log entries one (Ok done) w = IsHeld e f log (entries ++ one ∷ []) w
LeavesBy e f log entries one (Err Fault) w = IsHeld e f log entries w
LeavesBy e f log entries one (Err InDoubt) w = IsDoubtful e f log entries w
LeavesBy e f log entries one (Err (Full need room)) w = IsHeld e f log entries w

-- at each moment each image holds the entries, or those and this one
pub record AddsOne {T : Type 0} (e : ExtentState) (f : LogFields) (log : Log) (entries : List Entry)
    (one : Entry) (result : Result T AddError) (old new : World) : Type 0 where
  pub run : Runs 1 (EachImage (HoldsOrOneMore f.first entries one)) old new
  pub leaves : LeavesBy e f log entries one result new

-- the same of opening the gate alone
pub record OpensOne {T E : Type 0} (e : ExtentState) (f : LogFields) (log : Log)
    (entries : List Entry) (one : Entry) (result : Result T E) (old new : World) : Type 0 where
  pub run : Runs 1 (EachImage (HoldsOrOneMore f.first entries one)) old new
  pub added : OnOk result (IsHeld e f log (entries ++ one ∷ []) new)
  pub doubt : OnErr result (IsDoubtful e f log entries new)

-- where the next record goes after a record with a payload of n bytes was added; it stays where
-- none was, and Full comes exactly where the record is longer than what is left of 1,024 extents
abbrev pub MovesBy : {T : Type 0} → ℕ → Log → Log → Result T AddError → Type 0
MovesBy n old new (Ok done) =
    (new.next ≡ old.next + 1) × (new.place ≡ old.place + HEAD + n) × (new.place ≤ content_end MOST)
MovesBy n old new (Err Fault) = (new.next ≡ old.next) × (new.place ≡ old.place)
MovesBy n old new (Err InDoubt) = (new.next ≡ old.next) × (new.place ≡ old.place)
MovesBy n old new (Err (Full need room)) =
    (new ≡ old) × (need ≡ HEAD + n) × (room ≡ content_end MOST - old.place) × (room < need)

-- the bytes hold the entries and a front of those given
pub record HoldsFront (first : ℕ) (entries given : List Entry) (bytes : List ℕ) : Type 0 where
  pub count : ℕ
  pub holds : Holds first (entries ++ take count given) bytes

-- what adding entries one by one leaves after so many of them
abbrev pub LeavesAfter : {T : Type 0} → ExtentState → LogFields → Log → List Entry → List Entry
    → ℕ → Result T AddError → World → Type 0
LeavesAfter e f log entries given count (Ok done) w =
    (length given ≤ count) × IsHeld e f log (entries ++ given) w
LeavesAfter e f log entries given count (Err Fault) w =
    IsHeld e f log (entries ++ take count given) w
LeavesAfter e f log entries given count (Err InDoubt) w =
    IsDoubtful e f log (entries ++ take count given) w
LeavesAfter e f log entries given count (Err (Full need room)) w =
    IsHeld e f log (entries ++ take count given) w

-- the payloads are those of entries from this number on
abbrev pub AreEntries : ℕ → List (List ℕ) → Type 0
AreEntries number payloads = (given : List Entry) × (entries_from number 0 payloads ≡ Ok given)

-- what adding records one by one does to the entries: at each moment each image holds those before
-- and a front of those given
pub record AddsAll {T : Type 0} (e : ExtentState) (f : LogFields) (log : Log)
    (entries given : List Entry) (count : ℕ) (result : Result T AddError) (old new : World) :
    Type 0 where
  pub run : Runs 1 (EachImage (HoldsFront f.first entries given)) old new
  pub leaves : LeavesAfter e f log entries given count result new

-- Full comes at the first record that is longer than what is left of 1,024 extents
pub record IsFullAt (payloads : List (List ℕ)) (count need room : ℕ) (log : Log) : Type 0 where
  pub payload : List ℕ
  pub rest : List (List ℕ)
  pub next : drop count payloads ≡ payload ∷ rest
  pub need_is : need ≡ HEAD + length payload
  pub room_is : room ≡ content_end MOST - log.place
  pub less : room < need

-- and to the place and the number of the next record, after so many of them
pub record MovesAll {T : Type 0} (payloads : List (List ℕ)) (result : Result T AddError)
    (old new : Log) : Type 0 where
  pub count : ℕ
  pub some : count ≤ length payloads
  pub next : new.next ≡ old.next + count
  pub place : new.place ≡ end_of_list old.place (take count payloads)
  pub within : count ≡ 0 ⊎ (new.place ≤ content_end MOST)
  pub all : OnOk result (count ≡ length payloads)
  pub full : (need room : ℕ) → result ≡ Err (Full need room) → IsFullAt payloads count need room new
