-- What the calls of TRANSDB answer, and what holds at each of their moments.
use Rattle.std.specs.Prelude.{◌≡◌, ◌⊎◌, ℕ, ◌+◌, ◌<◌, ◌≤◌, List, [], ◌∷◌, ◌++◌, length, slice_index, Option, Some, None, Result, Ok, Err}
use Rattle.odb_device.specs.World.{File, World}
use Rattle.odb_device.specs.Calls.{FileCountRose}
use Rattle.odb_device.specs.Images.{IsImage, EachImage}
use Rattle.odb_pair.specs.Places.{opened as pair_opened, holding as holding_value}
use Rattle.odb_reclog.specs.Ends.{IsOpenEnd}
use Rattle.odb_reclog.specs.Records.{OPEN, HEAD, size_at, number_at, payload_at}
use Rattle.odb_codec.specs.Image.{HasImage, entry_image}
use Rattle.odb_model.specs.declared.entry.Entry.{Entry}
use Rattle.odb_model.specs.declared.side.OtherSide.TheVariants.{Live}
use Rattle.odb_transdb.specs.declared.header.Header.{Header}
use Rattle.odb_transdb.specs.declared.error.TransdbError.{TransdbError}
use Rattle.odb_transdb.specs.declared.opening.OpenedTransdb.{OpenedTransdb}
use Rattle.odb_transdb.specs.declared.error.TransdbError.TheVariants.{NoDatabase, Damaged, Full, FaultBefore, InDoubt, NotClean, Held, Fault, NoMemory}
use Rattle.odb_transdb.specs.Header.{header_of, side_start, side_end, file_size, first_on, other_of}
use Rattle.odb_transdb.specs.Opened.{Opened, no_database, damaged, holding, Holds, opened}
use Rattle.odb_transdb.specs.Standing.{Db, room_of}

-- P of what was opened and what the bytes stand for, or the refusal that they ask for; a fault and
-- want of memory may come of any bytes
abbrev pub IsAnswerBy : {T : Type 0}
    → (T → Opened → Type 0) → Result T TransdbError → Opened → Type 0
IsAnswerBy P (Ok x) what = P x what
IsAnswerBy P (Err NoDatabase) what = what ≡ no_database
IsAnswerBy P (Err (Damaged at)) what = what ≡ damaged at
IsAnswerBy P (Err Fault) what = Unit {0}
IsAnswerBy P (Err NoMemory) what = Unit {0}
IsAnswerBy P (Err (Full need room)) what = ⊥
IsAnswerBy P (Err NotClean) what = ⊥
IsAnswerBy P (Err (Held mark last)) what = ⊥
IsAnswerBy P (Err FaultBefore) what = ⊥
IsAnswerBy P (Err (InDoubt number)) what = ⊥

-- `open` finds what the bytes stand for
abbrev pub IsOpenAnswer : Result Db TransdbError → Opened → Type 0
IsOpenAnswer = IsAnswerBy (λ db what. (entries : List Entry) × (what ≡ holding db.header entries))

-- and so does `open_with_entries`, which gives all of the entries too
abbrev pub IsFullAnswer : Result OpenedTransdb TransdbError → Opened → Type 0
IsFullAnswer = IsAnswerBy (λ found what. what ≡ holding found.transdb.header found.entries)

-- the refusals of `open`, of whatever store
abbrev pub IsOpenRefusal : {T : Type 0} → Result T TransdbError → Type 0
IsOpenRefusal (Ok db) = Unit {0}
IsOpenRefusal (Err NoDatabase) = Unit {0}
IsOpenRefusal (Err (Damaged at)) = Unit {0}
IsOpenRefusal (Err Fault) = Unit {0}
IsOpenRefusal (Err NoMemory) = Unit {0}
IsOpenRefusal (Err (Full need room)) = ⊥
IsOpenRefusal (Err NotClean) = ⊥
IsOpenRefusal (Err (Held mark last)) = ⊥
IsOpenRefusal (Err FaultBefore) = ⊥
IsOpenRefusal (Err (InDoubt number)) = ⊥

-- those of `entries`
abbrev pub IsReadRefusal : {T : Type 0} → Result T TransdbError → Type 0
IsReadRefusal (Ok entries) = Unit {0}
IsReadRefusal (Err (Damaged at)) = Unit {0}
IsReadRefusal (Err Fault) = Unit {0}
IsReadRefusal (Err NoMemory) = Unit {0}
IsReadRefusal (Err NoDatabase) = ⊥
IsReadRefusal (Err (Full need room)) = ⊥
IsReadRefusal (Err NotClean) = ⊥
IsReadRefusal (Err (Held mark last)) = ⊥
IsReadRefusal (Err FaultBefore) = ⊥
IsReadRefusal (Err (InDoubt number)) = ⊥

-- a reading refuses nothing else, and answers a fault only where the file's count rose
abbrev pub FailsAsRead : {T : Type 0} → ℕ → Result T TransdbError → World → World → Type 0
FailsAsRead file result old new =
    IsReadRefusal result × (result ≡ Err Fault → FileCountRose file old new)

-- each image opens as one from before did
abbrev pub KeepsOpened : Option File → Option File → Type 0
KeepsOpened None new = new ≡ None
KeepsOpened (Some old) new =
    EachImage (λ image. (before : List ℕ) × IsImage old before × (opened image ≡ opened before)) new

-- each byte reads as before, or was the byte of an open gate and is 0 now
abbrev pub ClosesGates : Option File → Option File → Type 0
ClosesGates None new = Unit {0}
ClosesGates (Some old) None = ⊥
ClosesGates (Some old) (Some new) =
    (length new.bytes ≡ length old.bytes)
    × ((i : ℕ) → (slice_index new.bytes i ≡ slice_index old.bytes i)
    ⊎ ((slice_index old.bytes i ≡ OPEN) × (slice_index new.bytes i ≡ 0)))

-- The gate at this place is open, where the list of a side that holds entries ends: the bytes keep
-- a lawful header in their pair, and are as long as its sides
pub record IsListEnd (bytes : List ℕ) (place : ℕ) : Type 0 where
  pub value : List ℕ
  pub header : Header
  pub side : ℕ
  pub pair : pair_opened bytes ≡ holding_value value
  pub lawful : header_of value ≡ Some header
  pub long : file_size header ≤ length bytes
  pub held : (side ≡ header.active) ⊎ ((header.other ≡ Live) × (side ≡ other_of header))
  pub ends : IsOpenEnd (side_start header side) (side_end header side) (first_on header side)
      bytes place

-- the bytes are the image of an entry
abbrev pub IsEntryImage : List ℕ → Type 0
IsEntryImage bytes = (e : Entry) × HasImage e × (bytes ≡ entry_image e)

-- `force` of n bytes: Full exactly where there is less room than their record needs; else it is
-- done, or a fault came
abbrev pub IsForceAnswer : ℕ → Db → Result ℕ TransdbError → Type 0
IsForceAnswer n db (Ok number) = (HEAD + n ≤ room_of db) × (number ≡ db.active.next)
IsForceAnswer n db (Err (Full need room)) = (need ≡ HEAD + n) × (room ≡ room_of db) × (room < need)
IsForceAnswer n db (Err FaultBefore) = HEAD + n ≤ room_of db
IsForceAnswer n db (Err (InDoubt number)) = (HEAD + n ≤ room_of db) × (number ≡ db.active.next)
IsForceAnswer n db (Err NoDatabase) = ⊥
IsForceAnswer n db (Err (Damaged at)) = ⊥
IsForceAnswer n db (Err Fault) = ⊥
IsForceAnswer n db (Err NotClean) = ⊥
IsForceAnswer n db (Err (Held mark last)) = ⊥
IsForceAnswer n db (Err NoMemory) = ⊥

-- each image holds just these entries
abbrev pub HoldsAll : Db → List Entry → Option File → Type 0
HoldsAll db entries file = EachImage (Holds db.header entries) file

-- or these and one more
abbrev pub HoldsAllOrMore : Db → List Entry → Entry → Option File → Type 0
HoldsAllOrMore db entries e file =
    let more = entries ++ e ∷ [] in
    EachImage (λ image. Holds db.header entries image ⊎ Holds db.header more image) file

-- behind the gate of the next record stand the length, the number and the payload, on the disk
pub record HasRecord (db : Db) (payload : List ℕ) (bytes : List ℕ) : Type 0 where
  pub size : size_at db.active.place bytes ≡ length payload
  pub number : number_at db.active.place bytes ≡ db.active.next
  pub payload_is : payload_at db.active.place bytes ≡ payload
