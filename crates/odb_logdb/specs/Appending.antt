-- What adding entries to the log answers and leaves.
use Rattle.std.specs.Prelude.{◌≡◌, ◌≢◌, ◌⊎◌, ℕ, ◌+◌, ◌-◌, ◌<◌, ◌≤◌, List, [], ◌∷◌, ◌++◌, length, take, drop, Option, Some, None, Result, Ok, Err, OnOk, OnErr, IfSome}
use Rattle.odb_device.specs.World.{File, World, file_of}
use Rattle.odb_device.specs.Images.{IsImage, IsImageOf, EachImage}
use Rattle.odb_device.specs.Moments.{Runs}
use Rattle.odb_device.specs.Told.{IfTold}
use Rattle.odb_extent.specs.Opened.{content_end}
use Rattle.odb_reclog.specs.Records.{HEAD, end_of_list}
use Rattle.odb_entries.specs.Listed.{entries_from}
use Rattle.odb_model.specs.declared.entry.Entry.{Entry}
use Rattle.odb_model.specs.Width.{record_width, records_width}
use Rattle.odb_logdb.specs.declared.state.ListState.{ListState}
use Rattle.odb_logdb.specs.declared.state.ListState.TheVariants.{Known, Unknown, Dirty}
use Rattle.odb_logdb.specs.declared.error.LogdbError.{LogdbError}
use Rattle.odb_logdb.specs.declared.error.LogdbError.TheVariants.{Fault, LogFull, NotHeld, Damaged, NoMemory}
use Rattle.odb_logdb.specs.Opened.{MOST, Holds, entries_in}
use Rattle.odb_logdb.specs.Standing.{LogState, Stands, first_of, next_of, count_of, held}
use Rattle.odb_logdb.specs.Adding.{HoldsFront}

-- of the entries given, those that come behind so many as these
abbrev pub later_than : LogState → List Entry → List Entry → List Entry
later_than l entries given = drop (length entries - count_of l) given

-- the image holds what the bytes from before do, and behind that a front of the entries given that
-- come later, from the same first number on
pub record HoldsMore (l : LogState) (given : List Entry) (before image : List ℕ) : Type 0 where
  pub entries : List Entry
  pub was : Holds (first_of l) entries before
  pub count : ℕ
  pub holds : Holds (first_of l) (entries ++ take count (later_than l entries given)) image

-- each image does so of one from before
abbrev pub AddsFront : LogState → List Entry → Option File → Option File → Type 0
AddsFront l given None new = new ≡ None
AddsFront l given (Some old) new =
    EachImage (λ image. (before : List ℕ) × IsImage old before × HoldsMore l given before image) new

-- only file 1 changes, and at each moment each image holds what one from before did, and a front of
-- the entries given that come later
abbrev pub AppendsThrough : LogState → List Entry → World → World → Type 0
AppendsThrough l given old new = Runs 1 (AddsFront l given (file_of 1 old)) old new

-- an entry that was in doubt, which an image from before held
abbrev pub WasInDoubt : LogState → Option File → List Entry → Type 0
WasInDoubt l old doubt =
    (before : List ℕ) × IsImageOf old before × Holds (first_of l) (held l old ++ doubt) before

-- In the end memory counts a front of the entries given behind those from before; where an entry
-- was in doubt and turned out to be there, it counts in the place of the first given
pub record CountsMore {T : Type 0} (l : LogState) (given : List Entry)
    (result : Result T LogdbError) (old : Option File) (now : List Entry) : Type 0 where
  pub doubt : List Entry
  pub was : (doubt ≡ []) ⊎ WasInDoubt l old doubt
  pub count : ℕ
  pub held_is : now ≡ held l old ++ take count (doubt ++ drop (length doubt) given)
  pub all : OnOk result (length (doubt ++ drop (length doubt) given) ≤ count)

-- how many bytes are left for records up to the end of 1,024 extents; those of a Dirty log will
-- begin at the content's first byte
abbrev pub room_by : LogState → ListState → ℕ
room_by l Known = content_end MOST - l.log.place
room_by l Unknown = content_end MOST - l.log.place
room_by l Dirty = content_end MOST - 1024

abbrev pub room_of : LogState → ℕ
room_of l = room_by l l.state

-- the first of the entries given, behind so many, that is longer than what is left
pub record IsFullAt (given : List Entry) (count need room : ℕ) (l : LogState) : Type 0 where
  pub entry : Entry
  pub rest : List Entry
  pub next : drop count given ≡ entry ∷ rest
  pub need_is : need ≡ record_width entry
  pub room_is : room ≡ room_of l
  pub less : room < need

-- of whatever store, where no entry is in doubt: so many of the entries given are counted, all of
-- them after Ok, and the next one was longer than what is left after LogFull
pub record Advances {T : Type 0} (given : List Entry) (result : Result T LogdbError)
    (old new : LogState) : Type 0 where
  pub count : ℕ
  pub some : count ≤ length given
  pub next : next_of new ≡ next_of old + count
  pub room : room_of old ≡ records_width (take count given) + room_of new
  pub all : OnOk result (count ≡ length given)
  pub full : (need room : ℕ) → result ≡ Err (LogFull need room) → IsFullAt given count need room new

-- and where one is, LogFull comes at one of the entries given all the same
abbrev pub IsFull : List Entry → ℕ → ℕ → LogState → Type 0
IsFull given need room l = (count : ℕ) × IsFullAt given count need room l

-- the refusals of `append_through`
abbrev pub IsAppendRefusal : {T : Type 0} → Result T LogdbError → Type 0
IsAppendRefusal (Ok done) = Unit {0}
IsAppendRefusal (Err Fault) = Unit {0}
IsAppendRefusal (Err (LogFull need room)) = Unit {0}
IsAppendRefusal (Err NoMemory) = Unit {0}
IsAppendRefusal (Err (NotHeld first)) = ⊥
IsAppendRefusal (Err (Damaged at)) = ⊥

-- the bytes hold some entries from this first number on
abbrev pub HoldsSome : ℕ → List ℕ → Type 0
HoldsSome first bytes = (entries : List Entry) × Holds first entries bytes

-- what making a list known leaves: all that the file reads is counted then; after a fault as much
-- as before
pub record IsReady {T : Type 0} (old new : LogState) (result : Result T LogdbError)
    (before after : Option File) : Type 0 where
  pub some : 1 ≤ first_of old
  pub first : first_of new ≡ first_of old
  pub known : OnOk result (new.state ≡ Known)
  pub next : old.state ≢ Unknown → next_of new ≡ next_of old
  pub room : old.state ≢ Unknown → room_of new ≡ room_of old
  pub images : EachImage (HoldsSome (first_of old)) before
  pub counted : IfSome before (λ f. next_of old ≡ first_of old + length (held old (Some f)))
  pub all : OnOk result (IfSome before (λ f. held new after ≡ entries_in (Some f)))
  pub number : OnOk result
      (IfSome before (λ f. next_of new ≡ first_of old + length (entries_in (Some f))))
  pub left : OnErr result (IfSome before (λ f. held new after ≡ held old (Some f)))

-- what adding records to a list that is known leaves: at each moment each image holds the entries
-- held before and a front of those given
pub record AddsImages {T : Type 0} (given : List Entry) (result : Result T LogdbError)
    (old new : LogState) (before after : World) : Type 0 where
  pub run : Runs 1 (EachImage (HoldsFront (first_of old) (held old (file_of 1 before)) given))
      before after
  pub stands : Stands new (file_of 1 after)
  pub count : ℕ
  pub held_is : IfTold 1 after
      (λ _. held new (file_of 1 after) ≡ held old (file_of 1 before) ++ take count given)
  pub all : OnOk result (length given ≤ count)

-- where the payloads are those of some entries
abbrev pub AddsRead : {T : Type 0} → List (List ℕ) → Result T LogdbError → LogState → LogState
    → World → World → Type 0
AddsRead images result old new before after = (given : List Entry)
    → entries_from (next_of old) 0 images ≡ Ok given → AddsImages given result old new before after

-- the first of the records, behind so many, that is longer than what is left
pub record IsImageFullAt (images : List (List ℕ)) (count need room : ℕ) (l : LogState) :
    Type 0 where
  pub image : List ℕ
  pub rest : List (List ℕ)
  pub next : drop count images ≡ image ∷ rest
  pub need_is : need ≡ HEAD + length image
  pub room_is : room ≡ room_of l
  pub less : room < need

-- of whatever store: so many of the records are counted
pub record MovesImages {T : Type 0} (images : List (List ℕ)) (result : Result T LogdbError)
    (old new : LogState) : Type 0 where
  pub count : ℕ
  pub some : count ≤ length images
  pub next : next_of new ≡ next_of old + count
  pub place : new.log.place ≡ end_of_list old.log.place (take count images)
  pub room_is : room_of new ≡ content_end MOST - new.log.place
  pub within : (count ≡ 0) ⊎ (new.log.place ≤ content_end MOST)
  pub all : OnOk result (count ≡ length images)
  pub full : (need room : ℕ) → result ≡ Err (LogFull need room)
      → IsImageFullAt images count need room new
