-- The region of a log: what is said of it in a world, and from one world to a later one.
use Rattle.std.specs.Prelude.{◌≡◌, ℕ, ◌+◌, ◌-◌, ◌^◌, ◌≤◌, true, false, List, [], ◌∷◌, ◌++◌, length, option_map}
use Rattle.odb_device.specs.World.{World, file_of}
use Rattle.odb_device.specs.Zeros.{AreZero}
use Rattle.odb_device.specs.Moments.{Runs}
use Rattle.odb_device.specs.TornSets.{TornInFrom}
use Rattle.odb_reclog.specs.Told.{IfTold}
use Rattle.odb_reclog.specs.Moments.{KeepsLists, KeepsOrAdds}
use Rattle.odb_reclog.specs.Records.{HEAD, payload_at, log_of, end_of_list}
use Rattle.odb_reclog.specs.Standing.{Log, Stands, SameList, IsClear, HasItsBody, list_of, list_in, body_of}
use Rattle.odb_reclog.specs.Ends.{IsOpenEnd, EndsAt, closed_at}
use Rattle.odb_reclog.specs.declared.region.Region.{Region}
use Rattle.odb_reclog.specs.declared.walk.FoundList.{FoundList}
use Rattle.odb_reclog.specs.declared.walk.ListEnd.{ListEnd}

-- the bytes of a file from `start` to before `end`, whose first record has the number `first`
abbrev pub region : ℕ → ℕ → ℕ → ℕ → Region
region file start end first = record { file = file; start = start; end = end; first = first }

abbrev pub region_of : Log → Region
region_of log = region log.file log.start log.end log.first

-- it ends at 2^40 at most, and so many numbers are left that no record's number ends the type
pub record IsRegion (r : Region) : Type 0 where
  pub order : r.start ≤ r.end
  pub range : r.end ≤ 2 ^ 40
  pub first : r.first ≤ 2 ^ 63

-- the file goes on to the region's end at least
abbrev pub IsLong : Region → World → Type 0
IsLong r w = IfTold r.file w (λ bytes. r.end ≤ length bytes)

-- the list of the region as the file reads; of one that isn't told, none
abbrev pub list_at : Region → World → List (List ℕ)
list_at r w = list_in r.start r.end r.first (file_of r.file w)

-- Only the file changes. At each moment each image is one from before, but for the region's bytes
-- from `at` on, and has the list that it had
abbrev pub KeepsListFrom : ℕ → Region → World → World → Type 0
KeepsListFrom at r old new =
    Runs r.file (KeepsLists r.start r.end r.first at (r.end - at) (file_of r.file old)) old new

-- Only the file changes. At each moment each image is one from before, but for the gate where the
-- list of the file as it reads ends, and that only where it is open
abbrev pub TearsOpenEnd : Region → World → World → Type 0
TearsOpenEnd r old new = IfTold r.file old (λ bytes.
    Runs r.file (TornInFrom (IsOpenEnd r.start r.end r.first bytes) 0 (file_of r.file old)) old new)

-- the list of the file as it reads ends at this place
abbrev pub ListEndsAt : Region → ℕ → World → Type 0
ListEndsAt r place w = IfTold r.file w
    (λ bytes. end_of_list r.start (log_of r.start r.end r.first bytes) ≡ place)

-- Only the log's file changes. At each moment each image is one from before, but for the gate of
-- the next record, and has its list, or that and the body behind it
abbrev pub KeepsOrAddsBody : Log → World → World → Type 0
KeepsOrAddsBody log old new =
    let file = file_of log.file old in
    let body = body_of log file in
    Runs log.file (KeepsOrAdds log.start log.end log.first body log.place 1 file) old new

-- the list of the new log is that of the old one with the body behind it
abbrev pub AddsBody : Log → Log → World → World → Type 0
AddsBody old new before after =
    let file = file_of old.file before in
    IfTold old.file after
    (λ bytes. log_of new.start new.end new.first bytes ≡ list_of old file ++ body_of old file ∷ [])

-- Only what is behind the gate of the next record changes. At each moment each image keeps its
-- list, and the new log stands behind it, at the same place.
pub record WritesBehind (old new : Log) (before after : World) : Type 0 where
  pub run : KeepsListFrom (old.place + 1) (region_of old) before after
  pub stands : Stands new (file_of old.file after)
  pub list : list_of new (file_of old.file after) ≡ list_of old (file_of old.file before)
  pub same : SameList old new

-- the body of the next record, with this payload, stands behind its closed gate, on the disk
pub record IsWritten (payload : List ℕ) (old new : Log) (after : World) : Type 0 where
  pub has_body : new.has_body ≡ true
  pub body : HasItsBody new (file_of old.file after)
  pub payload_is : IfTold old.file after (λ bytes. payload_at new.place bytes ≡ payload)
  pub behind : new.clear_from ≡ old.place + HEAD + length payload

-- that gate may be opened: the log isn't in doubt, stands for the file, and has a body
pub record CanOpen (log : Log) (w : World) : Type 0 where
  pub usable : log.in_doubt ≡ false
  pub written : log.has_body ≡ true
  pub stands : Stands log (file_of log.file w)
  pub body : HasItsBody log (file_of log.file w)

-- it is open: the list has the body's payload more, and the log goes on behind it, with a clear
-- tail
pub record IsAdded (old new : Log) (before after : World) : Type 0 where
  pub stands : Stands new (file_of old.file after)
  pub list : AddsBody old new before after
  pub next : new.next ≡ old.next + 1
  pub place : new.place ≡ old.clear_from
  pub clear : IsClear new
  pub has_body : new.has_body ≡ false
  pub usable : new.in_doubt ≡ false

-- all behind the gate of the next record reads as zeros
abbrev pub ReadsClear : Log → World → Type 0
ReadsClear log w = IfTold log.file w (λ bytes. AreZero (log.place + 1) log.end bytes)

-- The place lies in the region or at its end, and before it there is a byte at least for each
-- number that was passed
pub record IsEndIn (r : Region) (found : ListEnd) : Type 0 where
  pub start : r.start ≤ found.place
  pub end : found.place ≤ r.end
  pub number : found.number + r.start ≤ r.first + found.place

-- the list of the file as it reads ends there
abbrev pub EndsIn : Region → ListEnd → World → Type 0
EndsIn r found w = IfTold r.file w (λ bytes. EndsAt r.start r.end r.first found bytes)

-- of whatever file, the payloads that were collected have the number and the lengths that the end
-- says
pub record IsCounted (r : Region) (found : FoundList) : Type 0 where
  pub end : IsEndIn r found.end
  pub number : r.first + length found.payloads ≡ found.end.number
  pub place : end_of_list r.start found.payloads ≡ found.end.place

-- The log of the region as an opening leaves it: it stands behind the list that the file read
-- before, the gate there is closed, and nothing was tried behind it.
pub record IsOpened (r : Region) (log : Log) (old new : World) : Type 0 where
  pub file : log.file ≡ r.file
  pub start : log.start ≡ r.start
  pub end : log.end ≡ r.end
  pub first : log.first ≡ r.first
  pub touched : log.touched ≡ false
  pub has_body : log.has_body ≡ false
  pub in_doubt : log.in_doubt ≡ false
  pub stands : Stands log (file_of r.file new)
  pub list : list_of log (file_of r.file new) ≡ list_at r old
  pub closes : file_of r.file new ≡ option_map (closed_at log.place r.end) (file_of r.file old)
