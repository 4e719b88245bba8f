-- What the parts of an opening and of a reading find, and what they leave of file 0.
use Rattle.std.specs.Prelude.{◌≡◌, ◌≢◌, ℕ, ◌+◌, ◌-◌, ◌≤◌, false, List, Option, Result, Ok, Err, IfSome}
use Rattle.odb_device.specs.World.{World, file_of}
use Rattle.odb_reclog.specs.Standing.{Log, Stands as LogStands}
use Rattle.odb_reclog.specs.Told.{IfTold, OnlyReads}
use Rattle.odb_model.specs.declared.entry.Entry.{Entry}
use Rattle.odb_model.specs.declared.side.OtherSide.TheVariants.{Live}
use Rattle.odb_transdb.specs.declared.header.Header.{Header}
use Rattle.odb_transdb.specs.declared.error.TransdbError.{TransdbError}
use Rattle.odb_transdb.specs.declared.error.TransdbError.TheVariants.{Fault}
use Rattle.odb_transdb.specs.Header.{active_first, first_held, other_of}
use Rattle.odb_transdb.specs.Opened.{side_list}
use Rattle.odb_transdb.specs.Opening.{GoesOn, IsCounted, IsLiveLog}
use Rattle.odb_transdb.specs.Standing.{AreSides, IsOfSide}
use Rattle.odb_transdb.specs.Walking.{live_read, AddsPart}
use Rattle.odb_transdb.specs.Worlds.{HasClosedGates, KeepsSideOf, LeadsToActive, TearsSideEnd}

-- The opening of a side left this of file 0: at each moment each image is one from before but for
-- this side's bytes, and has its list; and but for the gate where the list of the side ends. Unless
-- a call failed, that gate reads as before or is closed at the end
pub record LeavesSide {T : Type 0}
    (h : Header) (side : ℕ) (result : Result T TransdbError) (old new : World) : Type 0 where
  pub run : KeepsSideOf h side old new
  pub gate : TearsSideEnd h side old new
  pub closed : result ≢ Err Fault → HasClosedGates old new

-- the same of the side that isn't active, where it is Live; else nothing was written
pub record LeavesOther {T : Type 0}
    (h : Header) (result : Result T TransdbError) (old new : World) : Type 0 where
  pub live : h.other ≡ Live → KeepsSideOf h (other_of h) old new
  pub gate : h.other ≡ Live → TearsSideEnd h (other_of h) old new
  pub quiet : h.other ≢ Live → OnlyReads 0 old new
  pub closed : result ≢ Err Fault → HasClosedGates old new

-- the log of a side stands where its list ends, and these are the payloads of the list, as the file
-- read before and reads now
pub record IsSideOpened
    (h : Header) (side : ℕ) (log : Log) (payloads : List (List ℕ)) (old new : World) :
    Type 0 where
  pub stands : LogStands log (file_of 0 new)
  pub of_side : IsOfSide h side log
  pub usable : log.in_doubt ≡ false
  pub ends : IfTold 0 old (λ bytes. GoesOn h side bytes log)
  pub payloads_are : IfTold 0 old (λ bytes. payloads ≡ side_list h side bytes)
  pub still : IfTold 0 new (λ bytes. payloads ≡ side_list h side bytes)
  pub count : IsCounted h side log payloads

-- the log of a Live side stands, and these entries of it lead to the active side
pub record IsLiveOpened (h : Header) (live : Option Log) (entries : List Entry) (new : World) :
    Type 0 where
  pub log : IsLiveLog h live
  pub stands : IfSome live (λ log. LogStands log (file_of 0 new))
  pub read : IfTold 0 new (λ bytes. live_read h h.other bytes ≡ Ok entries)
  pub numbers : LeadsToActive h entries

-- the log of the active side stands, and its entries came behind those before
pub record IsActiveOpened (h : Header) (log : Log) (before entries : List Entry) (new : World) :
    Type 0 where
  pub stands : LogStands log (file_of 0 new)
  pub of_side : IsOfSide h h.active log
  pub usable : log.in_doubt ≡ false
  pub number : active_first h ≤ log.next
  pub place : log.start ≤ log.place
  pub part : AddsPart (active_first h) (active_first h) log.next (log.place - log.start)
      before entries

-- the sides of a header can be read from this number on, the other one by its log
pub record CanReadSides (h : Header) (live : Option Log) (active : Log) (from : ℕ) (w : World) :
    Type 0 where
  pub sides : AreSides h live active
  pub from_held : first_held h ≤ from
  pub live_stands : IfSome live (λ log. LogStands log (file_of 0 w))

-- the gate of the record with this number was opened, and the next one goes behind it
pub record MovesOn (number : ℕ) (old new : Log) : Type 0 where
  pub number_is : number ≡ old.next
  pub next : new.next ≡ old.next + 1
  pub place : new.place ≡ old.clear_from
  pub usable : new.in_doubt ≡ false
