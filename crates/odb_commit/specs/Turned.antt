-- What a turn of the sides does to the log and its file.
use Rattle.std.specs.Prelude.{◌≡◌, false, List, ⊤, Result, Err, OnOk}
use Rattle.odb_device.specs.World.{World, file_of}
use Rattle.odb_device.specs.Calls.{FileCountRose}
use Rattle.odb_device.specs.Moments.{WritesWithin}
use Rattle.odb_model.specs.declared.entry.Entry.{Entry}
use Rattle.odb_model.specs.declared.side.OtherSide.TheVariants.{Clean}
use Rattle.odb_transdb.specs.declared.error.TransdbError.{TransdbError}
use Rattle.odb_transdb.specs.declared.error.TransdbError.TheVariants.{NotClean, Fault}
use Rattle.odb_transdb.specs.Standing.{Db, IsPlaced}
use Rattle.odb_transdb.specs.Turning.{StandsSince, SameSides, IsTurnAnswer, RunsTurn, IsTurned}

-- NotClean exactly where the other side isn't Clean, and then nothing was done; else the other side is
-- active, or a fault came, and the pair is unsettled. At each moment each image holds the same
-- entries, under the old header or the new one; the pair alone is written
pub record TurnsLog
    (result : Result ⊤ TransdbError) (old new : Db) (before after : World) : Type 0 where
  pub answer : IsTurnAnswer old result
  pub not_clean : result ≡ Err NotClean → (new ≡ old) × (after ≡ before)
  pub run : old.header.other ≡ Clean → (all : List Entry)
      → StandsSince old all (file_of 0 before) → RunsTurn all old new before after
  pub only : WritesWithin 0 0 1024 before after
  pub turned : OnOk result (IsTurned old new after)
  pub fault : result ≡ Err Fault → SameSides old new
  pub unsettled : result ≡ Err Fault → new.pair.settled ≡ false
  pub placed : IsPlaced old × IsPlaced new
  pub cause : result ≡ Err Fault → FileCountRose 0 before after
