-- What becomes of an entry that is sealed.
use Rattle.std.specs.Prelude.{◌≡◌, ◌⊎◌, ℕ, ◌+◌, false, List, length, Some, None, Result, Ok, Err, OnOk}
use Rattle.odb_device.specs.World.{World, file_of}
use Rattle.odb_device.specs.Calls.{FileCountRose}
use Rattle.odb_model.specs.declared.entry.Entry.{Entry}
use Rattle.odb_transdb.specs.Standing.{Db, AreAlikePlaced, IsAdvanced, Stands}
use Rattle.odb_transdb.specs.Turning.{StandsSince, RunsSettling}
use Rattle.odb_transdb.specs.Worlds.{PutsEntry, IsForced, FaultedBefore, LeavesInDoubt, WritesFromGate}
use Rattle.odb_validate.specs.Window.{push}
use Rattle.odb_commit.specs.declared.ready.Ready.{Ready}
use Rattle.odb_commit.specs.declared.ready.Ready.TheVariants.{Ended, Sealing}
use Rattle.odb_commit.specs.declared.error.CommitError.{CommitError}
use Rattle.odb_commit.specs.declared.error.CommitError.TheVariants as e
use Rattle.odb_commit.specs.Parts.{Parts}

-- The history has the entry more, or not, or it isn't known and the book is halted. The log is told of
-- beside this
abbrev pub IsSealed : Entry → Result ℕ CommitError → Parts → Parts → Type 0
IsSealed entry (Ok number) old new =
    (number ≡ entry.number) × (new.window ≡ push old.window entry) × (new.halted ≡ None)
IsSealed entry (Err e.FaultBefore) old new = (new.window ≡ old.window) × (new.halted ≡ None)
IsSealed entry (Err (e.InDoubt number)) old new =
    (number ≡ entry.number) × (new.window ≡ old.window) × (new.halted ≡ Some number)
IsSealed entry (Err error) old new = ⊥

abbrev pub SealsReady : Ready → Result ℕ CommitError → Parts → Parts → Type 0
SealsReady (Ended number) result old new = ⊥
SealsReady (Sealing entry image) result old new = IsSealed entry result old new

-- What forcing the entry of this image does to the log and its file: at each moment a crash leaves the
-- entries before, or those and this one, which is there after Ok. After FaultBefore the count of file
-- 0 rose before the record's gate was written, after InDoubt from then on
pub record Forces
    (entry : Entry) (image : List ℕ) (result : Result ℕ CommitError) (old new : Db)
    (before after : World) :
    Type 0 where
  pub puts : PutsEntry old entry result before after
  pub forced : OnOk result (IsForced (length image) old new after)
  pub faulted : result ≡ Err e.FaultBefore → FaultedBefore old new before after
  pub doubted : (number : ℕ) → result ≡ Err (e.InDoubt number)
      → LeavesInDoubt image old new before after
  pub only : WritesFromGate old before after
  pub placed : AreAlikePlaced old new

-- The next record is the same one still, at the same place, and may be forced
pub record IsStill (old new : Db) : Type 0 where
  pub next : new.active.next ≡ old.active.next
  pub place : new.active.place ≡ old.active.place
  pub usable : new.active.in_doubt ≡ false

-- Settling the pair broke off: nothing of the record was written, the pair is unsettled, and the count
-- of file 0 rose
pub record BreaksOff
    (result : Result ℕ CommitError) (settled new : Db) (before mid after : World) : Type 0 where
  pub fault : result ≡ Err e.FaultBefore
  pub same : new ≡ settled
  pub nothing : after ≡ mid
  pub unsettled : settled.pair.settled ≡ false
  pub rose : FileCountRose 0 before mid

-- The pair is settled first: until then it alone is written, and each image holds the last of these
-- entries under a header that was left or the present one. What follows is as from a settled pair, or
-- it broke off in that
pub record SettlesFirst
    (entry : Entry) (image : List ℕ) (all : List Entry) (result : Result ℕ CommitError)
    (old new : Db) (before after : World) :
    Type 0 where
  pub mid : World
  pub settled : Db
  pub settling : RunsSettling all old settled before mid
  pub rest : (Stands settled (file_of 0 mid) × Forces entry image result settled new mid after)
      ⊎ BreaksOff result settled new before mid after

-- What sealing the entry of this image does to the log and its file: where the pair is settled its
-- record is forced; where a turn was broken off, so that the log stands for some entries under more
-- than one header, the pair is settled first
pub record SealsLog
    (entry : Entry) (image : List ℕ) (result : Result ℕ CommitError) (old new : Db)
    (before after : World) :
    Type 0 where
  pub forces : Stands old (file_of 0 before) → Forces entry image result old new before after
  pub settles : (all : List Entry) → StandsSince old all (file_of 0 before)
      → SettlesFirst entry image all result old new before after
  pub advanced : OnOk result (IsAdvanced (13 + length image) old new)
  pub still : result ≡ Err e.FaultBefore → IsStill old new
  pub placed : AreAlikePlaced old new

abbrev pub SealsEntry : Ready → Result ℕ CommitError → Db → Db → World → World → Type 0
SealsEntry (Ended number) result old new before after = ⊥
SealsEntry (Sealing entry image) result old new before after =
    SealsLog entry image result old new before after
