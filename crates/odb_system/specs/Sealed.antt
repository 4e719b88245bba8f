-- An entry that is sealed, and what was prepared, as a book and rows have it.
use Rattle.std.specs.Prelude.{◌≡◌, ◌⊎◌, ◌<◌, ◌≤◌, ℕ, List, Result, Ok, Err}
use Rattle.odb_device.specs.World.{World}
use Rattle.odb_model.specs.declared.entry.Entry.{Entry}
use Rattle.odb_model.specs.declared.reply.Reply.{Reply}
use Rattle.odb_model.specs.declared.reply.Reply.TheVariants.{Memory}
use Rattle.odb_model.specs.declared.reply.Reply.TheVariants as told
use Rattle.odb_machine.specs.Book.{most_entries}
use Rattle.odb_model.specs.Storable.{HasKeys}
use Rattle.odb_keytable.specs.Committed.{Committed}
use Rattle.odb_commit.specs.declared.error.CommitError.{CommitError}
use Rattle.odb_commit.specs.declared.ready.Ready.{Ready}
use Rattle.odb_commit.specs.declared.ready.Ready.TheVariants.{Ended, Sealing}
use Rattle.odb_commit.specs.Parts.{Parts, count, CanSeal}
use Rattle.odb_commit.specs.Sealing.{IsSealed, SealsLog}
use Rattle.odb_system.specs.Held.{rows_sealed, reply_of, sealing_reply}

-- each row has a key, and of the history's entries no more wait to be folded in than there are
pub record FitRows (b : Parts) (rows : Committed) : Type 0 where
  pub keyed : HasKeys rows.state
  pub waiting : rows.waiting ≤ count b

-- the entry of this image was sealed with this result
pub record SealsBy
    (entry : Entry) (image : List ℕ) (result : Result ℕ CommitError) (old new : Parts)
    (rows after : Committed) (before now : World) :
    Type 0 where
  pub sealed : IsSealed entry result old new
  pub seals : SealsLog entry image result old.transdb new.transdb before now
  pub rows_are : after.state ≡ rows_sealed result rows.state entry

-- memory was missing, and nothing has changed; or the entry was sealed, with the reply that tells so
abbrev pub SealsRows :
    Entry → List ℕ → Reply → Parts → Parts → Committed → Committed → World → World → Type 0
SealsRows entry image reply old new rows after before now =
    ((reply ≡ Memory) × (new ≡ old) × (after ≡ rows) × (now ≡ before))
    ⊎ ((result : Result ℕ CommitError) × (reply ≡ sealing_reply result)
    × SealsBy entry image result old new rows after before now)

-- where an entry is ready it can be sealed, and the history may have one more
abbrev pub CanCarry : Parts → Result Ready CommitError → Type 0
CanCarry b (Ok (Sealing entry image)) = CanSeal b entry image × (count b < most_entries)
CanCarry b other = Unit {0}

-- what was prepared is carried out: an entry that is ready is sealed, and for all else nothing changes
abbrev pub CarriesRows :
    Result Ready CommitError → Reply → Parts → Parts → Committed → Committed → World → World
    → Type 0
CarriesRows (Ok (Sealing entry image)) reply old new rows after before now =
    SealsRows entry image reply old new rows after before now
CarriesRows (Ok (Ended number)) reply old new rows after before now =
    (reply ≡ told.Ended number) × (new ≡ old) × (after ≡ rows) × (now ≡ before)
CarriesRows (Err error) reply old new rows after before now =
    (reply ≡ reply_of error) × (new ≡ old) × (after ≡ rows) × (now ≡ before)
