-- What a book and rows are behind an entry that was sealed, and what a system is.
use Rattle.std.proofs.Common.{◌≡◌, ℕ, ◌+◌, ◌<◌, ◌≤◌, Bool, true, false, nat_lt, nat_le, cond, List, [], ◌∷◌, length, Option, Some, None, Result, Ok, Err, inr, refl, sym, ap, subst, ◌∙◌, arith}
use Rattle.std.proofs.lemmas.Bool.Decides.{nat_tests}
use Rattle.odb_device.specs.World.{File, World}
use Rattle.odb_model.specs.declared.write.Write.{Write}
use Rattle.odb_model.specs.declared.entry.Entry.{Entry}
use Rattle.odb_model.specs.State.{State, after_writes}
use Rattle.odb_model.specs.Storable.{HaveKeys, HasKeys}
use Rattle.odb_model.specs.Width.{record_width}
use Rattle.odb_machine.specs.Book.{most_entries}
use Rattle.odb_model.proofs.KeysKept.{after_keyed}
use Rattle.odb_codec.specs.Image.{entry_image}
use Rattle.odb_transdb.specs.Header.{first_held}
use Rattle.odb_transdb.specs.Opened.{entries_in}
use Rattle.odb_transdb.specs.Standing.{Db, IsAdvanced, Stands, room_of}
use Rattle.odb_transdb.specs.Turning.{MayStand}
use Rattle.odb_transdb.proofs.Settling.{may_stand}
use Rattle.odb_keytable.specs.Committed.{Committed}
use Rattle.odb_txn.specs.Transaction.{Kept}
use Rattle.odb_validate.specs.declared.error.Aged.{Aged}
use Rattle.odb_validate.specs.Window.{Windowed, reserve}
use Rattle.odb_commit.specs.declared.error.CommitError.{CommitError}
use Rattle.odb_commit.specs.declared.error.CommitError.TheVariants as e
use Rattle.odb_commit.specs.Parts.{Parts, count, IsAligned, CanSeal, Preparation, Refuses, Ends, ToSeal, entry_after, sealing_of, by_writes, by_validation, by_halt, prepared}
use Rattle.odb_commit.specs.Sealing.{IsSealed, SealsLog}
use Rattle.odb_system.specs.Held.{Held, HeldSeals, TakesRecords, rows_sealed, sealing_reply, without_place}
use Rattle.odb_system.specs.Sealed.{FitRows, SealsBy, SealsRows}
use Rattle.odb_system.specs.Durable.{StandsBy, IsDurableBy}

-- the history has room for the entry that is to be sealed
not_least : (m n : ℕ) → nat_le m n ≡ false → n < m
not_least m n is = grind (arith, nat_tests)

few_sealing : (b : Parts) (entry x : Entry) → sealing_of b entry ≡ ToSeal x → count b < most_entries
few_sealing b entry x is = by (nat_le most_entries (count b)) refl is
  where
    rest : Preparation
    rest = cond (nat_lt (room_of b.transdb) (record_width entry)) (Refuses (e.Full (record_width entry) (room_of b.transdb))) (ToSeal entry)

    by : (c : Bool) → nat_le most_entries (count b) ≡ c → cond c (Refuses e.HistoryFull) rest ≡ ToSeal x → count b < most_entries
    by true test same = cc
    by false test same = not_least most_entries (count b) test

few_writes : (b : Parts) (s : ℕ) (ws : List Write) (x : Entry) → by_writes b s ws ≡ ToSeal x → count b < most_entries
few_writes b s [] x is = cc
few_writes b s (w ∷ ws) x is = few_sealing b (entry_after b s (w ∷ ws)) x is

few_validated : (b : Parts) (s : ℕ) (ws : List Write) (v : Result (Option ℕ) Aged) (x : Entry) → by_validation b s ws v ≡ ToSeal x → count b < most_entries
few_validated b s ws (Err aged) x is = cc
few_validated b s ws (Ok (Some number)) x is = cc
few_validated b s ws (Ok None) x is = few_writes b s ws x is

few_unless : (h : Option ℕ) (b : Parts) (s : ℕ) (ws : List Write) (v : Result (Option ℕ) Aged) (x : Entry) → by_halt h (by_validation b s ws v) ≡ ToSeal x → count b < most_entries
few_unless (Some number) b s ws v x is = cc
few_unless None b s ws v x is = few_validated b s ws v x is

pub few_to_seal : (b : Parts) (entry x : Entry) → sealing_of b entry ≡ ToSeal x → count b < most_entries
few_to_seal b entry x is = few_sealing b entry x is

pub few_prepared : (b : Parts) (txn : Kept) (x : Entry) → prepared b txn ≡ ToSeal x → count b < most_entries
few_prepared b txn x is = few_unless b.halted b txn.session _ _ x is

-- what a call of `seal` leaves

pub seals_rows : (entry : Entry) (image : List ℕ) (result : Result ℕ CommitError) (old new : Parts) (rows after : Committed) (before now : World) → IsSealed entry result old new
    → SealsLog entry image result old.transdb new.transdb before now → after.state ≡ rows_sealed result rows.state entry → SealsRows entry image (sealing_reply result) old new rows after before now
seals_rows entry image result old new rows after before now sealed seals is = inr (result, refl, record { sealed = sealed; seals = seals; rows_are = is })

-- the rows with an entry more
pub fit_sealed : (old new : Parts) (entry placed : Entry) (image : List ℕ) (n : ℕ) (rows after : Committed) → CanSeal old entry image → IsAligned new → new.halted ≡ None → IsAdvanced n old.transdb new.transdb
    → FitRows old rows → HaveKeys entry.writes → placed ≡ entry → after ≡ record { state = after_writes rows.state placed.writes; waiting = rows.waiting + 1 } → FitRows new after
fit_sealed old new entry placed image n rows after ready aligned settled on fit keys same pushed =
    subst (FitRows new) (sym pushed) (record {
      keyed = subst (λ (x : Entry). HasKeys (after_writes rows.state x.writes)) (sym same) (after_keyed entry.writes rows.state keys fit.keyed);
      waiting = omega (arith, aligned.ends settled, on.next, ready.next, ready.number, fit.waiting);
    })

pub state_sealed : (rows after : Committed) (entry placed : Entry) → placed ≡ entry → after ≡ record { state = after_writes rows.state placed.writes; waiting = rows.waiting + 1 } → after.state ≡ after_writes rows.state entry.writes
state_sealed rows after entry placed same pushed = ap (λ (c : Committed). c.state) pushed ∙ ap (λ (x : Entry). after_writes rows.state x.writes) same

-- and without
pub fit_same : (old new : Parts) (rows : Committed) → new.window ≡ old.window → FitRows old rows → FitRows new rows
fit_same old new rows same fit = record {
  keyed = fit.keyed;
  waiting = subst (λ (w : Windowed). rows.waiting ≤ w.start + length w.entries) (sym same) fit.waiting;
}

-- what it leaves of a system

abbrev unreserved : Windowed → Windowed
unreserved w = record w { is_reserved = false }

-- of which it isn't told whether a place is reserved
placeless : (entry : Entry) (result : Result ℕ CommitError) (old new : Parts) → IsSealed entry result (record old { window = reserve old.window }) new → IsSealed entry result (without_place old) (without_place new)
placeless entry (Ok number) old new sealed = (sealed.0, ap unreserved sealed.1, sealed.2)
placeless entry (Err e.FaultBefore) old new sealed = (ap unreserved sealed.0, sealed.1)
placeless entry (Err (e.InDoubt number)) old new sealed = (sealed.0, ap unreserved sealed.1, sealed.2)
placeless entry (Err error) old new sealed = absurd sealed

pub held_seals : (book new : Parts) (xs ys : List (Option Kept)) (rows after : Committed) (entry : Entry) (image : List ℕ) (result : Result ℕ CommitError) (before now : World) → first_held book.transdb.header ≡ 1
    → CanSeal (record book { window = reserve book.window }) entry image → SealsBy entry image result (record book { window = reserve book.window }) new rows after before now
    → HeldSeals (record { book = without_place book; sessions = xs; rows = rows.state }) entry result (record { book = without_place new; sessions = ys; rows = after.state }) before now
held_seals book new xs ys rows after entry image result before now first ready by = record {
  log = record { settled = ready.settled; first = first; usable = ready.usable };
  sealed = placeless entry result book new by.sealed;
  seals = subst (λ (bytes : List ℕ). SealsLog entry bytes result book.transdb new.transdb before now) ready.image_is by.seals;
  rows = by.rows_are;
}

-- a book and the part of it that is told

pub aligned_in : (b : Parts) → IsAligned (without_place b) → IsAligned b
aligned_in b is = record { ends = is.ends; usable = is.usable }

pub aligned_out : (b : Parts) → IsAligned b → IsAligned (without_place b)
aligned_out b is = record { ends = is.ends; usable = is.usable }

pub fit_in : (b : Parts) (rows : Committed) → HasKeys rows.state → rows.waiting ≤ count b → FitRows b rows
fit_in b rows keyed waiting = record { keyed = keyed; waiting = waiting }

-- with a place reserved
pub fit_reserved : (b : Parts) (rows : Committed) → FitRows b rows → FitRows (record b { window = reserve b.window }) rows
fit_reserved b rows fit = record { keyed = fit.keyed; waiting = fit.waiting }

-- the log stands for some entries of the file, whether the pair is settled or not
may_by : (settled : Bool) (db : Db) (file : Option File) → StandsBy settled db file → MayStand db file
may_by true db file stands = (entries_in file, may_stand db file stands)
may_by false db file broken = (broken.entries, broken.since)

pub stands_settled : (b : Parts) (file : Option File) → b.halted ≡ None → IsDurableBy b.halted b.transdb file → MayStand b.transdb file
stands_settled b file settled durable = may_by b.transdb.pair.settled b.transdb file (subst (λ (d : Option ℕ). IsDurableBy d b.transdb file) settled durable)

-- the header stays
pub first_sealed : (entry : Entry) (image : List ℕ) (result : Result ℕ CommitError) (old new : Parts) (rows after : Committed) (before now : World) → SealsBy entry image result old new rows after before now
    → first_held old.transdb.header ≡ 1 → first_held new.transdb.header ≡ 1
first_sealed entry image result old new rows after before now by first = ap first_held by.seals.placed.header ∙ first

-- and the history has no more entries than it may have
pub few_sealed : (entry : Entry) (image : List ℕ) (result : Result ℕ CommitError) (old new : Parts) (rows after : Committed) (before now : World) → CanSeal old entry image → count old < most_entries → IsAligned new
    → SealsBy entry image result old new rows after before now → count new ≤ most_entries
few_sealed entry image (Ok number) old new rows after before now ready few aligned by =
    omega (arith, aligned.ends by.sealed.2, by.seals.advanced.next, ready.next, ready.number, few)
few_sealed entry image (Err e.FaultBefore) old new rows after before now ready few aligned by =
    subst (λ (w : Windowed). w.start + length w.entries ≤ most_entries) (sym by.sealed.0) (omega (arith, few))
few_sealed entry image (Err (e.InDoubt number)) old new rows after before now ready few aligned by =
    subst (λ (w : Windowed). w.start + length w.entries ≤ most_entries) (sym by.sealed.1) (omega (arith, few))
few_sealed entry image (Err error) old new rows after before now ready few aligned by = absurd by.sealed
