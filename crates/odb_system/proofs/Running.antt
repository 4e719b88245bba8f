-- What a step leaves of the log and its file, whatever machine the system stands for.
use Rattle.std.proofs.Common.{◌≡◌, inl, inr, ℕ, ◌+◌, Bool, true, false, List, length, Option, Some, None, option_map, Result, Ok, Err, refl, sym, subst, ap, ◌∙◌, arith}
use Rattle.std.specs.Prelude.{is_some, IfSome}
use Rattle.odb_device.specs.World.{File, World, file_of}
use Rattle.odb_device.specs.Moments.{ChangesOnly}
use Rattle.odb_device.proofs.Time.{begins, changes_none, changes_then}
use Rattle.odb_reclog.specs.Standing.{Log}
use Rattle.odb_model.specs.declared.entry.Entry.{Entry}
use Rattle.odb_model.specs.declared.reply.Reply.{Reply}
use Rattle.odb_model.specs.declared.reply.Reply.TheVariants.{Okay, NoTransaction, InTransaction, Memory}
use Rattle.odb_model.specs.declared.statement.Statement.{Statement}
use Rattle.odb_model.specs.declared.statement.Statement.TheVariants.{Start, Commit, Select, Insert, Rollback, Update, Delete, CreateTable, DropTable}
use Rattle.odb_model.specs.Definitions.{Planned, Refused, Plans, planned}
use Rattle.odb_txn.specs.Transaction.{Kept, nothing_kept}
use Rattle.odb_commit.specs.declared.error.CommitError.{CommitError}
use Rattle.odb_commit.specs.declared.error.CommitError.TheVariants as e
use Rattle.odb_model.specs.declared.side.OtherSide.TheVariants.{Clean}
use Rattle.odb_machine.specs.Machine.{Machine}
use Rattle.odb_codec.specs.Image.{entry_image}
use Rattle.odb_transdb.specs.declared.header.Header.{Header}
use Rattle.odb_transdb.specs.Standing.{Db, Stands}
use Rattle.odb_transdb.specs.Turning.{SameSides, StandsSince}
use Rattle.odb_transdb.proofs.Standing.{stands_settled}
use Rattle.odb_commit.specs.Sealing.{IsSealed, BreaksOff, SealsLog}
use Rattle.odb_commit.specs.Parts.{Parts, Preparation, Refuses, Ends, ToSeal, prepared, entry_after, sealing_of}
use Rattle.odb_system.specs.Held.{Held, session_at, with_open, grown, ComesTo, StaysBook, CarriesOut, HeldSeals, HeldStarts, HeldRollsBack, HeldExecutes, HeldCommits, HeldDefinesBy, HeldDefines, HeldRuns, StandsFor}
use Rattle.odb_system.specs.Durable.{IsBrokenOff, StandsBy, IsDurableBy, IsDurable, ChangesLog}
use Rattle.odb_system.proofs.Simulates.{IsUpright}

-- what a book is halted by behind a sealing with this result
abbrev HaltsBy : Result ℕ CommitError → Option ℕ → Type 0
HaltsBy (Ok number) halted = halted ≡ None
HaltsBy (Err e.FaultBefore) halted = halted ≡ None
HaltsBy (Err (e.InDoubt number)) halted = halted ≡ Some number
HaltsBy (Err error) halted = ⊥

-- nothing was written and the book is as before, or an entry was sealed
pub data Did (held after : Held) (old new : World) : Type 0 where
  nothing : new ≡ old → after.book ≡ held.book → Did held after old new
  sealed : (entry : Entry) (result : Result ℕ CommitError) → HeldSeals held entry result after old new → Did held after old new

did_come : (is held after : Held) (old new : World) → is.book ≡ held.book → ComesTo is after old new → Did held after old new
did_come is held after old new same comes = nothing comes.1 (ap (λ (h : Held). h.book) comes.0 ∙ same)

did_stay : (held after : Held) (old new : World) → StaysBook held after old new → Did held after old new
did_stay held after old new stays = nothing stays.still stays.book

did_starts : (held : Held) (at : ℕ) (t : Option Kept) (reply : Reply) (after : Held) (old new : World) → HeldStarts held at t reply after old new → Did held after old new
did_starts held at None Okay after old new step = did_come (with_open held at (Some (nothing_kept (at + 1)))) held after old new refl step
did_starts held at (Some t) InTransaction after old new step = did_come held held after old new refl step
did_starts held at None reply after old new step = absurd step
did_starts held at (Some t) reply after old new step = absurd step

did_roll_back : (held : Held) (at : ℕ) (t : Option Kept) (reply : Reply) (after : Held) (old new : World) → HeldRollsBack held at t reply after old new → Did held after old new
did_roll_back held at None NoTransaction after old new step = did_come held held after old new refl step
did_roll_back held at (Some t) Okay after old new step = did_come (with_open held at None) held after old new refl step
did_roll_back held at None reply after old new step = absurd step
did_roll_back held at (Some t) reply after old new step = absurd step

did_execute : (held : Held) (at : ℕ) (st : Statement) (t : Option Kept) (reply : Reply) (after : Held) (old new : World) → HeldExecutes held at st t reply after old new → Did held after old new
did_execute held at st t Memory after old new step = did_come held held after old new refl step
did_execute held at st None NoTransaction after old new step = did_come held held after old new refl step
did_execute held at st None reply after old new step = absurd step
did_execute held at st (Some t) reply after old new step = did_come (with_open held at (Some (grown held st t))) held after old new refl step.1

did_carry : (held : Held) (p : Preparation) (reply : Reply) (after : Held) (old new : World) → CarriesOut held p reply after old new → Did held after old new
did_carry held (Refuses why) reply after old new step = did_stay held after old new step.1
did_carry held (Ends number) reply after old new step = did_stay held after old new step.1
did_carry held (ToSeal entry) reply after old new step = sealed entry step.0 step.2

did_commit : (held : Held) (at : ℕ) (t : Option Kept) (reply : Reply) (after : Held) (old new : World) → HeldCommits held at t reply after old new → Did held after old new
did_commit held at t Memory after old new step = did_come held held after old new refl step
did_commit held at None NoTransaction after old new step = did_come held held after old new refl step
did_commit held at None reply after old new step = absurd step
did_commit held at (Some t) reply after old new step = did_carry held (prepared held.book t) reply after old new step.0

did_define_by : (d : Option ℕ) (held : Held) (at : ℕ) (p : Planned) (reply : Reply) (after : Held) (old new : World) → HeldDefinesBy d held at p reply after old new → Did held after old new
did_define_by (Some number) held at p reply after old new step = did_stay held after old new step.1
did_define_by None held at (Refused why) reply after old new step = did_stay held after old new step.1
did_define_by None held at (Plans writes) reply after old new step = did_carry held (sealing_of held.book (entry_after held.book (at + 1) writes)) reply after old new step

did_define : (held : Held) (at : ℕ) (st : Statement) (t : Option Kept) (reply : Reply) (after : Held) (old new : World) → HeldDefines held at st t reply after old new → Did held after old new
did_define held at st t Memory after old new step = did_come held held after old new refl step
did_define held at st (Some t) InTransaction after old new step = did_come held held after old new refl step
did_define held at st (Some t) reply after old new step = absurd step
did_define held at st None reply after old new step = did_define_by held.book.halted held at (planned st held.rows) reply after old new step.0

pub did : (held : Held) (at : ℕ) (st : Statement) (reply : Reply) (after : Held) (old new : World) → HeldRuns held at st reply after old new → Did held after old new
did held at Start reply after old new step = did_starts held at (session_at held at) reply after old new step
did held at Commit reply after old new step = did_commit held at (session_at held at) reply after old new step
did held at Rollback reply after old new step = did_roll_back held at (session_at held at) reply after old new step
did held at (Select what table f) reply after old new step = did_execute held at (Select what table f) (session_at held at) reply after old new step
did held at (Insert table tuples) reply after old new step = did_execute held at (Insert table tuples) (session_at held at) reply after old new step
did held at (Update table sets f) reply after old new step = did_execute held at (Update table sets f) (session_at held at) reply after old new step
did held at (Delete table f) reply after old new step = did_execute held at (Delete table f) (session_at held at) reply after old new step
did held at (CreateTable name columns key bank) reply after old new step = did_define held at (CreateTable name columns key bank) (session_at held at) reply after old new step
did held at (DropTable name) reply after old new step = did_define held at (DropTable name) (session_at held at) reply after old new step
did held at other reply after old new step = did_come held held after old new refl step.1

-- file 0 alone may have changed

unless_broken : (result : Result ℕ CommitError) (settled new : Db) (before mid after : World) → BreaksOff result settled new before mid after → ChangesOnly 0 mid after
unless_broken result settled new before mid after broke = subst (λ (w : World). ChangesOnly 0 mid w) (sym broke.nothing) (changes_none 0 mid)

sealed_only : (settled : Bool) (entry : Entry) (image : List ℕ) (result : Result ℕ CommitError) (db new_db : Db) (old new : World) → StandsBy settled db (file_of 0 old) → SealsLog entry image result db new_db old new → ChangesOnly 0 old new
sealed_only true entry image result db new_db old new stands seals = (seals.forces stands).puts.run.only
sealed_only false entry image result db new_db old new broken seals =
    let s = seals.settles broken.entries broken.since in
    changes_then 0 old s.mid new s.settling.only.only (elim s.rest as (λ _. ChangesOnly 0 s.mid new) [
      | inl f ↦ f.1.puts.run.only
      | inr broke ↦ unless_broken result s.settled new_db old s.mid new broke
    ])

pub stands_now : (held : Held) (file : Option File) → held.book.halted ≡ None → IsDurable held file → StandsBy held.book.transdb.pair.settled held.book.transdb file
stands_now held file settled durable = subst (λ (d : Option ℕ). IsDurableBy d held.book.transdb file) settled durable

pub only_log : (held after : Held) (old new : World) → IsDurable held (file_of 0 old) → Did held after old new → ChangesLog old new
only_log held after old new durable (nothing still same) = subst (λ (w : World). ChangesLog old w) (sym still) (begins 0 (λ _. Unit {0}) old tt)
only_log held after old new durable (sealed entry result step) = record {
  only = sealed_only held.book.transdb.pair.settled entry (entry_image entry) result held.book.transdb after.book.transdb old new (stands_now held (file_of 0 old) step.log.settled durable) step.seals;
  each = λ k from to. tt;
}

-- the log stands for it where none is in doubt

pub stands_upright : (db : Db) (file : Option File) → Stands db file → StandsBy db.pair.settled db file
stands_upright db file stands = subst (λ (b : Bool). StandsBy b db file) (sym (stands_settled db file stands).settled) stands

pub broken_upright : (db : Db) (file : Option File) → db.pair.settled ≡ false → IsBrokenOff db file → StandsBy db.pair.settled db file
broken_upright db file unsettled broken = subst (λ (b : Bool). StandsBy b db file) (sym unsettled) broken

-- what is said of a file that is told is said of one that is told
pub told_on : (Q R : Type 0) (o p : Option File) → is_some p ≡ is_some o → (Q → R) → IfSome o (λ _. Q) → IfSome p (λ _. R)
told_on Q R o None told step here = tt
told_on Q R None (Some g) told step here = cc
told_on Q R (Some f) (Some g) told step here = step here

-- the pair alone is another
pub broken_on : (db d : Db) (all : List Entry) (o p : Option File) → SameSides db d → db.header.other ≡ Clean → IfSome o (λ _. length all + 1 ≡ db.active.next) → is_some p ≡ is_some o → StandsSince d all p → IsBrokenOff d p
broken_on db d all o p same clean whole told since = record {
  clean = ap (λ (h : Header). h.other) same.header ∙ clean;
  entries = all;
  since = since;
  whole = told_on (length all + 1 ≡ db.active.next) (length all + 1 ≡ d.active.next) o p told (λ is. is ∙ sym (ap (λ (l : Log). l.next) same.active)) whole;
}

-- behind the sealing, of whatever state of the pair
sealed_stands : (settled : Bool) (entry : Entry) (image : List ℕ) (result : Result ℕ CommitError) (db new_db : Db) (halted : Option ℕ) (old new : World) → StandsBy settled db (file_of 0 old) → SealsLog entry image result db new_db old new
    → ChangesOnly 0 old new → HaltsBy result halted → IsDurableBy halted new_db (file_of 0 new)
sealed_stands true entry image (Ok number) db new_db halted old new stands seals only halts =
    subst (λ (d : Option ℕ). IsDurableBy d new_db (file_of 0 new)) (sym halts) (stands_upright new_db (file_of 0 new) (seals.forces stands).forced.stands)
sealed_stands true entry image (Err e.FaultBefore) db new_db halted old new stands seals only halts =
    subst (λ (d : Option ℕ). IsDurableBy d new_db (file_of 0 new)) (sym halts) (stands_upright new_db (file_of 0 new) ((seals.forces stands).faulted refl).settles.stands)
sealed_stands false entry image (Ok number) db new_db halted old new broken seals only halts =
    let s = seals.settles broken.entries broken.since in
    subst (λ (d : Option ℕ). IsDurableBy d new_db (file_of 0 new)) (sym halts) (elim s.rest as (λ _. StandsBy new_db.pair.settled new_db (file_of 0 new)) [
      | inl f ↦ stands_upright new_db (file_of 0 new) f.1.forced.stands
      | inr broke ↦ let wrong = broke.fault in absurd (cc wrong)
    ])
sealed_stands false entry image (Err e.FaultBefore) db new_db halted old new broken seals only halts =
    let s = seals.settles broken.entries broken.since in
    subst (λ (d : Option ℕ). IsDurableBy d new_db (file_of 0 new)) (sym halts) (elim s.rest as (λ _. StandsBy new_db.pair.settled new_db (file_of 0 new)) [
      | inl f ↦ stands_upright new_db (file_of 0 new) (f.1.faulted refl).settles.stands
      | inr broke ↦
          let told : is_some (file_of 0 new) ≡ is_some (file_of 0 old) = only.told new.time only.later (omega arith) in
          let there : StandsSince s.settled broken.entries (file_of 0 new) = subst (λ (w : World). StandsSince s.settled broken.entries (file_of 0 w)) (sym broke.nothing) s.settling.stands in
          let off : IsBrokenOff s.settled (file_of 0 new) = broken_on db s.settled broken.entries (file_of 0 old) (file_of 0 new) s.settling.sides broken.clean broken.whole told there in
          subst (λ (d : Db). StandsBy d.pair.settled d (file_of 0 new)) (sym broke.same) (broken_upright s.settled (file_of 0 new) broke.unsettled off)
    ])
sealed_stands settled entry image (Err (e.InDoubt number)) db new_db halted old new stands seals only halts = subst (λ (d : Option ℕ). IsDurableBy d new_db (file_of 0 new)) (sym halts) tt
sealed_stands settled entry image (Err error) db new_db halted old new stands seals only halts = absurd halts

halts_sealed : (entry : Entry) (result : Result ℕ CommitError) (old new : Parts) → IsSealed entry result old new → HaltsBy result new.halted
halts_sealed entry (Ok number) old new one = one.2
halts_sealed entry (Err e.FaultBefore) old new one = one.1
halts_sealed entry (Err (e.InDoubt number)) old new one = one.2
halts_sealed entry (Err error) old new one = absurd one

pub durable_did : (held after : Held) (old new : World) → IsDurable held (file_of 0 old) → Did held after old new → IsDurable after (file_of 0 new)
durable_did held after old new durable (nothing still same) =
    subst (λ (b : Parts). IsDurableBy b.halted b.transdb (file_of 0 new)) (sym same)
    (subst (λ (w : World). IsDurable held (file_of 0 w)) (sym still) durable)
durable_did held after old new durable (sealed entry result step) =
    let now = stands_now held (file_of 0 old) step.log.settled durable in
    sealed_stands held.book.transdb.pair.settled entry (entry_image entry) result held.book.transdb after.book.transdb after.book.halted old new now step.seals
    (sealed_only held.book.transdb.pair.settled entry (entry_image entry) result held.book.transdb after.book.transdb old new now step.seals) (halts_sealed entry result held.book after.book step.sealed)

-- A settled pair stays so where none is in doubt behind the step
sealed_settled : (entry : Entry) (image : List ℕ) (result : Result ℕ CommitError) (db new_db : Db) (halted : Option ℕ) (old new : World) → Stands db (file_of 0 old) → SealsLog entry image result db new_db old new
    → HaltsBy result halted → halted ≡ None → new_db.pair.settled ≡ true
sealed_settled entry image (Ok number) db new_db halted old new stands seals halts none = (stands_settled new_db (file_of 0 new) (seals.forces stands).forced.stands).settled
sealed_settled entry image (Err e.FaultBefore) db new_db halted old new stands seals halts none = (stands_settled new_db (file_of 0 new) ((seals.forces stands).faulted refl).settles.stands).settled
sealed_settled entry image (Err (e.InDoubt number)) db new_db halted old new stands seals halts none = let wrong : Some number ≡ None = sym halts ∙ none in absurd (cc wrong)
sealed_settled entry image (Err error) db new_db halted old new stands seals halts none = absurd halts

none_number : (o : Option Entry) → option_map (λ (x : Entry). x.number) o ≡ None → o ≡ None
none_number None is = refl
none_number (Some x) is = cc

pub none_halted : (held : Held) (m : Machine) → StandsFor held m → held.book.halted ≡ None → m.in_doubt ≡ None
none_halted held m stands halted = none_number m.in_doubt (sym stands.book.halted ∙ halted)

pub upright_did : (m : Machine) (held after : Held) (old new : World) → StandsFor held m → IsDurable held (file_of 0 old) → Did held after old new → IsUpright m after
upright_did m held after old new stands durable (nothing still same) = λ none whole.
    ap (λ (b : Parts). b.transdb.pair.settled) same ∙ stands.settled (none_halted held m stands (sym (ap (λ (b : Parts). b.halted) same) ∙ none)) whole
upright_did m held after old new stands durable (sealed entry result step) = λ none whole.
    let settled : held.book.transdb.pair.settled ≡ true = stands.settled (none_halted held m stands step.log.settled) whole in
    let now : Stands held.book.transdb (file_of 0 old) = subst (λ (b : Bool). StandsBy b held.book.transdb (file_of 0 old)) settled (stands_now held (file_of 0 old) step.log.settled durable) in
    sealed_settled entry (entry_image entry) result held.book.transdb after.book.transdb after.book.halted old new now step.seals (halts_sealed entry result held.book after.book step.sealed) none
