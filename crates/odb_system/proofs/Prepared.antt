-- What a commit step that was prepared and carried out makes of what a system holds.
use Rattle.std.proofs.Common.{◌≡◌, ℕ, ◌+◌, ◌<◌, ◌≤◌, Bool, true, false, List, Option, Some, None, Result, Ok, Err, inl, inr, refl, sym, ap, subst, ◌∙◌}
use Rattle.odb_device.specs.World.{World}
use Rattle.odb_model.specs.declared.entry.Entry.{Entry}
use Rattle.odb_model.specs.declared.write.Write.{Write}
use Rattle.odb_model.specs.declared.statement.Statement.{Statement}
use Rattle.odb_model.specs.declared.reply.Reply.{Reply}
use Rattle.odb_model.specs.declared.reply.Reply.TheVariants.{Memory, Ended, Halted, InTransaction}
use Rattle.odb_machine.specs.Book.{most_entries}
use Rattle.odb_model.specs.Definitions.{Planned, Refused, Plans, planned}
use Rattle.odb_model.specs.State.{State}
use Rattle.odb_model.specs.Storable.{HasKeys}
use Rattle.odb_codec.specs.Image.{entry_image}
use Rattle.odb_transdb.specs.Header.{first_held}
use Rattle.odb_keytable.specs.Committed.{Committed}
use Rattle.odb_txn.specs.Transaction.{Kept}
use Rattle.odb_validate.specs.Window.{reserve}
use Rattle.odb_commit.specs.declared.ready.Ready.{Ready}
use Rattle.odb_commit.specs.declared.ready.Ready.TheVariants as ready
use Rattle.odb_commit.specs.declared.error.CommitError.{CommitError}
use Rattle.odb_commit.specs.declared.error.CommitError.TheVariants as e
use Rattle.odb_commit.specs.Parts.{Parts, count, CanSeal, IsAligned, Preparation, Refuses, Ends, ToSeal, prepared, sealing_of, entry_after, IsPrepared, IsLeft}
use Rattle.odb_commit.specs.Sealing.{IsSealed}
use Rattle.odb_system.specs.Open.{IsOpen}
use Rattle.odb_system.specs.Held.{Held, IsHeld, without_place, session_at, reply_of, sealing_reply, StaysBook, ComesTo, CarriesOut, HeldSeals, HeldCommits, HeldDefinesBy, HeldDefines, sessions_behind}
use Rattle.odb_system.specs.Sealed.{SealsRows, SealsBy, CanCarry, CarriesRows}
use Rattle.odb_system.specs.Defining.{IsRefusedBy}
use Rattle.odb_system.proofs.Behind.{held_seals, first_sealed, few_sealed}

abbrev is_memory : Reply → Bool
is_memory Memory = true
is_memory reply = false

-- what a commit step came to
pub data Came (held : Held) (p : Preparation) (reply : Reply) (after : Held) (old new : World) : Type 0 where
  memory : reply ≡ Memory → StaysBook held after old new → Came held p reply after old new
  carried : is_memory reply ≡ false → CarriesOut held p reply after old new → Came held p reply after old new

-- an entry that is sealed isn't answered by want of memory
sealed_told : (entry : Entry) (result : Result ℕ CommitError) (old new : Parts) → IsSealed entry result old new → is_memory (sealing_reply result) ≡ false
sealed_told entry (Ok number) old new sealed = refl
sealed_told entry (Err e.FaultBefore) old new sealed = refl
sealed_told entry (Err (e.InDoubt number)) old new sealed = refl
sealed_told entry (Err error) old new sealed = absurd sealed

module _ (book : Parts) (rows : Committed) (xs ys : List (Option Kept)) where
  abbrev seen : Held
  seen = record { book = without_place book; sessions = xs; rows = rows.state }

  abbrev after_of : Parts → Committed → Held
  after_of new after = record { book = without_place new; sessions = ys; rows = after.state }

  stays_so : (mid new : Parts) (after : Committed) (old now : World) → without_place mid ≡ without_place book → new ≡ mid → after ≡ rows → now ≡ old → StaysBook seen (after_of new after) old now
  stays_so mid new after old now left same still quiet = record {
    book = ap without_place same ∙ left;
    rows = ap (λ (c : Committed). c.state) still;
    still = quiet;
  }

  came_sealing : (p : Preparation) (entry : Entry) (image : List ℕ) (reply : Reply) (mid new : Parts) (after : Committed) (old now : World) → first_held book.transdb.header ≡ 1 → p ≡ ToSeal entry
      → mid ≡ record book { window = reserve book.window } → CanSeal mid entry image → SealsRows entry image reply mid new rows after old now → Came seen p reply (after_of new after) old now
  came_sealing p entry image reply mid new after old now first is left can (inl step) =
      memory step.0 (stays_so mid new after old now (ap without_place left) step.1 step.2 step.3)
  came_sealing p entry image reply mid new after old now first is left can (inr step) =
      let result : Result ℕ CommitError = step.0 in
      let by : SealsBy entry image result (record book { window = reserve book.window }) new rows after old now =
      subst (λ (m : Parts). SealsBy entry image result m new rows after old now) left step.2 in
      let seals : HeldSeals seen entry result (after_of new after) old now =
      held_seals book new xs ys rows after entry image result old now first (subst (λ (m : Parts). CanSeal m entry image) left can) by in
      carried (ap is_memory step.1 ∙ sealed_told entry result mid new step.2.sealed)
      (subst (λ (q : Preparation). CarriesOut seen q reply (after_of new after) old now) (sym is) (result, step.1, seals))

  pub came : (p : Preparation) (ready : Result Ready CommitError) (reply : Reply) (mid new : Parts) (after : Committed) (old now : World) → first_held book.transdb.header ≡ 1 → IsPrepared p ready
      → IsLeft ready book mid → CarriesRows ready reply mid new rows after old now → Came seen p reply (after_of new after) old now
  came p (Ok (ready.Ended number)) reply mid new after old now first is left step =
      carried (ap is_memory step.0)
      (subst (λ (q : Preparation). CarriesOut seen q reply (after_of new after) old now) (sym is)
      (step.0, stays_so mid new after old now (ap without_place left) step.1 step.2 step.3))
  came p (Ok (ready.Sealing entry image)) reply mid new after old now first is left step =
      came_sealing p entry image reply mid new after old now first is.0 left.0 left.1 step
  came p (Err e.NoMemory) reply mid new after old now first is left step =
      memory step.0 (stays_so mid new after old now (ap without_place left) step.1 step.2 step.3)
  came p (Err error) reply mid new after old now first is left step =
      carried (ap is_memory step.0)
      (subst (λ (q : Preparation). CarriesOut seen q reply (after_of new after) old now) (sym is)
      (step.0, stays_so mid new after old now (ap without_place left) step.1 step.2 step.3))

-- all of what is held is as before
pub held_same : (held after : Held) (old now : World) → StaysBook held after old now → after.sessions ≡ held.sessions → ComesTo held after old now
held_same held after old now stays sessions = ((λ i. record { book = stays.book i; sessions = sessions i; rows = stays.rows i }), stays.still)

-- a commit
commits_told : (held : Held) (at : ℕ) (t : Kept) (reply : Reply) (after : Held) (old now : World) → is_memory reply ≡ false
    → CarriesOut held (prepared held.book t) reply after old now × (after.sessions ≡ sessions_behind held at reply) → HeldCommits held at (Some t) reply after old now
commits_told held at t Memory after old now told step = let no : ⊥ = cc in absurd no
commits_told held at t reply after old now told step = step

pub commits : (held : Held) (at : ℕ) (t : Kept) (reply : Reply) (after : Held) (old now : World) → Came held (prepared held.book t) reply after old now → after.sessions ≡ sessions_behind held at reply
    → HeldCommits held at (Some t) reply after old now
commits held at t reply after old now (memory is stays) sessions =
    subst (λ (r : Reply). HeldCommits held at (Some t) r after old now) (sym is) (held_same held after old now stays (sessions ∙ ap (sessions_behind held at) is))
commits held at t reply after old now (carried told step) sessions = commits_told held at t reply after old now told (step, sessions)

-- a definition
defines_told : (held : Held) (at : ℕ) (st : Statement) (reply : Reply) (after : Held) (old now : World) → is_memory reply ≡ false
    → HeldDefinesBy held.book.halted held at (planned st held.rows) reply after old now × (after.sessions ≡ held.sessions) → HeldDefines held at st None reply after old now
defines_told held at st Memory after old now told step = let no : ⊥ = cc in absurd no
defines_told held at st reply after old now told step = step

pub defines_halted : (held : Held) (at : ℕ) (st : Statement) (number : ℕ) (w : World) → held.book.halted ≡ Some number → HeldDefines held at st None (Halted number) held w w
defines_halted held at st number w is =
    subst (λ (h : Option ℕ). HeldDefinesBy h held at (planned st held.rows) (Halted number) held w w × (held.sessions ≡ held.sessions)) (sym is) ((refl, record { book = refl; rows = refl; still = refl }), refl)

-- it is refused
refuses_told : (held : Held) (at : ℕ) (st : Statement) (reply : Reply) (after : Held) (old now : World) → held.book.halted ≡ None → IsRefusedBy (planned st held.rows) reply → StaysBook held after old now
    → after.sessions ≡ held.sessions → HeldDefines held at st None reply after old now
refuses_told held at st Memory after old now settled refused stays sessions = held_same held after old now stays sessions
refuses_told held at st reply after old now settled refused stays sessions =
    subst (λ (h : Option ℕ). HeldDefinesBy h held at (planned st held.rows) reply after old now × (after.sessions ≡ held.sessions)) (sym settled)
    (subst (λ (p : Planned). HeldDefinesBy None held at p reply after old now × (after.sessions ≡ held.sessions)) (sym refused) ((refl, stays), sessions))

pub defines_refused : (held : Held) (at : ℕ) (st : Statement) (reply : Reply) (after : Held) (old now : World) → held.book.halted ≡ None → IsRefusedBy (planned st held.rows) reply → StaysBook held after old now
    → after.sessions ≡ held.sessions → HeldDefines held at st None reply after old now
defines_refused held at st reply after old now settled refused stays sessions = refuses_told held at st reply after old now settled refused stays sessions

-- its writes are sealed
pub defines_planned : (held : Held) (at : ℕ) (st : Statement) (writes : List Write) (reply : Reply) (after : Held) (old now : World) → held.book.halted ≡ None → planned st held.rows ≡ Plans writes
    → Came held (sealing_of held.book (entry_after held.book (at + 1) writes)) reply after old now → after.sessions ≡ held.sessions → HeldDefines held at st None reply after old now
defines_planned held at st writes reply after old now settled plan (memory is stays) sessions =
    subst (λ (r : Reply). HeldDefines held at st None r after old now) (sym is) (held_same held after old now stays sessions)
defines_planned held at st writes reply after old now settled plan (carried told step) sessions =
    defines_told held at st reply after old now told
    (subst (λ (h : Option ℕ). HeldDefinesBy h held at (planned st held.rows) reply after old now × (after.sessions ≡ held.sessions)) (sym settled)
    (subst (λ (p : Planned). HeldDefinesBy None held at p reply after old now × (after.sessions ≡ held.sessions)) (sym plan) (step, sessions)))

-- what was prepared can be carried out
pub can_carry : (p : Preparation) (ready : Result Ready CommitError) (book mid : Parts) → ((x : Entry) → p ≡ ToSeal x → count book < most_entries) → IsPrepared p ready → IsLeft ready book mid → CanCarry mid ready
can_carry p (Ok (ready.Sealing entry image)) book mid few is left =
    (left.1, subst (λ (b : Parts). count b < most_entries) (sym left.0) (few entry is.0))
can_carry p (Ok (ready.Ended number)) book mid few is left = tt
can_carry p (Err error) book mid few is left = tt

-- the header stays, and the count and what is in doubt until it is carried out
pub first_left : (ready : Result Ready CommitError) (book mid : Parts) → IsLeft ready book mid → first_held book.transdb.header ≡ 1 → first_held mid.transdb.header ≡ 1
first_left (Ok (ready.Sealing entry image)) book mid left first = ap (λ (b : Parts). first_held b.transdb.header) left.0 ∙ first
first_left (Ok (ready.Ended number)) book mid left first = ap (λ (b : Parts). first_held b.transdb.header) left ∙ first
first_left (Err error) book mid left first = ap (λ (b : Parts). first_held b.transdb.header) left ∙ first

pub count_left : (ready : Result Ready CommitError) (book mid : Parts) → IsLeft ready book mid → count mid ≡ count book
count_left (Ok (ready.Sealing entry image)) book mid left = ap count left.0
count_left (Ok (ready.Ended number)) book mid left = ap count left
count_left (Err error) book mid left = ap count left

-- what a file must hold for it doesn't change either
pub durable_left : (P : Parts → Type 0) (ready : Result Ready CommitError) (book mid : Parts) → IsLeft ready book mid → P book → P (record book { window = reserve book.window }) → P mid
durable_left P (Ok (ready.Sealing entry image)) book mid left same reserved = subst P (sym left.0) reserved
durable_left P (Ok (ready.Ended number)) book mid left same reserved = subst P (sym left) same
durable_left P (Err error) book mid left same reserved = subst P (sym left) same

-- nor does the header behind it
pub first_carried : (ready : Result Ready CommitError) (reply : Reply) (old new : Parts) (rows after : Committed) (before now : World) → CarriesRows ready reply old new rows after before now
    → first_held old.transdb.header ≡ 1 → first_held new.transdb.header ≡ 1
first_carried (Ok (ready.Sealing entry image)) reply old new rows after before now (inl step) first = ap (λ (b : Parts). first_held b.transdb.header) step.1 ∙ first
first_carried (Ok (ready.Sealing entry image)) reply old new rows after before now (inr step) first = first_sealed entry image step.0 old new rows after before now step.2 first
first_carried (Ok (ready.Ended number)) reply old new rows after before now step first = ap (λ (b : Parts). first_held b.transdb.header) step.1 ∙ first
first_carried (Err error) reply old new rows after before now step first = ap (λ (b : Parts). first_held b.transdb.header) step.1 ∙ first

-- nor has the history more entries than it may have
pub few_left : (ready : Result Ready CommitError) (book mid : Parts) → IsLeft ready book mid → count book ≤ most_entries → count mid ≤ most_entries
few_left ready book mid left few = subst (λ (n : ℕ). n ≤ most_entries) (sym (count_left ready book mid left)) few

pub few_carried : (ready : Result Ready CommitError) (reply : Reply) (old new : Parts) (rows after : Committed) (before now : World) → CanCarry old ready → IsAligned new → CarriesRows ready reply old new rows after before now
    → count old ≤ most_entries → count new ≤ most_entries
few_carried (Ok (ready.Sealing entry image)) reply old new rows after before now can aligned (inl step) few = subst (λ (b : Parts). count b ≤ most_entries) (sym step.1) few
few_carried (Ok (ready.Sealing entry image)) reply old new rows after before now can aligned (inr step) few = few_sealed entry image step.0 old new rows after before now can.0 can.1 aligned step.2
few_carried (Ok (ready.Ended number)) reply old new rows after before now can aligned step few = subst (λ (b : Parts). count b ≤ most_entries) (sym step.1) few
few_carried (Err error) reply old new rows after before now can aligned step few = subst (λ (b : Parts). count b ≤ most_entries) (sym step.1) few
