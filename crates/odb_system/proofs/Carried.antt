-- What was prepared and carried out is what the book of the definitions does.
use Rattle.std.proofs.Common.{◌≡◌, ℕ, ◌+◌, ◌<◌, ◌≤◌, Bool, true, false, nat_lt, nat_le, cond, List, [], ◌∷◌, ◌++◌, length, Option, Some, None, option_map, Result, Ok, Err, refl, sym, ap, subst, ◌∙◌, arith}
use Rattle.std.specs.FinMap.{empty}
use Rattle.std.proofs.lemmas.Bool.Decides.{nat_tests}
use Rattle.odb_device.specs.World.{World}
use Rattle.odb_model.specs.declared.write.Write.{Write}
use Rattle.odb_model.specs.declared.entry.Entry.{Entry}
use Rattle.odb_model.specs.declared.reply.Reply.{Reply}
use Rattle.odb_model.specs.declared.reply.Reply.TheVariants.{Committed, Ended, InDoubt, Halted, Aged, Conflict, HistoryFull, Full, Fault, Turned}
use Rattle.odb_model.specs.State.{State, after_writes, replay}
use Rattle.odb_machine.specs.Book.{Book, Verdict, next_entry, need_of, room_of, most_entries, HasPlace, with_entry, with_doubted, Seals, Decides}
use Rattle.odb_machine.specs.Book as book
use Rattle.odb_machine.specs.Machine.{Machine, book_of}
use Rattle.odb_model.specs.Width.{entry_width}
use Rattle.odb_model.proofs.Replay.{replay_from-append}
use Rattle.odb_codec.specs.Image.{entry_image}
use Rattle.odb_codec.proofs.Lengths.{length-entry_image}
use Rattle.odb_transdb.specs.Standing.{Db, IsAdvanced}
use Rattle.odb_validate.specs.Window.{Windowed, push}
use Rattle.odb_commit.specs.declared.error.CommitError.{CommitError}
use Rattle.odb_commit.specs.declared.error.CommitError.TheVariants as e
use Rattle.odb_commit.specs.Parts.{Parts, Refuses, ToSeal}
use Rattle.odb_commit.specs.Standing.{StandsFor as BookStandsFor, sealing_in, preparation_of}
use Rattle.odb_commit.proofs.Following.{sealed, faulted, doubted}
use Rattle.odb_system.specs.Held.{Held, reply_of, sealing_reply, HeldSeals, StaysBook, CarriesOut, told_by}

-- whether a reply tells of no entry, of no turn and of no fault of TRANSDB
unfoldable pub is_plain : Reply → Bool
is_plain (Committed k) = false
is_plain (Fault f) = false
is_plain (InDoubt k) = false
is_plain (Turned side first) = false
is_plain reply = true

plain_halted : (k : ℕ) → is_plain (Halted k) ≡ true
unfolding is_plain
plain_halted k = refl

plain_aged : (o k : ℕ) → is_plain (Aged o k) ≡ true
unfolding is_plain
plain_aged o k = refl

plain_conflict : (k : ℕ) → is_plain (Conflict k) ≡ true
unfolding is_plain
plain_conflict k = refl

plain_ended : (k : ℕ) → is_plain (Ended k) ≡ true
unfolding is_plain
plain_ended k = refl

plain_end : is_plain HistoryFull ≡ true
unfolding is_plain
plain_end = refl

plain_full : (need room : ℕ) → is_plain (Full need room) ≡ true
unfolding is_plain
plain_full need room = refl

-- the book of the definitions after the sealing of an entry with this result
abbrev pub Moved : Result ℕ CommitError → Entry → Book → Book → Type 0
Moved (Ok number) entry before after = after ≡ with_entry before entry
Moved (Err (e.InDoubt number)) entry before after = after ≡ with_doubted before entry
Moved (Err error) entry before after = after ≡ before

-- what a commit step did: nothing was written, and the book is as before; or an entry was sealed
pub data Effect (held : Held) (before : Book) (reply : Reply) (after : Held) (b : Book) (old new : World) : Type 0 where
  still : new ≡ old → is_plain reply ≡ true → b ≡ before → Effect held before reply after b old new
  seals : (entry : Entry) (result : Result ℕ CommitError) → reply ≡ sealing_reply result → HeldSeals held entry result after old new → Moved result entry before b
      → Effect held before reply after b old new

-- the system's book stands for the one of the definitions, its rows are those of the history, and its
-- log is under the same header
pub record Keeps (since : ℕ) (held after : Held) (b : Book) : Type 0 where
  pub book : BookStandsFor since after.book b
  pub rows : after.rows ≡ replay b.history
  pub header : after.book.transdb.header ≡ held.book.transdb.header

-- so behind a commit step whose answers these are
pub record Went (P : Book → Type 0) (since : ℕ) (held : Held) (before : Book) (reply : Reply) (after : Held) (old new : World) : Type 0 where
  pub b : Book
  pub does : P b
  pub kept : Keeps since held after b
  pub effect : Effect held before reply after b old new

no_entry : (o : Option Entry) → option_map (λ (x : Entry). x.number) o ≡ None → o ≡ None
no_entry None is = refl
no_entry (Some x) is = cc

-- of a failed test
not_least : (m n : ℕ) → nat_le m n ≡ false → n < m
not_least m n is = grind (arith, nat_tests)

is_least : (m n : ℕ) → nat_le m n ≡ true → m ≤ n
is_least m n is = grind (arith, nat_tests)

not_below : (m n : ℕ) → nat_lt m n ≡ false → n ≤ m
not_below m n is = grind (arith, nat_tests)

is_below : (m n : ℕ) → nat_lt m n ≡ true → m < n
is_below m n is = grind (arith, nat_tests)

module _ (since : ℕ) (held : Held) (before : Book) (stands : BookStandsFor since held.book before) (rows : held.rows ≡ replay before.history) where
  stays_kept : (after : Held) (old new : World) → StaysBook held after old new → Keeps since held after before
  stays_kept after old new stays = record {
    book = subst (λ (p : Parts). BookStandsFor since p before) (sym stays.book) stands;
    rows = stays.rows ∙ rows;
    header = ap (λ (p : Parts). p.transdb.header) stays.book;
  }

  no_doubt : held.book.halted ≡ None → before.in_doubt ≡ None
  no_doubt settled = no_entry before.in_doubt (sym stands.halted ∙ settled)

  -- a reply that changes nothing
  pub stays : (P : Reply → Book → Type 0) (reply told : Reply) (after : Held) (old new : World) → is_plain told ≡ true → P told before → (reply ≡ told) × StaysBook held after old new
      → Went (λ b. P reply b) since held before reply after old new
  stays P reply told after old new plain does step =
      subst (λ (r : Reply). Went (λ b. P r b) since held before r after old new) (sym step.0)
      (record { b = before; does = does; kept = stays_kept after old new step.1; effect = still step.1.still plain refl })

  module _ (s : ℕ) (ws : List Write) where
    -- the entry was sealed
    sealed_went : (entry : Entry) (result : Result ℕ CommitError) (after : Held) (old new : World) → entry ≡ next_entry before s ws → HasPlace before s ws → HeldSeals held entry result after old new
        → Went (λ b. Seals before (told_by (sealing_reply result)) s ws (sealing_reply result) b) since held before (sealing_reply result) after old new
    sealed_went entry (Ok number) after old new is place step =
        let settled : before.in_doubt ≡ None = no_doubt step.log.settled in
        let number_is : entry.number ≡ length before.history + 1 = ap (λ (x : Entry). x.number) is in
        let width : length (entry_image entry) ≡ entry_width entry = length-entry_image entry in
        let on : IsAdvanced (13 + entry_width entry) held.book.transdb after.book.transdb = subst (λ (n : ℕ). IsAdvanced (13 + n) held.book.transdb after.book.transdb) width step.seals.advanced in
        let there : BookStandsFor since (record { transdb = after.book.transdb; window = push held.book.window entry; halted = None }) (with_entry before entry) =
        sealed since held.book before entry after.book.transdb stands settled number_is step.seals.placed on in
        let same : after.book ≡ record { transdb = after.book.transdb; window = push held.book.window entry; halted = None } =
        λ i. record { transdb = after.book.transdb; window = step.sealed.1 i; halted = step.sealed.2 i } in
        record {
          b = with_entry before entry;
          does = (place, step.sealed.0 ∙ number_is, ap (with_entry before) is);
          kept = record {
            book = subst (λ (p : Parts). BookStandsFor since p (with_entry before entry)) (sym same) there;
            rows = step.rows ∙ ap (λ (s : State). after_writes s entry.writes) rows ∙ sym (replay_from-append empty before.history (entry ∷ []));
            header = step.seals.placed.header;
          };
          effect = seals entry (Ok number) refl step refl;
        }
    sealed_went entry (Err e.FaultBefore) after old new is place step =
        let settled : before.in_doubt ≡ None = no_doubt step.log.settled in
        let there : BookStandsFor since (record held.book { transdb = after.book.transdb }) before =
        faulted since held.book before after.book.transdb stands step.seals.placed (step.seals.still refl) in
        let same : after.book ≡ record held.book { transdb = after.book.transdb } =
        λ i. record { transdb = after.book.transdb; window = step.sealed.0 i; halted = (step.sealed.1 ∙ sym step.log.settled) i } in
        record {
          b = before;
          does = (place, refl, refl, refl, refl);
          kept = record {
            book = subst (λ (p : Parts). BookStandsFor since p before) (sym same) there;
            rows = step.rows ∙ rows;
            header = step.seals.placed.header;
          };
          effect = seals entry (Err e.FaultBefore) refl step refl;
        }
    sealed_went entry (Err (e.InDoubt number)) after old new is place step =
        let number_is : entry.number ≡ length before.history + 1 = ap (λ (x : Entry). x.number) is in
        let there : BookStandsFor since (record held.book { transdb = after.book.transdb; halted = Some entry.number }) (with_doubted before entry) =
        doubted since held.book before entry after.book.transdb stands step.seals.placed in
        let same : after.book ≡ record held.book { transdb = after.book.transdb; halted = Some entry.number } =
        λ i. record { transdb = after.book.transdb; window = step.sealed.1 i; halted = (step.sealed.2 ∙ ap Some step.sealed.0) i } in
        record {
          b = with_doubted before entry;
          does = (place, step.sealed.0 ∙ number_is, refl, refl, ap (with_doubted before) is);
          kept = record {
            book = subst (λ (p : Parts). BookStandsFor since p (with_doubted before entry)) (sym same) there;
            rows = step.rows ∙ rows;
            header = step.seals.placed.header;
          };
          effect = seals entry (Err (e.InDoubt number)) refl step refl;
        }
    sealed_went entry (Err error) after old new is place step = absurd step.sealed

    -- what is left to seal: the tests of the history's end and of the room
    pub carries : (reply : Reply) (after : Held) (old new : World) → CarriesOut held (sealing_in before s ws) reply after old new
        → Went (λ b. Seals before (told_by reply) s ws reply b) since held before reply after old new
    carries reply after old new = by_end (nat_le most_entries (length before.history)) refl
      where
        by_room : (c : Bool) → nat_lt (room_of before) (need_of before s ws) ≡ c → length before.history < most_entries
            → CarriesOut held (cond c (Refuses (e.Full (need_of before s ws) (room_of before))) (ToSeal (next_entry before s ws))) reply after old new
            → Went (λ b. Seals before (told_by reply) s ws reply b) since held before reply after old new
        by_room true is few step =
            stays (λ r b. Seals before (told_by r) s ws r b) reply (Full (need_of before s ws) (room_of before)) after old new (plain_full (need_of before s ws) (room_of before)) (few, refl, refl, is_below (room_of before) (need_of before s ws) is, refl) step
        by_room false is few step =
            let place : HasPlace before s ws = record { few = few; room = not_below (room_of before) (need_of before s ws) is } in
            subst (λ (r : Reply). Went (λ b. Seals before (told_by r) s ws r b) since held before r after old new) (sym step.1)
            (sealed_went (next_entry before s ws) step.0 after old new refl place step.2)

        by_end : (c : Bool) → nat_le most_entries (length before.history) ≡ c
            → CarriesOut held (cond c (Refuses e.HistoryFull) (cond (nat_lt (room_of before) (need_of before s ws)) (Refuses (e.Full (need_of before s ws) (room_of before))) (ToSeal (next_entry before s ws)))) reply after old new
            → Went (λ b. Seals before (told_by reply) s ws reply b) since held before reply after old new
        by_end true is step = stays (λ r b. Seals before (told_by r) s ws r b) reply HistoryFull after old new plain_end (is_least most_entries (length before.history) is, refl) step
        by_end false is step = by_room (nat_lt (room_of before) (need_of before s ws)) refl (not_least most_entries (length before.history) is) step

  -- COMMIT by its verdict
  pub carries_verdict : (s : ℕ) (v : Verdict) (reply : Reply) (after : Held) (old new : World) → CarriesOut held (preparation_of before s v) reply after old new
      → Went (λ b. Decides before (told_by reply) s v reply b) since held before reply after old new
  carries_verdict s (book.Halted k) reply after old new step = stays (λ r b. Decides before (told_by r) s (book.Halted k) r b) reply (Halted k) after old new (plain_halted k) (refl, refl) step
  carries_verdict s (book.Aged o k) reply after old new step = stays (λ r b. Decides before (told_by r) s (book.Aged o k) r b) reply (Aged o k) after old new (plain_aged o k) (refl, refl, refl) step
  carries_verdict s (book.Conflict k) reply after old new step = stays (λ r b. Decides before (told_by r) s (book.Conflict k) r b) reply (Conflict k) after old new (plain_conflict k) (refl, refl) step
  carries_verdict s (book.Ended k) reply after old new step = stays (λ r b. Decides before (told_by r) s (book.Ended k) r b) reply (Ended k) after old new (plain_ended k) (refl, refl) step
  carries_verdict s (book.Writes ws) reply after old new step = carries s ws reply after old new step
