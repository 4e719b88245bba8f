-- What a step of the machine leaves of its history, and what its reply tells.
use Rattle.std.proofs.Common.{◌≡◌, inl, inr, ℕ, ◌+◌, ◌≤◌, Bool, true, false, cond, List, [], ◌∷◌, ◌++◌, length, Option, Some, None, refl, sym, ◌∙◌, ap, subst, arith, append_assoc, length-append, eqb-true}
use Rattle.std.specs.Prelude.{take}
use Rattle.std.proofs.lemmas.List.{append-nil}
use Rattle.std.proofs.Math.Seq.{take-append_seam}
use Rattle.odb_model.specs.declared.write.Write.{Write}
use Rattle.odb_model.specs.declared.entry.Entry.{Entry}
use Rattle.odb_model.specs.declared.event.Event.{Event}
use Rattle.odb_model.specs.declared.event.Event.TheVariants.{Session as OfSession, Control as Upkeep}
use Rattle.odb_model.specs.declared.reply.Head.{Head}
use Rattle.odb_model.specs.declared.reply.Head.TheVariants.{Session as HeadOf, Control, Unknown}
use Rattle.odb_model.specs.declared.reply.Reply.{Reply}
use Rattle.odb_model.specs.declared.reply.Reply.TheVariants.{Okay, Committed, Ended, InDoubt, NotYet, NoTransaction, InTransaction, Halted, Conflict, HistoryFull, Full, Fault, Turned, Memory}
use Rattle.odb_model.specs.declared.statement.Statement.{Statement}
use Rattle.odb_model.specs.declared.statement.Statement.TheVariants.{Start, Commit, Select, Insert, Rollback, Update, Delete, CreateDatabank, CreateTable, DropTable, CreateShadow, ShadowOnline, ShadowOffline, ShadowMaster, DropShadow, CreateBackup, BackupReady, DropBackup, Restore}
use Rattle.odb_model.specs.State.{replay}
use Rattle.odb_model.specs.Transaction.{Executed, open_state, table_keys, net, reads_of, conflict}
use Rattle.odb_model.specs.Session.{Session, Idle, Working}
use Rattle.odb_model.specs.Window.{window_start, oldest_number}
use Rattle.odb_model.specs.Definitions.{Planned, Refused, Plans, planned}
use Rattle.odb_machine.specs.Book.{Book, Seen, Verdict, by_conflict, unless_aged, by_doubt, next_entry, Seals, Decides, DefinesBy, ends_transaction}
use Rattle.odb_machine.specs.Book as book
use Rattle.odb_machine.specs.Machine.{Machine, with_session, book_of, with_book, behind, with_doubt, history_or_more, writes_made, executed_now, Starts, Executes, Commits, RollsBack, DefinesIn, Refuses, is_built, UpkeepStep, ControlStep, StatementStep, Step}
use Rattle.odb_model.specs.declared.control.Control.{Control as ControlLine}
use Rattle.odb_model.specs.declared.control.Control.TheVariants as control
use Rattle.odb_model.specs.declared.side.OtherSide.{OtherSide}
use Rattle.odb_model.specs.declared.side.OtherSide.TheVariants.{Live, Dirty, Clean}
use Rattle.odb_machine.specs.Refusals.{first_of, doubt_refusal, unclean_refusal}
use Rattle.odb_machine.specs.Controls.{WorksUnless, Controls}
use Rattle.odb_model.specs.Script.{IsRefused}
use Rattle.odb_machine.specs.Play.{Answer, IsAnswer, IsRun, tells_fault}
use Rattle.odb_model.proofs.Meant.{is_meant}
use Rattle.odb_model.proofs.Refusals.{is_refusal, not_refused}
use Rattle.odb_machine.proofs.Upkeep.{OnlyTurns, only_turns}
use Rattle.odb_model.proofs.Longer.{not_meant}
use Rattle.odb_machine.proofs.Runs.{unless_aged-or}
use Rattle.odb_play.proofs.Outside.{TellRisen}

-- the history never gets shorter, and what may be on the disk besides it stays or grows
pub record GoesOn (m last : Machine) : Type 0 where
  pub history : length m.history ≤ length last.history
  pub more : List Entry
  pub longer : history_or_more last ≡ history_or_more m ++ more

-- what may be on the disk begins with the history
pub history_front : (m : Machine) → (rest : List Entry) × (history_or_more m ≡ m.history ++ rest)
history_front m = front m.in_doubt
  where
    front : (doubt : Option Entry) → (rest : List Entry) × (with_doubt m.history doubt ≡ m.history ++ rest)
    front None = ([], sym (append-nil m.history))
    front (Some e) = (e ∷ [], refl)

pub history_taken : (m : Machine) → take (length m.history) (history_or_more m) ≡ m.history
history_taken m = let front = history_front m in ap (take (length m.history)) front.1 ∙ take-append_seam m.history front.0

pub history_within : (m : Machine) → length m.history ≤ length (history_or_more m)
history_within m = let front = history_front m in omega (arith, ap length front.1, length-append m.history front.0)

pub goes_none : (m : Machine) → GoesOn m m
goes_none m = record { history = omega arith; more = []; longer = sym (append-nil (history_or_more m)) }

pub goes_then : (a b c : Machine) → GoesOn a b → GoesOn b c → GoesOn a c
goes_then a b c first second = record {
  history = omega (arith, first.history, second.history);
  more = first.more ++ second.more;
  longer = second.longer ∙ ap (λ es. es ++ second.more) first.longer ∙ append_assoc (history_or_more a) first.more second.more;
}

-- what an earlier machine's history has, a later one may have on the disk
pub history_goes : (m last : Machine) → GoesOn m last → take (length m.history) (history_or_more last) ≡ m.history
history_goes m last goes =
    let front = history_front m in
    ap (take (length m.history)) (goes.longer ∙ ap (λ es. es ++ goes.more) front.1 ∙ append_assoc m.history front.0 goes.more)
    ∙ take-append_seam m.history (front.0 ++ goes.more)

goes_same : (m after : Machine) → after ≡ m → GoesOn m after
goes_same m after same = subst (λ (x : Machine). GoesOn m x) (sym same) (goes_none m)

goes_session : (m : Machine) (s : ℕ) (t : Session) (after : Machine) → after ≡ with_session m s t → GoesOn m after
goes_session m s t after same = subst (λ (x : Machine). GoesOn m x) (sym same) (record { history = omega arith; more = []; longer = sym (append-nil (history_or_more m)) })

-- the history of a book, and that with its entry in doubt, go on from the machine's
record GoesBook (m : Machine) (b : Book) : Type 0 where
  history : length m.history ≤ length b.history
  more : List Entry
  longer : with_doubt b.history b.in_doubt ≡ history_or_more m ++ more

book_same : (m : Machine) (b : Book) → b ≡ book_of m → GoesBook m b
book_same m b same = subst (GoesBook m) (sym same) (record { history = omega arith; more = []; longer = sym (append-nil (history_or_more m)) })

book_entry : (m : Machine) (b : Book) (e : Entry) → m.in_doubt ≡ None → b ≡ book.with_entry (book_of m) e → GoesBook m b
book_entry m b e none same = subst (GoesBook m) (sym same) (record {
  history = omega (arith, length-append m.history (e ∷ []));
  more = e ∷ [];
  longer = ap (λ d. with_doubt (m.history ++ e ∷ []) d) none ∙ sym (ap (λ d. with_doubt m.history d ++ e ∷ []) none);
})

book_doubt : (m : Machine) (b : Book) (e : Entry) → m.in_doubt ≡ None → b ≡ book.with_doubted (book_of m) e → GoesBook m b
book_doubt m b e none same = subst (GoesBook m) (sym same) (record { history = omega arith; more = e ∷ []; longer = sym (ap (λ d. with_doubt m.history d ++ e ∷ []) none) })

-- a machine with that history and entry in doubt
goes_book : (m after : Machine) (b : Book) → after.history ≡ b.history → after.in_doubt ≡ b.in_doubt → GoesBook m b → GoesOn m after
goes_book m after b history in_doubt goes = record {
  history = omega (arith, goes.history, ap length history);
  more = goes.more;
  longer = (λ i. with_doubt (history i) (in_doubt i)) ∙ goes.longer;
}

-- what a reply tells is so: a commit is in the history, and of a fault the count rose
abbrev pub IsSo : Seen → Reply → Machine → Type 0
IsSo seen (Committed k) after = k ≤ length after.history
IsSo seen (Fault f) after = seen.rose f ≡ true
IsSo seen (InDoubt k) after = seen.rose 0 ≡ true
IsSo seen reply after = Unit {0}

abbrev Leaves : Machine → Seen → Reply → Machine → Type 0
Leaves m seen reply after = GoesOn m after × IsSo seen reply after

leaves_starts : (m : Machine) (s : ℕ) (seen : Seen) (o : Session) (reply : Reply) (after : Machine) → Starts m s o reply after → Leaves m seen reply after
leaves_starts m s seen Idle Okay after step = (goes_session m s (Working []) after step, tt)
leaves_starts m s seen Idle Memory after step = (goes_same m after step, tt)
leaves_starts m s seen (Working t) Memory after step = (goes_same m after step, tt)
leaves_starts m s seen (Working t) InTransaction after step = (goes_same m after step, tt)
leaves_starts m s seen Idle reply after step = absurd step
leaves_starts m s seen (Working t) reply after step = absurd step

not_executed : (m : Machine) (st : Statement) (t : List Executed) (r : Reply) → is_meant r ≡ false → r ≡ (executed_now m st t).reply → ⊥
not_executed m st t r other same = not_meant r st (open_state (length m.history) (writes_made m t) m.history) (table_keys (writes_made m t)) m.format other same

-- a statement on rows tells of no commit and of no fault
so_executes : (m : Machine) (st : Statement) (t : List Executed) (seen : Seen) (reply : Reply) (after : Machine) → reply ≡ (executed_now m st t).reply → IsSo seen reply after
unfolding is_meant
so_executes m st t seen (Committed k) after same = absurd (not_executed m st t (Committed k) refl same)
so_executes m st t seen (Fault f) after same = absurd (not_executed m st t (Fault f) refl same)
so_executes m st t seen (InDoubt k) after same = absurd (not_executed m st t (InDoubt k) refl same)
so_executes m st t seen reply after same = tt

leaves_executes : (m : Machine) (s : ℕ) (st : Statement) (seen : Seen) (o : Session) (reply : Reply) (after : Machine) → Executes m s st o reply after → Leaves m seen reply after
leaves_executes m s st seen o Memory after step = (goes_same m after step, tt)
leaves_executes m s st seen Idle NoTransaction after step = (goes_same m after step, tt)
leaves_executes m s st seen Idle reply after step = absurd step
leaves_executes m s st seen (Working t) reply after step = (goes_session m s (Working (t ++ executed_now m st t ∷ [])) after step.1, so_executes m st t seen reply after step.0)

-- a history with its next entry has as many entries as that one's number
one_longer : (m : Machine) (b : Book) (e : Entry) (k : ℕ) → k ≡ length m.history + 1 → b ≡ book.with_entry (book_of m) e → k ≤ length b.history
one_longer m b e k place same = omega (arith, ap (λ (x : Book). length x.history) same, length-append m.history (e ∷ []))

-- what a book's answer leaves of it, and tells
abbrev Tells : Machine → Seen → Reply → Book → Type 0
Tells m seen reply b = GoesBook m b × IsSo seen reply (with_book m b)

-- the sealing of some writes
tells_seals : (m : Machine) (s : ℕ) (seen : Seen) (ws : List Write) (reply : Reply) (b : Book) → m.in_doubt ≡ None → Seals (book_of m) seen s ws reply b → Tells m seen reply b
tells_seals m s seen ws HistoryFull b is seals = (book_same m b seals.1, tt)
tells_seals m s seen ws (Full need room) b is seals = (book_same m b seals.4, tt)
tells_seals m s seen ws (Fault f) b is seals = (book_same m b seals.4, subst (λ (x : ℕ). seen.rose x ≡ true) (sym seals.1) seals.2)
tells_seals m s seen ws (InDoubt k) b is seals = (book_doubt m b (next_entry (book_of m) s ws) is seals.4, seals.2)
tells_seals m s seen ws (Committed k) b is seals =
    (book_entry m b (next_entry (book_of m) s ws) is seals.2, one_longer m b (next_entry (book_of m) s ws) k seals.1 seals.2)
tells_seals m s seen ws reply b is seals = absurd seals

-- COMMIT, by what its verdict is judged by
tells_judged : (m : Machine) (s : ℕ) (seen : Seen) (later : Option ℕ) (ws : List Write) (reply : Reply) (b : Book) → m.in_doubt ≡ None
    → Decides (book_of m) seen s (by_conflict later (length m.history) ws) reply b → Tells m seen reply b
tells_judged m s seen (Some k) ws (Conflict j) b is decides = (book_same m b decides.1, tt)
tells_judged m s seen (Some k) ws reply b is decides = absurd decides
tells_judged m s seen None [] (Ended p) b is decides = (book_same m b decides.1, tt)
tells_judged m s seen None [] reply b is decides = absurd decides
tells_judged m s seen None (w ∷ ws) reply b is decides = tells_seals m s seen (w ∷ ws) reply b is decides

tells_decides : (m : Machine) (s : ℕ) (seen : Seen) (d : Option Entry) (oldest : Option ℕ) (start : ℕ) (later : Option ℕ) (ws : List Write) (reply : Reply) (b : Book) → m.in_doubt ≡ d
    → Decides (book_of m) seen s (by_doubt d (unless_aged oldest start (by_conflict later (length m.history) ws))) reply b → Tells m seen reply b
tells_decides m s seen (Some x) oldest start later ws (Halted j) b is decides = (book_same m b decides.1, tt)
tells_decides m s seen (Some x) oldest start later ws reply b is decides = absurd decides
tells_decides m s seen None oldest start later ws reply b is decides =
    elim (unless_aged-or (book_of m) seen s oldest start (by_conflict later (length m.history) ws) reply b decides) as (λ w. Tells m seen reply b) [
      | inl judged ↦ tells_judged m s seen later ws reply b is judged
      | inr aged ↦ subst (λ (r : Reply). Tells m seen r b) (sym aged.2) (book_same m b aged.3, tt)
    ]

-- a definition, by its plan
tells_refused : (m : Machine) (seen : Seen) (st : Statement) (why : Reply) (after : Machine) → planned st (replay m.history) ≡ Refused why → IsSo seen why after
unfolding is_refusal
tells_refused m seen st (Committed k) after same = absurd (not_refused st (replay m.history) (Committed k) refl same)
tells_refused m seen st (Fault f) after same = absurd (not_refused st (replay m.history) (Fault f) refl same)
tells_refused m seen st (InDoubt k) after same = absurd (not_refused st (replay m.history) (InDoubt k) refl same)
tells_refused m seen st why after same = tt

tells_defines : (m : Machine) (s : ℕ) (seen : Seen) (st : Statement) (d : Option Entry) (p : Planned) (reply : Reply) (b : Book) → m.in_doubt ≡ d → planned st (replay m.history) ≡ p
    → DefinesBy d (book_of m) seen s p reply b → Tells m seen reply b
tells_defines m s seen st (Some e) p reply b is plan defines = subst (λ (r : Reply). Tells m seen r b) (sym defines.0) (book_same m b defines.1, tt)
tells_defines m s seen st None (Refused why) reply b is plan defines =
    (book_same m b defines.1, subst (λ (r : Reply). IsSo seen r (with_book m b)) (sym defines.0) (tells_refused m seen st why (with_book m b) plan))
tells_defines m s seen st None (Plans ws) reply b is plan defines = tells_seals m s seen ws reply b is defines

-- behind a commit, whatever the session is then in
so_idle : (m : Machine) (s : ℕ) (seen : Seen) (reply : Reply) → IsSo seen reply m → IsSo seen reply (with_session m s Idle)
so_idle m s seen (Committed k) so = so
so_idle m s seen (Fault f) so = so
so_idle m s seen (InDoubt k) so = so
so_idle m s seen reply so = tt

leaves_behind : (m : Machine) (s : ℕ) (seen : Seen) (reply : Reply) (b : Book) → Tells m seen reply b → Leaves m seen reply (behind m s reply b)
leaves_behind m s seen reply b tells =
    elim (ends_transaction reply) as (λ (c : Bool). Leaves m seen reply (cond c (with_session (with_book m b) s Idle) (with_book m b))) [
      | true ↦ (goes_book m (with_session (with_book m b) s Idle) b refl refl tells.0, so_idle (with_book m b) s seen reply tells.1)
      | false ↦ (goes_book m (with_book m b) b refl refl tells.0, tells.1)
    ]

leaves_commits : (m : Machine) (s : ℕ) (seen : Seen) (o : Session) (reply : Reply) (after : Machine) → Commits m s seen o reply after → Leaves m seen reply after
leaves_commits m s seen Idle NoTransaction after step = (goes_same m after step, tt)
leaves_commits m s seen Idle Memory after step = (goes_same m after step, tt)
leaves_commits m s seen (Working t) Memory after step = (goes_same m after step, tt)
leaves_commits m s seen Idle reply after step = absurd step
leaves_commits m s seen (Working t) reply after step =
    subst (λ (x : Machine). Leaves m seen reply x) (sym step.2)
    (leaves_behind m s seen reply step.0
    (tells_decides m s seen m.in_doubt (oldest_number (reads_of m.history t m.format)) (window_start m.history) (conflict m.history t m.format) (net (replay m.history) (writes_made m t)) reply step.0 refl step.1))

leaves_rolls_back : (m : Machine) (s : ℕ) (seen : Seen) (o : Session) (reply : Reply) (after : Machine) → RollsBack m s o reply after → Leaves m seen reply after
leaves_rolls_back m s seen Idle NoTransaction after step = (goes_same m after step, tt)
leaves_rolls_back m s seen (Working t) Okay after step = (goes_session m s Idle after step, tt)
leaves_rolls_back m s seen Idle reply after step = absurd step
leaves_rolls_back m s seen (Working t) reply after step = absurd step

leaves_defines : (m : Machine) (s : ℕ) (seen : Seen) (st : Statement) (o : Session) (reply : Reply) (after : Machine) → DefinesIn m s seen st o reply after → Leaves m seen reply after
leaves_defines m s seen st Idle Memory after step = (goes_same m after step, tt)
leaves_defines m s seen st (Working t) Memory after step = (goes_same m after step, tt)
leaves_defines m s seen st (Working t) InTransaction after step = (goes_same m after step, tt)
leaves_defines m s seen st (Working t) reply after step = absurd step
leaves_defines m s seen st Idle reply after step =
    let b : Book = step.0 in
    let tells : Tells m seen reply b = tells_defines m s seen st m.in_doubt (planned st (replay m.history)) reply b refl refl step.1 in
    subst (λ (x : Machine). Leaves m seen reply x) (sym step.2) (goes_book m (with_book m b) b refl refl tells.0, tells.1)

leaves_refuses : (m : Machine) (seen : Seen) (reply : Reply) (after : Machine) → Refuses m reply after → Leaves m seen reply after
leaves_refuses m seen NotYet after step = (goes_same m after step, tt)
leaves_refuses m seen Memory after step = (goes_same m after step, tt)
leaves_refuses m seen reply after step = absurd step

leaves_runs : (m : Machine) (s : ℕ) (seen : Seen) (st : Statement) (reply : Reply) (after : Machine) → StatementStep m s seen st reply after → Leaves m seen reply after
leaves_runs m s seen Start reply after step = leaves_starts m s seen (m.sessions s) reply after step
leaves_runs m s seen Commit reply after step = leaves_commits m s seen (m.sessions s) reply after step
leaves_runs m s seen (Select what table w) reply after step = leaves_executes m s (Select what table w) seen (m.sessions s) reply after step
leaves_runs m s seen (Insert table tuples) reply after step = leaves_executes m s (Insert table tuples) seen (m.sessions s) reply after step
leaves_runs m s seen Rollback reply after step = leaves_rolls_back m s seen (m.sessions s) reply after step
leaves_runs m s seen (Update table sets w) reply after step = leaves_executes m s (Update table sets w) seen (m.sessions s) reply after step
leaves_runs m s seen (Delete table w) reply after step = leaves_executes m s (Delete table w) seen (m.sessions s) reply after step
leaves_runs m s seen (CreateDatabank name) reply after step = leaves_refuses m seen reply after step
leaves_runs m s seen (CreateTable name columns key bank) reply after step = leaves_defines m s seen (CreateTable name columns key bank) (m.sessions s) reply after step
leaves_runs m s seen (DropTable name) reply after step = leaves_defines m s seen (DropTable name) (m.sessions s) reply after step
leaves_runs m s seen (CreateShadow name bank) reply after step = leaves_refuses m seen reply after step
leaves_runs m s seen (ShadowOnline name) reply after step = leaves_refuses m seen reply after step
leaves_runs m s seen (ShadowOffline name) reply after step = leaves_refuses m seen reply after step
leaves_runs m s seen (ShadowMaster name) reply after step = leaves_refuses m seen reply after step
leaves_runs m s seen (DropShadow name) reply after step = leaves_refuses m seen reply after step
leaves_runs m s seen (CreateBackup name bank) reply after step = leaves_refuses m seen reply after step
leaves_runs m s seen (BackupReady name) reply after step = leaves_refuses m seen reply after step
leaves_runs m s seen (DropBackup name) reply after step = leaves_refuses m seen reply after step
leaves_runs m s seen (Restore bank name) reply after step = leaves_refuses m seen reply after step

leaves_step : (m : Machine) (s : ℕ) (st : Statement) (seen : Seen) (reply : Reply) (after : Machine) → Step m (OfSession s st) seen reply after → Leaves m seen reply after
leaves_step m s st seen reply after step = leaves_runs m s seen st reply after step

-- a control line leaves the history and what is in doubt
goes_turns : (m after : Machine) → OnlyTurns m after → GoesOn m after
goes_turns m after only =
    subst (λ (x : Machine). GoesOn m x) (sym only.2) (record { history = omega arith; more = []; longer = sym (append-nil (history_or_more m)) })

-- and its reply tells of no commit, and of a fault only where the count rose
so_turn : (doubt : Option Entry) (other : OtherSide) (m : Machine) (seen : Seen) (reply : Reply) (after : Machine)
    → WorksUnless (first_of (doubt_refusal doubt ∷ unclean_refusal other ∷ [])) m seen control.Turn reply after → IsSo seen reply after
so_turn (Some e) other m seen reply after step = subst (λ (r : Reply). IsSo seen r after) (sym step.0) tt
so_turn None Live m seen reply after step = subst (λ (r : Reply). IsSo seen r after) (sym step.0) tt
so_turn None Dirty m seen reply after step = subst (λ (r : Reply). IsSo seen r after) (sym step.0) tt
so_turn None Clean m seen (Turned side first) after step = tt
so_turn None Clean m seen (Fault f) after step = subst (λ (file : ℕ). seen.rose file ≡ true) (sym step.0) step.1
so_turn None Clean m seen reply after step = absurd step

so_controls : (m : Machine) (seen : Seen) (reply : Reply) (after : Machine) → Controls m seen control.Turn reply after → IsSo seen reply after
so_controls m seen Memory after step = tt
so_controls m seen reply after step = so_turn m.in_doubt m.sides.other m seen reply after step

so_told : (m : Machine) (seen : Seen) (reply : Reply) (after : Machine) → WorksUnless None m seen control.State reply after → IsSo seen reply after
so_told m seen reply after step = subst (λ (r : Reply). IsSo seen r after) (sym step.0) tt

so_state : (m : Machine) (seen : Seen) (reply : Reply) (after : Machine) → Controls m seen control.State reply after → IsSo seen reply after
so_state m seen Memory after step = tt
so_state m seen reply after step = so_told m seen reply after step

so_upkeep : (m : Machine) (seen : Seen) (reply : Reply) (after : Machine) → UpkeepStep m reply after → IsSo seen reply after
so_upkeep m seen NotYet after step = tt
so_upkeep m seen reply after step = absurd step

so_line : (m : Machine) (line : ControlLine) (seen : Seen) (reply : Reply) (after : Machine) → ControlStep (is_built line) m seen line reply after → IsSo seen reply after
so_line m control.Turn seen reply after step = so_controls m seen reply after step
so_line m control.State seen reply after step = so_state m seen reply after step
so_line m line seen reply after step = so_upkeep m seen reply after step

leaves_event : (m : Machine) (event : Event) (seen : Seen) (reply : Reply) (after : Machine) → Step m event seen reply after → Leaves m seen reply after
leaves_event m (OfSession s st) seen reply after step = leaves_step m s st seen reply after step
leaves_event m (Upkeep line) seen reply after step = (goes_turns m after (only_turns m line seen reply after step), so_line m line seen reply after step)

-- a line that is refused tells of no commit and of no fault
so_refused : (line : List ℕ) (head : Head) (reply : Reply) (seen : Seen) (after : Machine) → IsRefused line head reply → IsSo seen reply after
so_refused line Unknown (Committed k) seen after refusal = absurd refusal
so_refused line Unknown (Fault f) seen after refusal = absurd refusal
so_refused line Unknown (InDoubt k) seen after refusal = absurd refusal
so_refused line Control (Committed k) seen after refusal = absurd refusal
so_refused line Control (Fault f) seen after refusal = absurd refusal
so_refused line Control (InDoubt k) seen after refusal = absurd refusal
so_refused line (HeadOf s) (Committed k) seen after refusal = absurd refusal
so_refused line (HeadOf s) (Fault f) seen after refusal = absurd refusal
so_refused line (HeadOf s) (InDoubt k) seen after refusal = absurd refusal
so_refused line head reply seen after refusal = tt

pub never_doubt : (line : List ℕ) (head : Head) (k : ℕ) → IsRefused line head (InDoubt k) → ⊥
never_doubt line Unknown k refusal = refusal
never_doubt line Control k refusal = refusal
never_doubt line (HeadOf s) k refusal = refusal

pub answer_leaves : (line : List ℕ) (m : Machine) (answer : Answer) → IsAnswer line m answer → GoesOn m answer.after × IsSo answer.seen answer.reply answer.after
answer_leaves line m answer (inl refusal) = (goes_same m answer.after refusal.1, so_refused line answer.head answer.reply answer.seen answer.after refusal.0)
answer_leaves line m answer (inr step) = leaves_event m step.0 answer.seen answer.reply answer.after step.3

-- a fault that a reply tells of raised the count
pub fault_rises : (seen : Seen) (reply : Reply) (after : Machine) (file : ℕ) → IsSo seen reply after → tells_fault file reply ≡ true → seen.rose file ≡ true
fault_rises seen (Fault f) after file so told = subst (λ (x : ℕ). seen.rose x ≡ true) (sym (eqb-true file f told)) so
fault_rises seen (InDoubt k) after file so told = subst (λ (x : ℕ). seen.rose x ≡ true) (sym (eqb-true file 0 told)) so
fault_rises seen reply after file so told = cc

pub committed_within : (seen : Seen) (reply : Reply) (after : Machine) (k : ℕ) → IsSo seen reply after → reply ≡ Committed k → k ≤ length after.history
committed_within seen reply after k so is = let P : Reply → Type 0 = λ r. IsSo seen r after in subst P is so

-- so along a run: each answer that tells of a fault tells of one by which the count rose
pub run_tells : (file : ℕ) (m : Machine) (lines : List (List ℕ)) (answers : List Answer) → IsRun m lines answers → TellRisen file answers
run_tells file m [] [] run = tt
run_tells file m (line ∷ lines) (answer ∷ answers) run =
    ((λ told. fault_rises answer.seen answer.reply answer.after file (answer_leaves line m answer run.0).1 told), run_tells file answer.after lines answers run.1)
run_tells file m [] (answer ∷ answers) run = absurd run
run_tells file m (line ∷ lines) [] run = absurd run
