-- Each transaction that a run commits is serial.
use Rattle.std.proofs.Common.{◌≡◌, ◌≢◌, ℕ, ◌+◌, ◌-◌, Bool, true, false, ◌==◌, nat_lt, cond, List, [], ◌∷◌, ◌++◌, length, take, refl, sym, ap, subst, ◌∙◌, Option, Some, None, arith, inl, inr}
use Rattle.std.specs.Prelude.{◌⊎◌, slice_get, IsSomeAnd}
use Rattle.std.proofs.Math.Seq.{take-append_seam, take-length}
use Rattle.odb_model.specs.declared.write.Write.{Write}
use Rattle.odb_model.specs.declared.entry.Entry.{Entry}
use Rattle.odb_model.specs.declared.event.Event.{Event}
use Rattle.odb_model.specs.declared.event.Event.TheVariants.{Session as OfSession, Control as Upkeep}
use Rattle.odb_model.specs.declared.reply.Head.{Head}
use Rattle.odb_model.specs.declared.reply.Head.TheVariants.{Session as HeadOf}
use Rattle.odb_model.specs.declared.reply.Reply.{Reply}
use Rattle.odb_model.specs.declared.reply.Reply.TheVariants.{Okay, Committed, Ended, InDoubt, NotYet, NoTransaction, InTransaction, Halted, Aged, Conflict, HistoryFull, Full, Fault, Memory}
use Rattle.odb_model.specs.declared.statement.Statement.{Statement}
use Rattle.odb_model.specs.declared.statement.Statement.TheVariants.{Start, Commit, Select, Insert, Rollback, Update, Delete, CreateDatabank, CreateTable, DropTable, CreateShadow, ShadowOnline, ShadowOffline, ShadowMaster, DropShadow, CreateBackup, BackupReady, DropBackup, Restore}
use Rattle.odb_model.specs.State.{replay, IsHistory}
use Rattle.odb_model.specs.Transaction.{Executed, statements_of, table_keys, open_state, write_set_of, net, alone, reads_of, conflict}
use Rattle.odb_model.specs.Session.{Session, Idle, Working}
use Rattle.odb_machine.specs.Sides.{Sides}
use Rattle.odb_model.specs.Window.{window_start, oldest_number}
use Rattle.odb_model.specs.Definitions.{Planned, Refused, Plans, planned}
use Rattle.odb_machine.specs.Book.{Book, Seen, Verdict, by_conflict, unless_aged, by_doubt, verdict, next_entry, Seals, Decides, DefinesBy, Defines, ends_transaction}
use Rattle.odb_machine.specs.Book as book
use Rattle.odb_machine.specs.Machine.{Machine, first_machine, with_session, book_of, with_book, behind, writes_made, executed_now, Starts, Executes, Commits, RollsBack, DefinesIn, Refuses, StatementStep, Step}
use Rattle.odb_model.specs.Serial.{IsSerial, HasOpenReplies, SessionAnsweredFromSnapshots}
use Rattle.odb_machine.specs.Answered.{AnsweredFromSnapshots}
use Rattle.odb_model.specs.Script.{IsRefused, head_of}
use Rattle.odb_machine.specs.Play.{Answer, IsAnswer, IsRun, IsSerialAt, CommitsSerially, AllSerial}
pub use Rattle.odb_model.proofs.Meant.{is_meant}
use Rattle.odb_model.proofs.Longer.{not_meant, IsNumberedFrom-snoc, slice_get-snoc, HasOpenReplies-snoc, session_more}
use Rattle.odb_machine.proofs.Upkeep.{OnlyTurns, only_turns}
use Rattle.odb_model.proofs.Own.{no_conflict, runs_lawfully, DoesAlone, does_alone}

answered_with : (m : Machine) (s : ℕ) (o : Session) → SessionAnsweredFromSnapshots m.history o m.format → AnsweredFromSnapshots m → AnsweredFromSnapshots (with_session m s o)
answered_with m s o f answered = record {
  history = answered.history;
  sessions = λ q. elim (q == s) as (λ b. SessionAnsweredFromSnapshots m.history (cond b o (m.sessions q)) m.format) [ true ↦ f | false ↦ answered.sessions q ];
}

-- the history of a book that a commit step leaves: as before, or one entry longer
pub data Grows (b after : Book) : Type 0 where
  stays : after.history ≡ b.history → Grows b after
  grows : (s : ℕ) (writes : List Write) → after.history ≡ b.history ++ next_entry b s writes ∷ [] → Grows b after

as_before : (b after : Book) → after ≡ b → Grows b after
as_before b after same = stays (ap (λ (x : Book). x.history) same)

seals_grow : (b : Book) (seen : Seen) (s : ℕ) (writes : List Write) (reply : Reply) (after : Book) → Seals b seen s writes reply after → Grows b after
seals_grow b seen s writes HistoryFull after seals = as_before b after seals.1
seals_grow b seen s writes (Full need room) after seals = as_before b after seals.4
seals_grow b seen s writes (Fault f) after seals = as_before b after seals.4
seals_grow b seen s writes (InDoubt k) after seals = stays (ap (λ (x : Book). x.history) seals.4)
seals_grow b seen s writes (Committed k) after seals = grows s writes (ap (λ (x : Book). x.history) seals.2)
seals_grow b seen s writes reply after seals = absurd seals

pub decides_grow : (b : Book) (seen : Seen) (s : ℕ) (v : Verdict) (reply : Reply) (after : Book) → Decides b seen s v reply after → Grows b after
decides_grow b seen s (book.Halted k) (Halted j) after decides = as_before b after decides.1
decides_grow b seen s (book.Aged o k) (Aged p j) after decides = as_before b after decides.2
decides_grow b seen s (book.Conflict k) (Conflict j) after decides = as_before b after decides.1
decides_grow b seen s (book.Ended k) (Ended p) after decides = as_before b after decides.1
decides_grow b seen s (book.Writes writes) reply after decides = seals_grow b seen s writes reply after decides
decides_grow b seen s (book.Halted k) reply after decides = absurd decides
decides_grow b seen s (book.Aged o k) reply after decides = absurd decides
decides_grow b seen s (book.Conflict k) reply after decides = absurd decides
decides_grow b seen s (book.Ended k) reply after decides = absurd decides

defines_grow_by : (d : Option Entry) (b : Book) (seen : Seen) (s : ℕ) (p : Planned) (reply : Reply) (after : Book) → DefinesBy d b seen s p reply after → Grows b after
defines_grow_by (Some e) b seen s p reply after defines = as_before b after defines.1
defines_grow_by None b seen s (Refused why) reply after defines = as_before b after defines.1
defines_grow_by None b seen s (Plans writes) reply after defines = seals_grow b seen s writes reply after defines

pub defines_grow : (b : Book) (seen : Seen) (s : ℕ) (st : Statement) (reply : Reply) (after : Book) → Defines b seen s st reply after → Grows b after
defines_grow b seen s st reply after defines = defines_grow_by b.in_doubt b seen s (planned st (replay b.history)) reply after defines

answered_by : (m : Machine) (b : Book) (h : List Entry) → b.history ≡ h → IsHistory h → ((q : ℕ) → SessionAnsweredFromSnapshots h (m.sessions q) m.format) → AnsweredFromSnapshots (with_book m b)
answered_by m b h same numbered sessions = record {
  history = subst IsHistory (sym same) numbered;
  sessions = λ q. subst (λ (x : List Entry). SessionAnsweredFromSnapshots x (m.sessions q) m.format) (sym same) (sessions q);
}

answered_book : (m : Machine) (b : Book) → Grows (book_of m) b → AnsweredFromSnapshots m → AnsweredFromSnapshots (with_book m b)
answered_book m b (stays same) answered = answered_by m b m.history same answered.history answered.sessions
answered_book m b (grows s writes same) answered =
    let e : Entry = next_entry (book_of m) s writes in
    answered_by m b (m.history ++ e ∷ []) same (IsNumberedFrom-snoc 1 m.history e answered.history (omega arith))
    (λ q. session_more m.history (e ∷ []) (m.sessions q) m.format (answered.sessions q))

-- behind COMMIT
answered_behind : (m : Machine) (s : ℕ) (reply : Reply) (b : Book) → Grows (book_of m) b → AnsweredFromSnapshots m → AnsweredFromSnapshots (behind m s reply b)
answered_behind m s reply b more answered =
    let on : AnsweredFromSnapshots (with_book m b) = answered_book m b more answered in
    elim (ends_transaction reply) as (λ c. AnsweredFromSnapshots (cond c (with_session (with_book m b) s Idle) (with_book m b))) [ true ↦ answered_with (with_book m b) s Idle tt on | false ↦ on ]

pub answered_first : (format : ℕ) (sides : Sides) (h : List Entry) → IsHistory h → AnsweredFromSnapshots (first_machine format sides h)
answered_first format sides h numbered = record { history = numbered; sessions = λ q. tt }

moved : (m n : Machine) → n ≡ m → AnsweredFromSnapshots m → AnsweredFromSnapshots n
moved m n e f = let P : Machine → Type 0 = λ x. AnsweredFromSnapshots x in subst P (sym e) f

answered_starts : (m : Machine) (s : ℕ) (o : Session) (reply : Reply) (after : Machine) → AnsweredFromSnapshots m → Starts m s o reply after → AnsweredFromSnapshots after
answered_starts m s Idle Okay after f step = moved _ after step (answered_with m s (Working []) tt f)
answered_starts m s Idle Memory after f step = moved m after step f
answered_starts m s (Working t) Memory after f step = moved m after step f
answered_starts m s (Working t) InTransaction after f step = moved m after step f
answered_starts m s Idle reply after f step = absurd step
answered_starts m s (Working t) reply after f step = absurd step

-- a session's transaction has got its replies
open_session : (m : Machine) (s : ℕ) (t : List Executed) → m.sessions s ≡ Working t → AnsweredFromSnapshots m → HasOpenReplies m.history [] t m.format
open_session m s t e f = subst (λ (o : Session). SessionAnsweredFromSnapshots m.history o m.format) e (f.sessions s)

answered_executed : (m : Machine) (s : ℕ) (st : Statement) (t : List Executed) → m.sessions s ≡ Working t → AnsweredFromSnapshots m → AnsweredFromSnapshots (with_session m s (Working (t ++ executed_now m st t ∷ [])))
answered_executed m s st t e f =
    answered_with m s (Working (t ++ executed_now m st t ∷ [])) (HasOpenReplies-snoc m.history [] t (executed_now m st t) m.format (open_session m s t e f) (omega arith) refl) f

answered_executes : (m : Machine) (s : ℕ) (st : Statement) (o : Session) (reply : Reply) (after : Machine) → m.sessions s ≡ o → AnsweredFromSnapshots m → Executes m s st o reply after → AnsweredFromSnapshots after
answered_executes m s st o Memory after e f step = moved m after step f
answered_executes m s st Idle NoTransaction after e f step = moved m after step f
answered_executes m s st Idle reply after e f step = absurd step
answered_executes m s st (Working t) reply after e f step = moved _ after step.1 (answered_executed m s st t e f)

answered_commits : (m : Machine) (s : ℕ) (seen : Seen) (o : Session) (reply : Reply) (after : Machine) → AnsweredFromSnapshots m → Commits m s seen o reply after → AnsweredFromSnapshots after
answered_commits m s seen Idle NoTransaction after f step = moved m after step f
answered_commits m s seen Idle Memory after f step = moved m after step f
answered_commits m s seen (Working t) Memory after f step = moved m after step f
answered_commits m s seen Idle reply after f step = absurd step
answered_commits m s seen (Working t) reply after f step =
    moved _ after step.2 (answered_behind m s reply step.0 (decides_grow (book_of m) seen s (verdict (book_of m) t m.format) reply step.0 step.1) f)

answered_rolls_back : (m : Machine) (s : ℕ) (o : Session) (reply : Reply) (after : Machine) → AnsweredFromSnapshots m → RollsBack m s o reply after → AnsweredFromSnapshots after
answered_rolls_back m s Idle NoTransaction after f step = moved m after step f
answered_rolls_back m s (Working t) Okay after f step = moved _ after step (answered_with m s Idle tt f)
answered_rolls_back m s Idle reply after f step = absurd step
answered_rolls_back m s (Working t) reply after f step = absurd step

answered_defines : (m : Machine) (s : ℕ) (seen : Seen) (st : Statement) (o : Session) (reply : Reply) (after : Machine) → AnsweredFromSnapshots m → DefinesIn m s seen st o reply after → AnsweredFromSnapshots after
answered_defines m s seen st Idle Memory after f step = moved m after step f
answered_defines m s seen st (Working t) Memory after f step = moved m after step f
answered_defines m s seen st (Working t) InTransaction after f step = moved m after step f
answered_defines m s seen st (Working t) reply after f step = absurd step
answered_defines m s seen st Idle reply after f step = moved _ after step.2 (answered_book m step.0 (defines_grow (book_of m) seen s st reply step.0 step.1) f)

answered_refuses : (m : Machine) (reply : Reply) (after : Machine) → AnsweredFromSnapshots m → Refuses m reply after → AnsweredFromSnapshots after
answered_refuses m NotYet after f step = moved m after step f
answered_refuses m Memory after f step = moved m after step f
answered_refuses m reply after f step = absurd step

answered_runs : (m : Machine) (s : ℕ) (seen : Seen) (st : Statement) (reply : Reply) (after : Machine) → AnsweredFromSnapshots m → StatementStep m s seen st reply after → AnsweredFromSnapshots after
answered_runs m s seen Start reply after f step = answered_starts m s (m.sessions s) reply after f step
answered_runs m s seen Commit reply after f step = answered_commits m s seen (m.sessions s) reply after f step
answered_runs m s seen (Select what table w) reply after f step = answered_executes m s (Select what table w) (m.sessions s) reply after refl f step
answered_runs m s seen (Insert table tuples) reply after f step = answered_executes m s (Insert table tuples) (m.sessions s) reply after refl f step
answered_runs m s seen Rollback reply after f step = answered_rolls_back m s (m.sessions s) reply after f step
answered_runs m s seen (Update table sets w) reply after f step = answered_executes m s (Update table sets w) (m.sessions s) reply after refl f step
answered_runs m s seen (Delete table w) reply after f step = answered_executes m s (Delete table w) (m.sessions s) reply after refl f step
answered_runs m s seen (CreateDatabank name) reply after f step = answered_refuses m reply after f step
answered_runs m s seen (CreateTable name columns key bank) reply after f step = answered_defines m s seen (CreateTable name columns key bank) (m.sessions s) reply after f step
answered_runs m s seen (DropTable name) reply after f step = answered_defines m s seen (DropTable name) (m.sessions s) reply after f step
answered_runs m s seen (CreateShadow name bank) reply after f step = answered_refuses m reply after f step
answered_runs m s seen (ShadowOnline name) reply after f step = answered_refuses m reply after f step
answered_runs m s seen (ShadowOffline name) reply after f step = answered_refuses m reply after f step
answered_runs m s seen (ShadowMaster name) reply after f step = answered_refuses m reply after f step
answered_runs m s seen (DropShadow name) reply after f step = answered_refuses m reply after f step
answered_runs m s seen (CreateBackup name bank) reply after f step = answered_refuses m reply after f step
answered_runs m s seen (BackupReady name) reply after f step = answered_refuses m reply after f step
answered_runs m s seen (DropBackup name) reply after f step = answered_refuses m reply after f step
answered_runs m s seen (Restore bank name) reply after f step = answered_refuses m reply after f step

pub answered_step : (m : Machine) (s : ℕ) (st : Statement) (seen : Seen) (reply : Reply) (after : Machine) → AnsweredFromSnapshots m → Step m (OfSession s st) seen reply after → AnsweredFromSnapshots after
answered_step m s st seen reply after f step = answered_runs m s seen st reply after f step

-- what a transaction that commits does alone at the history's end
alone_now : (m : Machine) (s : ℕ) (t : List Executed) → m.sessions s ≡ Working t → AnsweredFromSnapshots m → conflict m.history t m.format ≡ None → DoesAlone m.history [] t m.format
alone_now m s t e f none =
    does_alone m.history [] t m.format f.history (runs_lawfully m.history [] t m.format) (open_session m s t e f) (no_conflict (reads_of m.history t m.format) m.history none)

-- what it does alone after the first p entries is what it does alone at the end of them
serial_at : (g h : List Entry) (p : ℕ) (t : List Executed) (format : ℕ) → take p g ≡ h → DoesAlone h [] t format
    → (net (replay h) (write_set_of h t format) ≢ [] → IsSomeAnd (slice_get g p) (λ e. e.writes ≡ net (replay h) (write_set_of h t format))) → IsSerial t p g format
serial_at g h p t format front does next =
    let same : (alone (statements_of t) (replay (take p g)) format).net ≡ net (replay h) (write_set_of h t format) =
    ap (λ x. (alone (statements_of t) (replay x) format).net) front ∙ ap (net (replay h)) does.writes in
    record {
      replies = ap (λ x. (alone (statements_of t) (replay x) format).replies) front ∙ does.replies;
      entry = λ some. subst (λ (w : List Write). IsSomeAnd (slice_get g p) (λ e. e.writes ≡ w)) (sym same) (next (λ nothing. some (same ∙ nothing)));
    }

-- what its writes leave, committed now
abbrev net_now : Machine → List Executed → List Write
net_now m t = net (replay m.history) (writes_made m t)

serial_ended : (m : Machine) (t : List Executed) (p : ℕ) (g : List Entry) → DoesAlone m.history [] t m.format → net_now m t ≡ [] → p ≡ length m.history → g ≡ m.history → IsSerial t p g m.format
serial_ended m t p g does nothing at same =
    let serial : IsSerial t (length m.history) m.history m.format =
    serial_at m.history m.history (length m.history) t m.format (take-length m.history) does (λ some. absurd (some nothing)) in
    subst (λ (x : List Entry). IsSerial t p x m.format) (sym same) (subst (λ (x : ℕ). IsSerial t x m.history m.format) (sym at) serial)

serial_committed : (m : Machine) (s : ℕ) (t : List Executed) (writes : List Write) (k : ℕ) (g : List Entry) → DoesAlone m.history [] t m.format → net_now m t ≡ writes → k ≡ length m.history + 1
    → g ≡ m.history ++ next_entry (book_of m) s writes ∷ [] → IsSerial t (k - 1) g m.format
serial_committed m s t writes k g does leaves at same =
    let e : Entry = next_entry (book_of m) s writes in
    let before : k - 1 ≡ length m.history = omega arith in
    let serial : IsSerial t (length m.history) (m.history ++ e ∷ []) m.format =
    serial_at (m.history ++ e ∷ []) m.history (length m.history) t m.format (take-append_seam m.history (e ∷ [])) does
    (λ some. rw slice_get-snoc (sym leaves)) in
    subst (λ (x : List Entry). IsSerial t (k - 1) x m.format) (sym same) (subst (λ (x : ℕ). IsSerial t x (m.history ++ e ∷ []) m.format) (sym before) serial)

commits_at : (m : Machine) (s : ℕ) (o : Session) (reply : Reply) (after : Machine) → Type 0
commits_at m s o (Committed k) after = IsSerialAt o (k - 1) after.history m.format
commits_at m s o (Ended p) after = IsSerialAt o p after.history m.format
commits_at m s o reply after = Unit {0}

-- a verdict of AGED is answered so and changes nothing; any other is as if no age were asked
pub unless_aged-or : (b : Book) (seen : Seen) (s : ℕ) (oldest : Option ℕ) (start : ℕ) (v : Verdict) (reply : Reply) (after : Book) → Decides b seen s (unless_aged oldest start v) reply after
    → Decides b seen s v reply after ⊎ ((o : ℕ) × (k : ℕ) × (reply ≡ Aged o k) × (after ≡ b))
unless_aged-or b seen s None start v reply after decides = inl decides
unless_aged-or b seen s (Some o) start v reply after decides =
    elim (nat_lt o start) as (λ (c : Bool). Decides b seen s (cond c (book.Aged o start) v) reply after → Decides b seen s v reply after ⊎ ((o : ℕ) × (k : ℕ) × (reply ≡ Aged o k) × (after ≡ b))) [
      | true ↦ λ aged. inr (aged_only reply aged)
      | false ↦ λ other. inl other
    ] decides
  where
    aged_only : (r : Reply) → Decides b seen s (book.Aged o start) r after → (p : ℕ) × (k : ℕ) × (r ≡ Aged p k) × (after ≡ b)
    aged_only (Aged p k) d = (p, k, refl, d.2)
    aged_only r d = absurd d

module _ (m : Machine) (s : ℕ) (seen : Seen) (t : List Executed) (e : m.sessions s ≡ Working t) (f : AnsweredFromSnapshots m) where
  committed : (later : Option ℕ) (ws : List Write) (k : ℕ) (b : Book) → conflict m.history t m.format ≡ later → net_now m t ≡ ws
      → Decides (book_of m) seen s (by_conflict later (length m.history) ws) (Committed k) b → IsSerial t (k - 1) b.history m.format
  committed (Some j) ws k b found leaves decides = absurd decides
  committed None [] k b found leaves decides = absurd decides
  committed None (w ∷ ws) k b found leaves decides =
      serial_committed m s t (w ∷ ws) k b.history (alone_now m s t e f found) leaves decides.1 (ap (λ (x : Book). x.history) decides.2)

  ended : (later : Option ℕ) (ws : List Write) (p : ℕ) (b : Book) → conflict m.history t m.format ≡ later → net_now m t ≡ ws
      → Decides (book_of m) seen s (by_conflict later (length m.history) ws) (Ended p) b → IsSerial t p b.history m.format
  ended (Some j) ws p b found leaves decides = absurd decides
  ended None [] p b found leaves decides = serial_ended m t p b.history (alone_now m s t e f found) leaves decides.0 (ap (λ (x : Book). x.history) decides.1)
  ended None (w ∷ ws) p b found leaves decides = absurd decides

  -- the reads, and the rest of the verdict
  abbrev rest : Verdict
  rest = by_conflict (conflict m.history t m.format) (length m.history) (net_now m t)

  committed_by : (d : Option Entry) (oldest : Option ℕ) (start k : ℕ) (b : Book) → Decides (book_of m) seen s (by_doubt d (unless_aged oldest start rest)) (Committed k) b → IsSerial t (k - 1) b.history m.format
  committed_by (Some x) oldest start k b decides = absurd decides
  committed_by None oldest start k b decides = elim (unless_aged-or (book_of m) seen s oldest start rest (Committed k) b decides) as (λ w. IsSerial t (k - 1) b.history m.format) [
    | inl judged ↦ committed (conflict m.history t m.format) (net_now m t) k b refl refl judged
    | inr aged ↦ let no : Committed k ≡ Aged aged.0 aged.1 = aged.2 in cc
  ]

  ended_by : (d : Option Entry) (oldest : Option ℕ) (start p : ℕ) (b : Book) → Decides (book_of m) seen s (by_doubt d (unless_aged oldest start rest)) (Ended p) b → IsSerial t p b.history m.format
  ended_by (Some x) oldest start p b decides = absurd decides
  ended_by None oldest start p b decides = elim (unless_aged-or (book_of m) seen s oldest start rest (Ended p) b decides) as (λ w. IsSerial t p b.history m.format) [
    | inl judged ↦ ended (conflict m.history t m.format) (net_now m t) p b refl refl judged
    | inr aged ↦ let no : Ended p ≡ Aged aged.0 aged.1 = aged.2 in cc
  ]

serial_commits : (m : Machine) (s : ℕ) (seen : Seen) (o : Session) (reply : Reply) (after : Machine) → m.sessions s ≡ o → AnsweredFromSnapshots m → Commits m s seen o reply after → commits_at m s o reply after
unfolding commits_at
serial_commits m s seen Idle (Committed k) after e f step = absurd step
serial_commits m s seen Idle (Ended p) after e f step = absurd step
serial_commits m s seen Idle reply after e f step = tt
serial_commits m s seen (Working t) (Committed k) after e f step =
    subst (λ (x : Machine). IsSerial t (k - 1) x.history m.format) (sym step.2)
    (committed_by m s seen t e f m.in_doubt (oldest_number (reads_of m.history t m.format)) (window_start m.history) k step.0 step.1)
serial_commits m s seen (Working t) (Ended p) after e f step =
    subst (λ (x : Machine). IsSerial t p x.history m.format) (sym step.2)
    (ended_by m s seen t e f m.in_doubt (oldest_number (reads_of m.history t m.format)) (window_start m.history) p step.0 step.1)
serial_commits m s seen (Working t) reply after e f step = tt

serial_starts : (m : Machine) (s : ℕ) (o : Session) (reply : Reply) (after : Machine) → Starts m s o reply after → commits_at m s o reply after
unfolding commits_at
serial_starts m s (Working t) (Committed k) after step = absurd step
serial_starts m s (Working t) (Ended p) after step = absurd step
serial_starts m s Idle (Committed k) after step = absurd step
serial_starts m s Idle (Ended p) after step = absurd step
serial_starts m s o reply after step = tt

not_executed : (m : Machine) (st : Statement) (t : List Executed) (r : Reply) → is_meant r ≡ false → r ≡ (executed_now m st t).reply → ⊥
not_executed m st t r other same = not_meant r st (open_state (length m.history) (writes_made m t) m.history) (table_keys (writes_made m t)) m.format other same

serial_executes : (m : Machine) (s : ℕ) (st : Statement) (o : Session) (reply : Reply) (after : Machine) → Executes m s st o reply after → commits_at m s o reply after
unfolding commits_at is_meant
serial_executes m s st Idle (Committed k) after step = absurd step
serial_executes m s st Idle (Ended p) after step = absurd step
serial_executes m s st (Working t) (Committed k) after step = absurd (not_executed m st t (Committed k) refl step.0)
serial_executes m s st (Working t) (Ended p) after step = absurd (not_executed m st t (Ended p) refl step.0)
serial_executes m s st o reply after step = tt

serial_rolls_back : (m : Machine) (s : ℕ) (o : Session) (reply : Reply) (after : Machine) → RollsBack m s o reply after → commits_at m s o reply after
unfolding commits_at
serial_rolls_back m s Idle (Committed k) after step = absurd step
serial_rolls_back m s Idle (Ended p) after step = absurd step
serial_rolls_back m s (Working t) (Committed k) after step = absurd step
serial_rolls_back m s (Working t) (Ended p) after step = absurd step
serial_rolls_back m s o reply after step = tt

-- a definition is no transaction's commit
serial_defines : (m : Machine) (s : ℕ) (seen : Seen) (st : Statement) (o : Session) (reply : Reply) (after : Machine) → DefinesIn m s seen st o reply after → commits_at m s o reply after
unfolding commits_at
serial_defines m s seen st Idle (Committed k) after step = tt
serial_defines m s seen st Idle (Ended p) after step = tt
serial_defines m s seen st (Working t) (Committed k) after step = absurd step
serial_defines m s seen st (Working t) (Ended p) after step = absurd step
serial_defines m s seen st o reply after step = tt

serial_refuses : (m : Machine) (s : ℕ) (o : Session) (reply : Reply) (after : Machine) → Refuses m reply after → commits_at m s o reply after
unfolding commits_at
serial_refuses m s o (Committed k) after step = absurd step
serial_refuses m s o (Ended p) after step = absurd step
serial_refuses m s o reply after step = tt

serial_runs : (m : Machine) (s : ℕ) (seen : Seen) (st : Statement) (reply : Reply) (after : Machine) → AnsweredFromSnapshots m → StatementStep m s seen st reply after → commits_at m s (m.sessions s) reply after
serial_runs m s seen Start reply after f step = serial_starts m s (m.sessions s) reply after step
serial_runs m s seen Commit reply after f step = serial_commits m s seen (m.sessions s) reply after refl f step
serial_runs m s seen (Select what table w) reply after f step = serial_executes m s (Select what table w) (m.sessions s) reply after step
serial_runs m s seen (Insert table tuples) reply after f step = serial_executes m s (Insert table tuples) (m.sessions s) reply after step
serial_runs m s seen Rollback reply after f step = serial_rolls_back m s (m.sessions s) reply after step
serial_runs m s seen (Update table sets w) reply after f step = serial_executes m s (Update table sets w) (m.sessions s) reply after step
serial_runs m s seen (Delete table w) reply after f step = serial_executes m s (Delete table w) (m.sessions s) reply after step
serial_runs m s seen (CreateDatabank name) reply after f step = serial_refuses m s (m.sessions s) reply after step
serial_runs m s seen (CreateTable name columns key bank) reply after f step = serial_defines m s seen (CreateTable name columns key bank) (m.sessions s) reply after step
serial_runs m s seen (DropTable name) reply after f step = serial_defines m s seen (DropTable name) (m.sessions s) reply after step
serial_runs m s seen (CreateShadow name bank) reply after f step = serial_refuses m s (m.sessions s) reply after step
serial_runs m s seen (ShadowOnline name) reply after f step = serial_refuses m s (m.sessions s) reply after step
serial_runs m s seen (ShadowOffline name) reply after f step = serial_refuses m s (m.sessions s) reply after step
serial_runs m s seen (ShadowMaster name) reply after f step = serial_refuses m s (m.sessions s) reply after step
serial_runs m s seen (DropShadow name) reply after f step = serial_refuses m s (m.sessions s) reply after step
serial_runs m s seen (CreateBackup name bank) reply after f step = serial_refuses m s (m.sessions s) reply after step
serial_runs m s seen (BackupReady name) reply after f step = serial_refuses m s (m.sessions s) reply after step
serial_runs m s seen (DropBackup name) reply after f step = serial_refuses m s (m.sessions s) reply after step
serial_runs m s seen (Restore bank name) reply after f step = serial_refuses m s (m.sessions s) reply after step

as_told : (m : Machine) (s : ℕ) (reply : Reply) (after : Machine) → commits_at m s (m.sessions s) reply after → CommitsSerially m (HeadOf s) reply after
unfolding commits_at
as_told m s (Committed k) after c = c
as_told m s (Ended p) after c = c
as_told m s reply after c = tt

pub serial_step : (m : Machine) (s : ℕ) (st : Statement) (seen : Seen) (reply : Reply) (after : Machine) → AnsweredFromSnapshots m → Step m (OfSession s st) seen reply after → CommitsSerially m (HeadOf s) reply after
serial_step m s st seen reply after f step = as_told m s reply after (serial_runs m s seen st reply after f step)

serial_refused : (line : List ℕ) (m : Machine) (head : Head) (reply : Reply) (after : Machine) → IsRefused line head reply → CommitsSerially m head reply after
serial_refused line m (HeadOf s) (Committed k) after refusal = absurd refusal
serial_refused line m (HeadOf s) (Ended p) after refusal = absurd refusal
serial_refused line m head reply after refusal = tt

pub answered_turns : (m after : Machine) → AnsweredFromSnapshots m → OnlyTurns m after → AnsweredFromSnapshots after
answered_turns m after f only = moved _ after only.2 (record { history = f.history; sessions = f.sessions })

answered_event : (m : Machine) (event : Event) (seen : Seen) (reply : Reply) (after : Machine) → AnsweredFromSnapshots m → Step m event seen reply after → AnsweredFromSnapshots after
answered_event m (OfSession s st) seen reply after f step = answered_step m s st seen reply after f step
answered_event m (Upkeep control) seen reply after f step = answered_turns m after f (only_turns m control seen reply after step)

serial_event : (m : Machine) (event : Event) (seen : Seen) (reply : Reply) (after : Machine) → AnsweredFromSnapshots m → Step m event seen reply after → CommitsSerially m (head_of event) reply after
serial_event m (OfSession s st) seen reply after f step = serial_step m s st seen reply after f step
serial_event m (Upkeep control) seen reply after f step = tt

pub answered_answer : (line : List ℕ) (m : Machine) (answer : Answer) → AnsweredFromSnapshots m → IsAnswer line m answer → AnsweredFromSnapshots answer.after
answered_answer line m answer f (inl refusal) = moved m answer.after refusal.1 f
answered_answer line m answer f (inr step) = answered_event m step.0 answer.seen answer.reply answer.after f step.3

pub serial_answer : (line : List ℕ) (m : Machine) (answer : Answer) → AnsweredFromSnapshots m → IsAnswer line m answer → CommitsSerially m answer.head answer.reply answer.after
serial_answer line m answer f (inl refusal) = serial_refused line m answer.head answer.reply answer.after refusal.0
serial_answer line m answer f (inr step) =
    subst (λ (head : Head). CommitsSerially m head answer.reply answer.after) (sym step.2) (serial_event m step.0 answer.seen answer.reply answer.after f step.3)

pub all_serial : (m : Machine) (lines : List (List ℕ)) (answers : List Answer) → AnsweredFromSnapshots m → IsRun m lines answers → AllSerial m answers
all_serial m [] [] f run = tt
all_serial m (line ∷ lines) (answer ∷ answers) f run = (serial_answer line m answer f run.0, all_serial answer.after lines answers (answered_answer line m answer f run.0) run.1)
all_serial m [] (answer ∷ answers) f run = absurd run
all_serial m (line ∷ lines) [] f run = absurd run
