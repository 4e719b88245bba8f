-- Every step keeps the history sound, and it with the entry in doubt.
use Rattle.std.proofs.Common.{◌≡◌, ℕ, ◌<◌, true, false, cond, nat_lt, List, [], ◌∷◌, ◌++◌, length, refl, sym, ap, subst, ◌∙◌, Option, Some, None, ◌==◌, arith}
use Rattle.std.proofs.lemmas.List.Elements.{All-nil, All-map, All-push}
use Rattle.odb_model.specs.declared.write.Write.{Write}
use Rattle.odb_model.specs.declared.entry.Entry.{Entry}
use Rattle.odb_model.specs.declared.event.Event.{Event}
use Rattle.odb_model.specs.declared.event.Event.TheVariants.{Session as OfSession, Control as Upkeep}
use Rattle.odb_model.specs.declared.reply.Reply.{Reply}
use Rattle.odb_model.specs.declared.reply.Reply.TheVariants.{Okay, Committed, Ended, InDoubt, NotYet, NoTransaction, InTransaction, Halted, Aged, Conflict, HistoryFull, Full, Fault, Memory}
use Rattle.odb_model.specs.declared.statement.Statement.{Statement}
use Rattle.odb_model.specs.declared.statement.Statement.TheVariants.{Start, Commit, Select, Insert, Rollback, Update, Delete, CreateDatabank, CreateTable, DropTable, CreateShadow, ShadowOnline, ShadowOffline, ShadowMaster, DropShadow, CreateBackup, BackupReady, DropBackup, Restore}
use Rattle.odb_model.specs.State.{replay}
use Rattle.odb_model.specs.Definitions.{Planned, Refused, Plans, planned, IsSpelled}
use Rattle.odb_model.specs.Transaction.{Executed, statements_of, alone_writes, write_set_of, net, reads_of, conflict}
use Rattle.odb_model.specs.Session.{Session, Idle, Working}
use Rattle.odb_model.specs.Window.{window_start, oldest_number}
use Rattle.odb_model.specs.Script.{IsSession}
use Rattle.odb_model.specs.Serial.{HasOpenReplies, SessionAnsweredFromSnapshots}
use Rattle.odb_machine.specs.Answered.{AnsweredFromSnapshots}
use Rattle.odb_machine.specs.Book.{Book, Seen, Verdict, by_conflict, unless_aged, by_doubt, verdict, next_entry, most_entries, with_entry, with_doubted, Seals, Decides, DefinesBy, Defines, ends_transaction}
use Rattle.odb_machine.specs.Book as book
use Rattle.odb_machine.specs.Machine.{Machine, with_session, book_of, with_book, with_doubt, behind, executed_now, Starts, Executes, Commits, RollsBack, DefinesIn, Refuses, StatementStep, Step}
use Rattle.odb_model.proofs.Own.{no_conflict, runs_lawfully, DoesAlone, does_alone}
use Rattle.odb_machine.proofs.Upkeep.{OnlyTurns, only_turns}
use Rattle.odb_machine.proofs.Runs.{answered_step}
use Rattle.odb_sound.specs.Sound.{IsSoundHistory, HasSpelled, IsSound, IsSpelledEvent}
use Rattle.odb_sound.proofs.Appended.{pushed, transaction_fits}
use Rattle.odb_sound.proofs.Defined.{planned_fits}

-- some text spells the statement
abbrev IsSpelledOne : Executed → Type 0
IsSpelledOne a = IsSpelled a.statement

-- the history of a book is sound, and it with the entry in doubt
pub record IsSoundBook (b : Book) : Type 0 where
  pub history : IsSoundHistory b.history
  pub doubted : IsSoundHistory (with_doubt b.history b.in_doubt)

same_book : (b after : Book) → after ≡ b → IsSoundBook b → IsSoundBook after
same_book b after same sound = subst IsSoundBook (sym same) sound

-- the entry with these writes may be the next one
abbrev MayFollow : Book → ℕ → List Write → Type 0
MayFollow b s writes = length b.history < most_entries → IsSoundHistory (b.history ++ next_entry b s writes ∷ [])

seals_sound : (b : Book) (seen : Seen) (s : ℕ) (writes : List Write) (reply : Reply) (after : Book) → b.in_doubt ≡ None → IsSoundBook b → MayFollow b s writes → Seals b seen s writes reply after → IsSoundBook after
seals_sound b seen s writes HistoryFull after none sound next seals = same_book b after seals.1 sound
seals_sound b seen s writes (Full need room) after none sound next seals = same_book b after seals.4 sound
seals_sound b seen s writes (Fault f) after none sound next seals = same_book b after seals.4 sound
seals_sound b seen s writes (InDoubt k) after none sound next seals =
    subst IsSoundBook (sym seals.4) (record { history = sound.history; doubted = next seals.0.few })
seals_sound b seen s writes (Committed k) after none sound next seals =
    let h : List Entry = b.history ++ next_entry b s writes ∷ [] in
    let longer : IsSoundHistory h = next seals.0.few in
    subst IsSoundBook (sym seals.2) (record { history = longer; doubted = subst (λ (d : Option Entry). IsSoundHistory (with_doubt h d)) (sym none) longer })
seals_sound b seen s writes reply after none sound next seals = absurd seals

-- what is known where a verdict is that there are writes
abbrev OnWrites : Book → ℕ → Verdict → Type 0
OnWrites b s v = (ws : List Write) → v ≡ book.Writes ws → (b.in_doubt ≡ None) × MayFollow b s ws

decides_sound : (b : Book) (seen : Seen) (s : ℕ) (v : Verdict) (reply : Reply) (after : Book) → IsSoundBook b → OnWrites b s v → Decides b seen s v reply after → IsSoundBook after
decides_sound b seen s (book.Halted k) (Halted j) after sound on decides = same_book b after decides.1 sound
decides_sound b seen s (book.Aged o k) (Aged p j) after sound on decides = same_book b after decides.2 sound
decides_sound b seen s (book.Conflict k) (Conflict j) after sound on decides = same_book b after decides.1 sound
decides_sound b seen s (book.Ended k) (Ended p) after sound on decides = same_book b after decides.1 sound
decides_sound b seen s (book.Writes writes) reply after sound on decides =
    let known = on writes refl in seals_sound b seen s writes reply after known.0 sound known.1 decides
decides_sound b seen s (book.Halted k) reply after sound on decides = absurd decides
decides_sound b seen s (book.Aged o k) reply after sound on decides = absurd decides
decides_sound b seen s (book.Conflict k) reply after sound on decides = absurd decides
decides_sound b seen s (book.Ended k) reply after sound on decides = absurd decides

-- where a verdict is that there are writes, nothing else came
doubt_writes : (d : Option Entry) (v : Verdict) (ws : List Write) → by_doubt d v ≡ book.Writes ws → (d ≡ None) × (v ≡ book.Writes ws)
doubt_writes None v ws e = (refl, e)
doubt_writes (Some x) v ws e = cc

aged_writes : (o : Option ℕ) (start : ℕ) (v : Verdict) (ws : List Write) → unless_aged o start v ≡ book.Writes ws → v ≡ book.Writes ws
aged_writes None start v ws e = e
aged_writes (Some oldest) start v ws e =
    elim (nat_lt oldest start) as (λ b. cond b (book.Aged oldest start) v ≡ book.Writes ws → v ≡ book.Writes ws) [
      | true ↦ λ f. cc
      | false ↦ λ f. f
    ] e

some_writes : (w : Write) (ws : List Write) → 0 < length (w ∷ ws)
some_writes w ws = omega arith

conflict_writes : (o : Option ℕ) (n : ℕ) (xs ws : List Write) → by_conflict o n xs ≡ book.Writes ws → (o ≡ None) × (xs ≡ ws) × (0 < length ws)
conflict_writes (Some j) n xs ws e = cc
conflict_writes None n [] ws e = cc
conflict_writes None n (x ∷ xs) ws e =
    let same : x ∷ xs ≡ ws = cc in
    (refl, same, subst (λ (ys : List Write). 0 < length ys) same (some_writes x xs))

module _ (m : Machine) (s : ℕ) (format : m.format ≡ 1) (session : IsSession s) (answered : AnsweredFromSnapshots m) (sound : IsSoundHistory m.history) where
  -- the writes of a transaction that commits
  commit_follows : (t : List Executed) → HasSpelled (Working t) → HasOpenReplies m.history [] t m.format → OnWrites (book_of m) s (verdict (book_of m) t m.format)
  commit_follows t spelled replies ws is =
      let doubt = doubt_writes m.in_doubt _ ws is in
      let aged = aged_writes (oldest_number (reads_of m.history t m.format)) (window_start m.history) _ ws doubt.1 in
      let free = conflict_writes (conflict m.history t m.format) (length m.history) (net (replay m.history) (write_set_of m.history t m.format)) ws aged in
      let does : DoesAlone m.history [] t m.format =
      does_alone m.history [] t m.format answered.history (runs_lawfully m.history [] t m.format) replies (no_conflict (reads_of m.history t m.format) m.history free.0) in
      let alone : ws ≡ net (replay m.history) (alone_writes (replay m.history) [] (statements_of t) m.format) =
      sym free.1 ∙ ap (net (replay m.history)) (sym does.writes) in
      let one : ws ≡ net (replay m.history) (alone_writes (replay m.history) [] (statements_of t) 1) =
      subst (λ (f : ℕ). ws ≡ net (replay m.history) (alone_writes (replay m.history) [] (statements_of t) f)) format alone in (
        doubt.0,
        λ less. pushed m.history (next_entry (book_of m) s ws) sound less
            (transaction_fits m.history sound (next_entry (book_of m) s ws) session free.2 (statements_of t) (All-map IsSpelled (λ (a : Executed). a.statement) t spelled) one),
      )

  -- a definition
  definition_follows : (st : Statement) → IsSpelled st → (ws : List Write) → planned st (replay m.history) ≡ Plans ws → MayFollow (book_of m) s ws
  definition_follows st spelled ws is less =
      pushed m.history (next_entry (book_of m) s ws) sound less (planned_fits m.history sound (next_entry (book_of m) s ws) session st spelled is)

defines_sound : (b : Book) (seen : Seen) (s : ℕ) (d : Option Entry) (p : Planned) (reply : Reply) (after : Book) → b.in_doubt ≡ d → IsSoundBook b
    → ((ws : List Write) → p ≡ Plans ws → MayFollow b s ws) → DefinesBy d b seen s p reply after → IsSoundBook after
defines_sound b seen s (Some e) p reply after is sound on defines = same_book b after defines.1 sound
defines_sound b seen s None (Refused why) reply after is sound on defines = same_book b after defines.1 sound
defines_sound b seen s None (Plans ws) reply after is sound on defines = seals_sound b seen s ws reply after is sound (on ws refl) defines

-- so is the machine's part, and some text spells the statements of its open transactions
record IsSoundPart (m : Machine) : Type 0 where
  pub book : IsSoundBook (book_of m)
  pub spelled : (s : ℕ) → HasSpelled (m.sessions s)

moved : (m after : Machine) → after ≡ m → IsSoundPart m → IsSoundPart after
moved m after same sound = let P : Machine → Type 0 = λ x. IsSoundPart x in subst P (sym same) sound

session_sound : (m : Machine) (s : ℕ) (o : Session) → HasSpelled o → IsSoundPart m → IsSoundPart (with_session m s o)
session_sound m s o spelled sound = record {
  book = record { history = sound.book.history; doubted = sound.book.doubted };
  spelled = λ q. elim (q == s) as (λ b. HasSpelled (cond b o (m.sessions q))) [
    | true ↦ spelled
    | false ↦ sound.spelled q
  ];
}

book_sound : (m : Machine) (b : Book) → IsSoundBook b → IsSoundPart m → IsSoundPart (with_book m b)
book_sound m b sound f = record { book = record { history = sound.history; doubted = sound.doubted }; spelled = f.spelled }

behind_sound : (m : Machine) (s : ℕ) (reply : Reply) (b : Book) → IsSoundBook b → IsSoundPart m → IsSoundPart (behind m s reply b)
behind_sound m s reply b sound f =
    elim (ends_transaction reply) as (λ c. IsSoundPart (cond c (with_session (with_book m b) s Idle) (with_book m b))) [
      | true ↦ session_sound (with_book m b) s Idle tt (book_sound m b sound f)
      | false ↦ book_sound m b sound f
    ]

starts_sound : (m : Machine) (s : ℕ) (o : Session) (reply : Reply) (after : Machine) → IsSoundPart m → Starts m s o reply after → IsSoundPart after
starts_sound m s Idle Okay after f step = moved _ after step (session_sound m s (Working []) (All-nil IsSpelledOne) f)
starts_sound m s Idle Memory after f step = moved m after step f
starts_sound m s (Working t) Memory after f step = moved m after step f
starts_sound m s (Working t) InTransaction after f step = moved m after step f
starts_sound m s Idle reply after f step = absurd step
starts_sound m s (Working t) reply after f step = absurd step

executes_sound : (m : Machine) (s : ℕ) (st : Statement) → IsSpelled st → (o : Session) (reply : Reply) (after : Machine) → m.sessions s ≡ o → IsSoundPart m → Executes m s st o reply after → IsSoundPart after
executes_sound m s st spelled o Memory after e f step = moved m after step f
executes_sound m s st spelled Idle NoTransaction after e f step = moved m after step f
executes_sound m s st spelled Idle reply after e f step = absurd step
executes_sound m s st spelled (Working t) reply after e f step =
    let before : HasSpelled (Working t) = subst HasSpelled e (f.spelled s) in
    moved _ after step.1 (session_sound m s (Working (t ++ executed_now m st t ∷ [])) (All-push IsSpelledOne t (executed_now m st t) before spelled) f)

rolls_back_sound : (m : Machine) (s : ℕ) (o : Session) (reply : Reply) (after : Machine) → IsSoundPart m → RollsBack m s o reply after → IsSoundPart after
rolls_back_sound m s Idle NoTransaction after f step = moved m after step f
rolls_back_sound m s (Working t) Okay after f step = moved _ after step (session_sound m s Idle tt f)
rolls_back_sound m s Idle reply after f step = absurd step
rolls_back_sound m s (Working t) reply after f step = absurd step

refuses_sound : (m : Machine) (reply : Reply) (after : Machine) → IsSoundPart m → Refuses m reply after → IsSoundPart after
refuses_sound m NotYet after f step = moved m after step f
refuses_sound m Memory after f step = moved m after step f
refuses_sound m reply after f step = absurd step

-- a session's transaction has got its replies
open_replies : (m : Machine) (s : ℕ) (t : List Executed) → m.sessions s ≡ Working t → AnsweredFromSnapshots m → HasOpenReplies m.history [] t m.format
open_replies m s t e f = subst (λ (o : Session). SessionAnsweredFromSnapshots m.history o m.format) e (f.sessions s)

module _ (m : Machine) (s : ℕ) (seen : Seen) (format : m.format ≡ 1) (session : IsSession s) (answered : AnsweredFromSnapshots m) (f : IsSoundPart m) where
  commits_sound : (o : Session) (reply : Reply) (after : Machine) → m.sessions s ≡ o → Commits m s seen o reply after → IsSoundPart after
  commits_sound Idle NoTransaction after e step = moved m after step f
  commits_sound Idle Memory after e step = moved m after step f
  commits_sound (Working t) Memory after e step = moved m after step f
  commits_sound Idle reply after e step = absurd step
  commits_sound (Working t) reply after e step =
      let spelled : HasSpelled (Working t) = subst HasSpelled e (f.spelled s) in
      moved _ after step.2 (behind_sound m s reply step.0
      (decides_sound (book_of m) seen s (verdict (book_of m) t m.format) reply step.0 f.book
      (commit_follows m s format session answered f.book.history t spelled (open_replies m s t e answered)) step.1) f)

  defines_in_sound : (st : Statement) → IsSpelled st → (o : Session) (reply : Reply) (after : Machine) → DefinesIn m s seen st o reply after → IsSoundPart after
  defines_in_sound st spelled Idle Memory after step = moved m after step f
  defines_in_sound st spelled (Working t) Memory after step = moved m after step f
  defines_in_sound st spelled (Working t) InTransaction after step = moved m after step f
  defines_in_sound st spelled (Working t) reply after step = absurd step
  defines_in_sound st spelled Idle reply after step =
      moved _ after step.2 (book_sound m step.0
      (defines_sound (book_of m) seen s m.in_doubt (planned st (replay m.history)) reply step.0 refl f.book
      (definition_follows m s format session answered f.book.history st spelled) step.1) f)

  statement_sound : (st : Statement) → IsSpelled st → (reply : Reply) (after : Machine) → StatementStep m s seen st reply after → IsSoundPart after
  statement_sound Start spelled reply after step = starts_sound m s (m.sessions s) reply after f step
  statement_sound Commit spelled reply after step = commits_sound (m.sessions s) reply after refl step
  statement_sound Rollback spelled reply after step = rolls_back_sound m s (m.sessions s) reply after f step
  statement_sound (Select what table w) spelled reply after step = executes_sound m s (Select what table w) spelled (m.sessions s) reply after refl f step
  statement_sound (Insert table tuples) spelled reply after step = executes_sound m s (Insert table tuples) spelled (m.sessions s) reply after refl f step
  statement_sound (Update table sets w) spelled reply after step = executes_sound m s (Update table sets w) spelled (m.sessions s) reply after refl f step
  statement_sound (Delete table w) spelled reply after step = executes_sound m s (Delete table w) spelled (m.sessions s) reply after refl f step
  statement_sound (CreateTable name columns key bank) spelled reply after step = defines_in_sound (CreateTable name columns key bank) spelled (m.sessions s) reply after step
  statement_sound (DropTable name) spelled reply after step = defines_in_sound (DropTable name) spelled (m.sessions s) reply after step
  statement_sound (CreateDatabank name) spelled reply after step = refuses_sound m reply after f step
  statement_sound (CreateShadow name bank) spelled reply after step = refuses_sound m reply after f step
  statement_sound (ShadowOnline name) spelled reply after step = refuses_sound m reply after f step
  statement_sound (ShadowOffline name) spelled reply after step = refuses_sound m reply after f step
  statement_sound (ShadowMaster name) spelled reply after step = refuses_sound m reply after f step
  statement_sound (DropShadow name) spelled reply after step = refuses_sound m reply after f step
  statement_sound (CreateBackup name bank) spelled reply after step = refuses_sound m reply after f step
  statement_sound (BackupReady name) spelled reply after step = refuses_sound m reply after f step
  statement_sound (DropBackup name) spelled reply after step = refuses_sound m reply after f step
  statement_sound (Restore bank name) spelled reply after step = refuses_sound m reply after f step

whole : (m : Machine) → IsSoundPart m → AnsweredFromSnapshots m → IsSound m
whole m sound answered = record { history = sound.book.history; doubted = sound.book.doubted; spelled = sound.spelled; answered = answered }

part : (m : Machine) → IsSound m → IsSoundPart m
part m sound = record { book = record { history = sound.history; doubted = sound.doubted }; spelled = sound.spelled }

-- a control line changes nothing but what the sides of TRANSDB are
turns_sound : (m after : Machine) → IsSound m → OnlyTurns m after → IsSound after
turns_sound m after sound only =
    let P : Machine → Type 0 = λ x. IsSound x in
    subst P (sym only.2) (record {
      history = sound.history;
      doubted = sound.doubted;
      spelled = sound.spelled;
      answered = record { history = sound.answered.history; sessions = sound.answered.sessions };
    })

pub step_sound : (m after : Machine) (event : Event) (seen : Seen) (reply : Reply) → m.format ≡ 1 → IsSpelledEvent event → IsSound m → Step m event seen reply after → IsSound after
step_sound m after (OfSession s st) seen reply format spelled sound step =
    whole after (statement_sound m s seen format spelled.0 sound.answered (part m sound) st spelled.1 reply after step)
    (answered_step m s st seen reply after sound.answered step)
step_sound m after (Upkeep control) seen reply format spelled sound step = turns_sound m after sound (only_turns m control seen reply after step)
