-- Each change of what a system holds is a step of the machine that it stands for.
use Rattle.std.proofs.Common.{◌≡◌, ◌≢◌, ℕ, ◌+◌, ◌-◌, ◌<◌, ◌≤◌, Bool, true, false, ◌==◌, cond, List, [], ◌∷◌, ◌++◌, length, replicate, refl, sym, ap, subst, ◌∙◌, Option, Some, None, option_map, arith, zero, suc, inl, inr}
use Rattle.std.specs.Prelude.{slice_get, slice_set, unwrap_or}
use Rattle.std.specs.List.{All}
use Rattle.std.proofs.lemmas.List.{length-set}
use Rattle.std.proofs.lemmas.List.Elements.{All-nil}
use Rattle.std.proofs.lemmas.Bool.Decides.{eqb_tells}
use Rattle.std.proofs.Math.Seq.{take-length}
use Rattle.odb_device.specs.World.{World}
use Rattle.odb_model.specs.declared.entry.Entry.{Entry}
use Rattle.odb_model.specs.declared.event.Event.TheVariants.{Session as OfSession}
use Rattle.odb_model.specs.declared.reply.Reply.{Reply}
use Rattle.odb_model.specs.declared.outcome.Outcome.{Outcome}
use Rattle.odb_model.specs.declared.reply.Reply.TheVariants.{Okay, Committed, InDoubt, Halted, NotYet, NoTransaction, InTransaction, Fault, Turned, Memory}
use Rattle.odb_model.specs.declared.statement.Statement.{Statement}
use Rattle.odb_model.specs.declared.statement.Statement.TheVariants.{Start, Commit, Select, Insert, Rollback, Update, Delete, CreateDatabank, CreateTable, DropTable, CreateShadow, ShadowOnline, ShadowOffline, ShadowMaster, DropShadow, CreateBackup, BackupReady, DropBackup, Restore}
use Rattle.odb_model.specs.State.{State, after_writes, replay, IsHistory}
use Rattle.odb_model.specs.Meaning.{Meaning, meaning}
use Rattle.odb_model.specs.Reads.{reads}
use Rattle.odb_model.specs.Transaction.{Executed, meaning_over, open_meaning, read_at}
use Rattle.odb_model.specs.Script.{IsSession}
use Rattle.odb_model.specs.Definitions.{Planned, Refused, Plans, planned}
use Rattle.odb_model.specs.Session.{Session, Idle, Working}
use Rattle.odb_machine.specs.Book.{Book, Seen, Verdict, verdict, next_entry, Seals, Decides, DefinesBy, Defines, ends_transaction}
use Rattle.odb_machine.specs.Book as book
use Rattle.odb_machine.specs.Machine.{Machine, first_machine, with_session, book_of, with_book, behind, writes_made, executed_now, Starts, Executes, Commits, RollsBack, DefinesIn, StatementStep, Step}
use Rattle.odb_model.specs.Serial.{SessionAnsweredFromSnapshots}
use Rattle.odb_machine.specs.Answered.{AnsweredFromSnapshots}
use Rattle.odb_model.proofs.Meant.{is_meant}
use Rattle.odb_model.proofs.Refusals.{is_refusal, not_refused}
use Rattle.odb_model.proofs.Longer.{not_meant}
use Rattle.odb_machine.proofs.Runs.{Grows, decides_grow, defines_grow, answered_first, answered_step}
use Rattle.odb_machine.proofs.Runs as model_runs
use Rattle.odb_transdb.specs.declared.header.Header.{Header}
use Rattle.odb_transdb.specs.Standing.{Db}
use Rattle.odb_rowsource.specs.Intentions.{laid_over}
use Rattle.odb_exec.specs.Written.{keys_written}
use Rattle.odb_validate.specs.Window.{Windowed}
use Rattle.odb_validate.proofs.Windows.{IsWindow-last}
use Rattle.odb_txn.specs.Transaction.{Kept, nothing_kept, kept_with, IsNextOutcome, StandsFor as StandsForTransaction}
use Rattle.odb_txn.proofs.Stands.{stands_begin, stands_grow, stands_last}
use Rattle.odb_txn.proofs.Counted.{means_now, laid_now}
use Rattle.odb_commit.specs.Parts.{Parts, Preparation, count, prepared, entry_after, sealing_of}
use Rattle.odb_commit.specs.Standing.{StandsFor as BookStandsFor, Fills, sides_of, preparation_of, sealing_in}
use Rattle.odb_commit.proofs.Judging.{prepared_same, sealing_same}
use Rattle.odb_commit.proofs.Following.{begins as begins_book}
use Rattle.odb_system.specs.Open.{outcome_on, Shows}
use Rattle.odb_system.specs.Held.{Held, Begins, none_open, session_at, with_open, format_in, meaning_in, grown, told_by, ComesTo, StaysBook, CarriesOut, HeldStarts, HeldRollsBack, HeldExecutes, HeldCommits, HeldDefinesBy, HeldDefines, HeldRuns, StandsFor}
use Rattle.odb_system.proofs.Late.{IsLate, late_all, late_at}
use Rattle.odb_system.proofs.Carried.{is_plain, Moved, Effect, still, seals, Keeps, Went, stays, carries, carries_verdict}

slice_get-set_same : {A : Type 0} (xs : List A) (i : ℕ) (x : A) → i < length xs → slice_get (slice_set xs i x) i ≡ Some x
slice_get-set_same [] i x within = absurd (omega arith)
slice_get-set_same (y ∷ xs) zero x within = refl
slice_get-set_same (y ∷ xs) (suc i) x within = slice_get-set_same xs i x (omega arith)

slice_get-set_other : {A : Type 0} (xs : List A) (i j : ℕ) (x : A) → j ≢ i → slice_get (slice_set xs i x) j ≡ slice_get xs j
slice_get-set_other [] i j x other = refl
slice_get-set_other (y ∷ xs) zero zero x other = absurd (other refl)
slice_get-set_other (y ∷ xs) zero (suc j) x other = refl
slice_get-set_other (y ∷ xs) (suc i) zero x other = refl
slice_get-set_other (y ∷ xs) (suc i) (suc j) x other = slice_get-set_other xs i j x (λ same. other (ap suc same))

-- each session's place shows what the machine has of it
abbrev ShowAll : ℕ → List (Option Kept) → List Entry → ℕ → (ℕ → Session) → Type 0
ShowAll since xs h format sessions = (s : ℕ) → IsSession s → Shows since h format s (unwrap_or (slice_get xs (s - 1)) None) (sessions s)

shows_with : (since : ℕ) (xs : List (Option Kept)) (m : Machine) (s : ℕ) (x : Option Kept) (t : Session) → length xs ≡ 64 → IsSession s → ShowAll since xs m.history m.format m.sessions
    → Shows since m.history m.format s x t → ShowAll since (slice_set xs (s - 1) x) m.history m.format (with_session m s t).sessions
shows_with since xs m s x t count in_range shows here q is =
    let put : List (Option Kept) = slice_set xs (s - 1) x in
    elim (eqb_tells q s) as (λ w. Shows since m.history m.format q (unwrap_or (slice_get put (q - 1)) None) (cond (q == s) t (m.sessions q))) [
      | inl same ↦
          let place : q - 1 ≡ s - 1 = omega arith in
          let within : s - 1 < length xs = omega arith in
          let found : unwrap_or (slice_get put (q - 1)) None ≡ x = ap (λ o. unwrap_or o None) (ap (slice_get put) place ∙ slice_get-set_same xs (s - 1) x within) in
          let of_q : Shows since m.history m.format q x t = subst (λ (k : ℕ). Shows since m.history m.format k x t) (sym same.1) here in
          subst (λ (o : Option Kept). Shows since m.history m.format q o (cond (q == s) t (m.sessions q))) (sym found)
          (subst (λ (b : Bool). Shows since m.history m.format q x (cond b t (m.sessions q))) (sym same.0) of_q)
      | inr other ↦
          let apart : q - 1 ≢ s - 1 = λ e. other.1 (omega arith) in
          let found : unwrap_or (slice_get put (q - 1)) None ≡ unwrap_or (slice_get xs (q - 1)) None = ap (λ o. unwrap_or o None) (slice_get-set_other xs (s - 1) (q - 1) x apart) in
          subst (λ (o : Option Kept). Shows since m.history m.format q o (cond (q == s) t (m.sessions q))) (sym found)
          (subst (λ (b : Bool). Shows since m.history m.format q (unwrap_or (slice_get xs (q - 1)) None) (cond b t (m.sessions q))) (sym other.0) (shows q is))
    ]

-- what is kept of a session stands for it behind a longer history too
shows_longer : (since : ℕ) (h more : List Entry) (format s : ℕ) (x : Option Kept) (o : Session) → SessionAnsweredFromSnapshots h o format → Shows since h format s x o → Shows since (h ++ more) format s x o
shows_longer since h more format s None Idle f shows = tt
shows_longer since h more format s None (Working t) f shows = absurd shows
shows_longer since h more format s (Some kept) Idle f shows = absurd shows
shows_longer since h more format s (Some kept) (Working t) f shows = (shows.0, stands_last kept h more t format f shows.1, shows.2)

-- a step of the machine to one that the system stands for, with what it did to the log
pub record Goes (m : Machine) (s : ℕ) (st : Statement) (reply : Reply) (held after : Held) (old new : World) : Type 0 where
  pub next : Machine
  pub step : Step m (OfSession s st) (told_by reply) reply next
  pub stands : StandsFor after next
  pub format : next.format ≡ m.format
  pub turn : next.may_turn ≡ m.may_turn
  pub effect : Effect held (book_of m) reply after (book_of next) old new

-- no verdict is answered by MEMORY, nor a definition
no_memory : (b : Book) (seen : Seen) (s : ℕ) (v : Verdict) (after : Book) → Decides b seen s v Memory after → ⊥
no_memory b seen s (book.Halted k) after decides = decides
no_memory b seen s (book.Aged o k) after decides = decides
no_memory b seen s (book.Conflict j) after decides = decides
no_memory b seen s (book.Ended p) after decides = decides
no_memory b seen s (book.Writes writes) after decides = decides

no_memory_defined : (d : Option Entry) (b : Book) (seen : Seen) (s : ℕ) (st : Statement) (rows : State) (p : Planned) (after : Book) → planned st rows ≡ p → DefinesBy d b seen s p Memory after → ⊥
unfolding is_refusal
no_memory_defined (Some x) b seen s st rows p after is defines = let no : Memory ≡ Halted x.number = defines.0 in cc
no_memory_defined None b seen s st rows (Refused why) after is defines = not_refused st rows Memory refl (is ∙ ap Refused (sym defines.0))
no_memory_defined None b seen s st rows (Plans writes) after is defines = defines

commit_runs : (m : Machine) (s : ℕ) (seen : Seen) (t : List Executed) (reply : Reply) (b : Book) → m.sessions s ≡ Working t
    → Decides (book_of m) seen s (verdict (book_of m) t m.format) reply b → Commits m s seen (m.sessions s) reply (behind m s reply b)
commit_runs m s seen t Memory b e decides = absurd (no_memory (book_of m) seen s (verdict (book_of m) t m.format) b decides)
commit_runs m s seen t reply b e decides = subst (λ (o : Session). Commits m s seen o reply (behind m s reply b)) (sym e) (b, decides, refl)

define_runs : (m : Machine) (s : ℕ) (seen : Seen) (st : Statement) (reply : Reply) (b : Book) → m.sessions s ≡ Idle
    → Defines (book_of m) seen s st reply b → DefinesIn m s seen st (m.sessions s) reply (with_book m b)
define_runs m s seen st Memory b e defines = absurd (no_memory_defined m.in_doubt (book_of m) seen s st (replay m.history) (planned st (replay m.history)) b refl defines)
define_runs m s seen st reply b e defines = subst (λ (o : Session). DefinesIn m s seen st o reply (with_book m b)) (sym e) (b, defines, refl)

-- a statement on rows tells of no entry and of no fault
meant_plain : (reply : Reply) → is_meant reply ≡ true → is_plain reply ≡ true
unfolding is_meant is_plain
meant_plain (Committed k) is = cc
meant_plain (Fault f) is = cc
meant_plain (InDoubt k) is = cc
meant_plain (Turned side first) is = cc
meant_plain reply is = refl

meaning_plain : (reply : Reply) (st : Statement) (s : State) (t : Kept) (format : ℕ) → reply ≡ (meaning st (laid_over s t.own) (keys_written t.own) format).reply → is_plain reply ≡ true
meaning_plain reply st s t format same = meant_plain reply (by (is_meant reply) refl)
  where
    by : (c : Bool) → is_meant reply ≡ c → is_meant reply ≡ true
    by true is = is
    by false is = absurd (not_meant reply st (laid_over s t.own) (keys_written t.own) format is same)

-- nor does what refuses a definition
refusal_plain : (reply : Reply) → is_refusal reply ≡ true → is_plain reply ≡ true
unfolding is_refusal is_plain
refusal_plain (Committed k) is = cc
refusal_plain (Fault f) is = cc
refusal_plain (InDoubt k) is = cc
refusal_plain (Turned side first) is = cc
refusal_plain reply is = refl

refused_plain : (st : Statement) (s : State) (why : Reply) → planned st s ≡ Refused why → is_plain why ≡ true
refused_plain st s why is = refusal_plain why (by (is_refusal why) refl)
  where
    by : (c : Bool) → is_refusal why ≡ c → is_refusal why ≡ true
    by true same = same
    by false same = absurd (not_refused st s why same is)

-- the pair of a system behind a step is settled, where no entry is in doubt and no turn may have been
-- broken off
abbrev pub IsUpright : Machine → Held → Type 0
IsUpright m after = after.book.halted ≡ None → m.may_turn ≡ false → after.book.transdb.pair.settled ≡ true

module _ (m : Machine) (s : ℕ) (in_range : IsSession s) (held : Held) (stands : StandsFor held m) where
  -- the machine goes on to the one with this session
  goes_with : (st : Statement) (reply : Reply) (x : Option Kept) (t : Session) (after : Held) (old new : World) → StatementStep m s (told_by reply) st reply (with_session m s t)
      → Shows stands.since m.history m.format s x t → is_plain reply ≡ true → ComesTo (with_open held (s - 1) x) after old new → Goes m s st reply held after old new
  goes_with st reply x t after old new step here plain comes =
      let there : StandsFor (with_open held (s - 1) x) (with_session m s t) = record {
        since = stands.since;
        book = stands.book;
        rows = stands.rows;
        settled = stands.settled;
        format = stands.format;
        count = length-set held.sessions (s - 1) x ∙ stands.count;
        each = shows_with stands.since held.sessions m s x t stands.count in_range stands.each here;
        answered = answered_step m s st (told_by reply) reply (with_session m s t) stands.answered step;
        log = stands.log;
        copies = stands.copies;
      } in
      record {
        next = with_session m s t;
        step = step;
        stands = subst (λ (h : Held). StandsFor h (with_session m s t)) (sym comes.0) there;
        format = refl;
        turn = refl;
        effect = still comes.1 plain refl;
      }

  -- the machine stays
  goes_nowhere : (st : Statement) (reply : Reply) (after : Held) (old new : World) → Step m (OfSession s st) (told_by reply) reply m → is_plain reply ≡ true → ComesTo held after old new
      → Goes m s st reply held after old new
  goes_nowhere st reply after old new step plain comes = record {
    next = m;
    step = step;
    stands = subst (λ (h : Held). StandsFor h m) (sym comes.0) stands;
    format = refl;
    turn = refl;
    effect = still comes.1 plain refl;
  }

  starts : (x : Option Kept) (o : Session) (reply : Reply) (after : Held) (old new : World) → m.sessions s ≡ o → Shows stands.since m.history m.format s x o → HeldStarts held (s - 1) x reply after old new
      → Goes m s Start reply held after old new
  unfolding is_plain
  starts None Idle Okay after old new e here step =
      goes_with Start Okay (Some (nothing_kept (s - 1 + 1))) (Working []) after old new (subst (λ (o : Session). Starts m s o Okay (with_session m s (Working []))) (sym e) refl)
      (omega arith, stands_begin (s - 1 + 1) m.history m.format, All-nil (IsLate stands.since)) refl step
  starts (Some kept) (Working t) InTransaction after old new e here step = goes_nowhere Start InTransaction after old new (subst (λ (o : Session). Starts m s o InTransaction m) (sym e) refl) refl step
  starts None (Working t) reply after old new e here step = absurd here
  starts (Some kept) Idle reply after old new e here step = absurd here
  starts None Idle reply after old new e here step = absurd step
  starts (Some kept) (Working t) reply after old new e here step = absurd step

  rolls_back : (x : Option Kept) (o : Session) (reply : Reply) (after : Held) (old new : World) → m.sessions s ≡ o → Shows stands.since m.history m.format s x o
      → HeldRollsBack held (s - 1) x reply after old new → Goes m s Rollback reply held after old new
  unfolding is_plain
  rolls_back None Idle NoTransaction after old new e here step = goes_nowhere Rollback NoTransaction after old new (subst (λ (o : Session). RollsBack m s o NoTransaction m) (sym e) refl) refl step
  rolls_back (Some kept) (Working t) Okay after old new e here step =
      goes_with Rollback Okay None Idle after old new (subst (λ (o : Session). RollsBack m s o Okay (with_session m s Idle)) (sym e) refl) tt refl step
  rolls_back None (Working t) reply after old new e here step = absurd here
  rolls_back (Some kept) Idle reply after old new e here step = absurd here
  rolls_back None Idle reply after old new e here step = absurd step
  rolls_back (Some kept) (Working t) reply after old new e here step = absurd step

  counted : count held.book ≡ length m.history
  counted = IsWindow-last stands.since m.history held.book.window stands.book.window

  -- what a statement means to the system is what it means to the machine
  module _ (st : Statement) (kept : Kept) (t : List Executed) (open_stands : StandsForTransaction kept m.history t m.format) where
    abbrev meant : Meaning
    meant = open_meaning st (length m.history) (writes_made m t) m.history m.format

    same_meaning : meaning_in held st kept ≡ meant
    same_meaning =
        (λ i. meaning st (laid_over (stands.rows i) kept.own) (keys_written kept.own) (sym stands.format i))
        ∙ means_now kept m.history t st m.format open_stands
        ∙ ap (λ h. meaning_over st (replay h) (writes_made m t) m.format) (sym (take-length m.history))

    abbrev outcome : Outcome
    outcome = outcome_on held.rows st kept (format_in held)

    next_outcome : IsNextOutcome m.history t (executed_now m st t) m.format outcome
    next_outcome = record {
      writes = ap (λ (x : Meaning). x.writes) same_meaning;
      reads = ap (reads st) (ap (λ (rows : State). laid_over rows kept.own) stands.rows ∙ laid_now kept m.history t m.format open_stands ∙ ap (λ h. after_writes (replay h) (writes_made m t)) (sym (take-length m.history)));
    }

    same_grown : StandsForTransaction (grown held st kept) m.history (t ++ executed_now m st t ∷ []) m.format
    same_grown =
        subst (λ (n : ℕ). StandsForTransaction (kept_with kept st outcome n) m.history (t ++ executed_now m st t ∷ []) m.format) (sym counted)
        (stands_grow kept m.history t (executed_now m st t) m.format outcome open_stands next_outcome)

    late_grown : All (IsLate stands.since) kept.reads → All (IsLate stands.since) (grown held st kept).reads
    late_grown late =
        let on : stands.since ≤ count held.book = omega (arith, counted, stands.book.window.opened) in
        late_all stands.since (read_at (count held.book) outcome.reads) kept.reads (late_at stands.since (count held.book) outcome.reads on) late

  executes : (st : Statement) (x : Option Kept) (o : Session) (reply : Reply) (after : Held) (old new : World)
      → ((r : Reply) (n : Machine) → Executes m s st o r n → StatementStep m s (told_by r) st r n)
      → Shows stands.since m.history m.format s x o → HeldExecutes held (s - 1) st x reply after old new → Goes m s st reply held after old new
  unfolding is_plain
  executes st x o Memory after old new runs here step = goes_nowhere st Memory after old new (runs Memory m refl) refl step
  executes st None Idle NoTransaction after old new runs here step = goes_nowhere st NoTransaction after old new (runs NoTransaction m refl) refl step
  executes st None (Working t) reply after old new runs here step = absurd here
  executes st (Some kept) Idle reply after old new runs here step = absurd here
  executes st None Idle reply after old new runs here step = absurd step
  executes st (Some kept) (Working t) reply after old new runs here step =
      goes_with st reply (Some (grown held st kept)) (Working (t ++ executed_now m st t ∷ [])) after old new
      (runs reply (with_session m s (Working (t ++ executed_now m st t ∷ []))) (step.0 ∙ ap (λ (meant : Meaning). meant.reply) (same_meaning st kept t here.1), refl))
      (here.0, same_grown st kept t here.1, late_grown st kept t here.1 here.2)
      (meaning_plain reply st held.rows kept (format_in held) step.0) step.1

  idle_answered : (q : ℕ) → SessionAnsweredFromSnapshots m.history ((with_session m s Idle).sessions q) m.format
  idle_answered q = elim (q == s) as (λ b. SessionAnsweredFromSnapshots m.history (cond b Idle (m.sessions q)) m.format) [ true ↦ tt | false ↦ stands.answered.sessions q ]

  by_same : s - 1 + 1 ≡ s
  by_same = omega arith

  -- what is kept of a session stays, also behind a new entry
  shows_still : (b : Book) → Grows (book_of m) b → (q : ℕ) (x : Option Kept) (o : Session) → SessionAnsweredFromSnapshots m.history o m.format
      → Shows stands.since m.history m.format q x o → Shows stands.since b.history m.format q x o
  shows_still b (model_runs.stays same) q x o f here = subst (λ (h : List Entry). Shows stands.since h m.format q x o) (sym same) here
  shows_still b (model_runs.grows by writes same) q x o f here =
      subst (λ (h : List Entry). Shows stands.since h m.format q x o) (sym same) (shows_longer stands.since m.history (next_entry (book_of m) by writes ∷ []) m.format q x o f here)

  -- the machine with this book, and perhaps with this session idle
  module _ (after : Held) (b : Book) (more : Grows (book_of m) b) (kept : Keeps stands.since held after b) (upright : IsUpright m after) where
    settled_behind : b.in_doubt ≡ None → m.may_turn ≡ false → after.book.transdb.pair.settled ≡ true
    settled_behind none whole = upright (kept.book.halted ∙ ap (λ (o : Option Entry). option_map (λ (x : Entry). x.number) o) none) whole

    format_same : m.format ≡ format_in after
    format_same = stands.format ∙ ap (λ (h : Header). h.format) (sym kept.header)

    stands_on : after.sessions ≡ held.sessions → AnsweredFromSnapshots (with_book m b) → StandsFor after (with_book m b)
    stands_on sessions answered = record {
      since = stands.since;
      book = kept.book;
      rows = kept.rows;
      settled = settled_behind;
      format = format_same;
      count = ap length sessions ∙ stands.count;
      each = λ q is.
          subst (λ (ys : List (Option Kept)). Shows stands.since b.history m.format q (unwrap_or (slice_get ys (q - 1)) None) (m.sessions q)) (sym sessions)
          (shows_still b more q (unwrap_or (slice_get held.sessions (q - 1)) None) (m.sessions q) (stands.answered.sessions q) (stands.each q is));
      answered = answered;
      log = stands.log;
      copies = stands.copies;
    }

    stands_idle : after.sessions ≡ slice_set held.sessions (s - 1) None → AnsweredFromSnapshots (with_session (with_book m b) s Idle) → StandsFor after (with_session (with_book m b) s Idle)
    stands_idle sessions answered = record {
      since = stands.since;
      book = kept.book;
      rows = kept.rows;
      settled = settled_behind;
      format = format_same;
      count = ap length sessions ∙ length-set held.sessions (s - 1) None ∙ stands.count;
      each = λ q is.
          subst (λ (ys : List (Option Kept)). Shows stands.since b.history m.format q (unwrap_or (slice_get ys (q - 1)) None) ((with_session m s Idle).sessions q)) (sym sessions)
          (shows_still b more q (unwrap_or (slice_get (slice_set held.sessions (s - 1) None) (q - 1)) None) ((with_session m s Idle).sessions q) (idle_answered q)
          (shows_with stands.since held.sessions m s None Idle stands.count in_range stands.each tt q is));
      answered = answered;
      log = stands.log;
      copies = stands.copies;
    }

    stands_behind : (c : Bool) → after.sessions ≡ cond c (slice_set held.sessions (s - 1) None) held.sessions
        → AnsweredFromSnapshots (cond c (with_session (with_book m b) s Idle) (with_book m b))
        → StandsFor after (cond c (with_session (with_book m b) s Idle) (with_book m b))
    stands_behind true sessions answered = stands_idle sessions answered
    stands_behind false sessions answered = stands_on sessions answered

  book_behind : (reply : Reply) (b : Book) → book_of (behind m s reply b) ≡ b
  book_behind reply b = elim (ends_transaction reply) as (λ (c : Bool). book_of (cond c (with_session (with_book m b) s Idle) (with_book m b)) ≡ b) [ true ↦ refl | false ↦ refl ]

  format_behind : (reply : Reply) (b : Book) → (behind m s reply b).format ≡ m.format
  format_behind reply b = elim (ends_transaction reply) as (λ (c : Bool). (cond c (with_session (with_book m b) s Idle) (with_book m b)).format ≡ m.format) [ true ↦ refl | false ↦ refl ]

  turn_behind : (reply : Reply) (b : Book) → (behind m s reply b).may_turn ≡ m.may_turn
  turn_behind reply b = elim (ends_transaction reply) as (λ (c : Bool). (cond c (with_session (with_book m b) s Idle) (with_book m b)).may_turn ≡ m.may_turn) [ true ↦ refl | false ↦ refl ]

  decides : (kept : Kept) (t : List Executed) (reply : Reply) (after : Held) (old new : World) → m.sessions s ≡ Working t → kept.session ≡ s → StandsForTransaction kept m.history t m.format
      → All (IsLate stands.since) kept.reads → CarriesOut held (prepared held.book kept) reply after old new
      → after.sessions ≡ cond (ends_transaction reply) (slice_set held.sessions (s - 1) None) held.sessions → IsUpright m after → Goes m s Commit reply held after old new
  decides kept t reply after old new e of_session open_stands late carried sessions upright =
      let v : Verdict = verdict (book_of m) t m.format in
      let is : prepared held.book kept ≡ preparation_of (book_of m) s v =
      prepared_same stands.since held.book (book_of m) stands.book kept t m.format open_stands late ∙ ap (λ (n : ℕ). preparation_of (book_of m) n v) of_session in
      let went : Went (λ x. Decides (book_of m) (told_by reply) s v reply x) stands.since held (book_of m) reply after old new =
      carries_verdict stands.since held (book_of m) stands.book stands.rows s v reply after old new (subst (λ (p : Preparation). CarriesOut held p reply after old new) is carried) in
      let b : Book = went.b in
      let next : Machine = behind m s reply b in
      let step : Step m (OfSession s Commit) (told_by reply) reply next = commit_runs m s (told_by reply) t reply b e went.does in
      let more : Grows (book_of m) b = decides_grow (book_of m) (told_by reply) s v reply b went.does in
      record {
        next = next;
        step = step;
        stands = stands_behind after b more went.kept upright (ends_transaction reply) sessions (answered_step m s Commit (told_by reply) reply next stands.answered step);
        format = format_behind reply b;
        turn = turn_behind reply b;
        effect = subst (λ (x : Book). Effect held (book_of m) reply after x old new) (sym (book_behind reply b)) went.effect;
      }

  commits : (x : Option Kept) (o : Session) (reply : Reply) (after : Held) (old new : World) → m.sessions s ≡ o → Shows stands.since m.history m.format s x o → HeldCommits held (s - 1) x reply after old new
      → IsUpright m after → Goes m s Commit reply held after old new
  unfolding is_plain
  commits x o Memory after old new e here step upright = goes_nowhere Commit Memory after old new refl refl step
  commits None Idle NoTransaction after old new e here step upright = goes_nowhere Commit NoTransaction after old new (subst (λ (o : Session). Commits m s (told_by NoTransaction) o NoTransaction m) (sym e) refl) refl step
  commits None (Working t) reply after old new e here step upright = absurd here
  commits (Some kept) Idle reply after old new e here step upright = absurd here
  commits None Idle reply after old new e here step upright = absurd step
  commits (Some kept) (Working t) reply after old new e here step upright = decides kept t reply after old new e here.0 here.1 here.2 step.0 step.1 upright

  -- a definition of an idle session
  defines_by : (st : Statement) (d : Option Entry) (p : Planned) (reply : Reply) (after : Held) (old new : World) → m.in_doubt ≡ d → planned st (replay m.history) ≡ p
      → HeldDefinesBy (option_map (λ (x : Entry). x.number) d) held (s - 1) p reply after old new
      → Went (λ x. DefinesBy d (book_of m) (told_by reply) s p reply x) stands.since held (book_of m) reply after old new
  unfolding is_plain
  defines_by st (Some x) p reply after old new doubt plan step =
      stays stands.since held (book_of m) stands.book stands.rows (λ r y. DefinesBy (Some x) (book_of m) (told_by r) s p r y) reply (Halted x.number) after old new refl (refl, refl) step
  defines_by st None (Refused why) reply after old new doubt plan step =
      stays stands.since held (book_of m) stands.book stands.rows (λ r y. DefinesBy None (book_of m) (told_by r) s (Refused why) r y) reply why after old new (refused_plain st (replay m.history) why plan) (refl, refl) step
  defines_by st None (Plans ws) reply after old new doubt plan step =
      let is : sealing_of held.book (entry_after held.book (s - 1 + 1) ws) ≡ sealing_in (book_of m) s ws =
      ap (λ (n : ℕ). sealing_of held.book (entry_after held.book n ws)) by_same ∙ sealing_same stands.since held.book (book_of m) stands.book doubt s ws in
      carries stands.since held (book_of m) stands.book stands.rows s ws reply after old new (subst (λ (p : Preparation). CarriesOut held p reply after old new) is step)

  defines_idle : (st : Statement) (reply : Reply) (after : Held) (old new : World) → ((n : Machine) → DefinesIn m s (told_by reply) st (m.sessions s) reply n → StatementStep m s (told_by reply) st reply n)
      → m.sessions s ≡ Idle → HeldDefinesBy held.book.halted held (s - 1) (planned st held.rows) reply after old new × (after.sessions ≡ held.sessions) → IsUpright m after → Goes m s st reply held after old new
  defines_idle st reply after old new runs e step upright =
      let by : HeldDefinesBy (option_map (λ (x : Entry). x.number) m.in_doubt) held (s - 1) (planned st (replay m.history)) reply after old new =
      subst (λ (rows : State). HeldDefinesBy (option_map (λ (x : Entry). x.number) m.in_doubt) held (s - 1) (planned st rows) reply after old new) stands.rows
      (subst (λ (d : Option ℕ). HeldDefinesBy d held (s - 1) (planned st held.rows) reply after old new) stands.book.halted step.0) in
      let went : Went (λ x. Defines (book_of m) (told_by reply) s st reply x) stands.since held (book_of m) reply after old new =
      defines_by st m.in_doubt (planned st (replay m.history)) reply after old new refl refl by in
      let b : Book = went.b in
      let next : Machine = with_book m b in
      let runs_so : DefinesIn m s (told_by reply) st (m.sessions s) reply next = define_runs m s (told_by reply) st reply b e went.does in
      let taken : Step m (OfSession s st) (told_by reply) reply next = runs next runs_so in
      let more : Grows (book_of m) b = defines_grow (book_of m) (told_by reply) s st reply b went.does in
      record {
        next = next;
        step = taken;
        stands = stands_on after b more went.kept upright step.1 (answered_step m s st (told_by reply) reply next stands.answered taken);
        format = refl;
        turn = refl;
        effect = went.effect;
      }

  defines : (st : Statement) (x : Option Kept) (o : Session) (reply : Reply) (after : Held) (old new : World)
      → ((r : Reply) (n : Machine) → DefinesIn m s (told_by r) st (m.sessions s) r n → StatementStep m s (told_by r) st r n)
      → m.sessions s ≡ o → Shows stands.since m.history m.format s x o → HeldDefines held (s - 1) st x reply after old new → IsUpright m after → Goes m s st reply held after old new
  unfolding is_plain
  defines st x o Memory after old new runs e here step upright = goes_nowhere st Memory after old new (runs Memory m refl) refl step
  defines st (Some kept) (Working t) InTransaction after old new runs e here step upright =
      goes_nowhere st InTransaction after old new (runs InTransaction m (subst (λ (o : Session). DefinesIn m s (told_by InTransaction) st o InTransaction m) (sym e) refl)) refl step
  defines st None (Working t) reply after old new runs e here step upright = absurd here
  defines st (Some kept) Idle reply after old new runs e here step upright = absurd here
  defines st (Some kept) (Working t) reply after old new runs e here step upright = absurd step
  defines st None Idle reply after old new runs e here step upright = defines_idle st reply after old new (λ n x. runs reply n x) e step upright

  not_yet : (st : Statement) (reply : Reply) (after : Held) (old new : World) → ((n : Machine) → n ≡ m → StatementStep m s (told_by NotYet) st NotYet n) → (reply ≡ NotYet) × ComesTo held after old new
      → Goes m s st reply held after old new
  unfolding is_plain
  not_yet st reply after old new refuses step = subst (λ (r : Reply). Goes m s st r held after old new) (sym step.0) (goes_nowhere st NotYet after old new (refuses m refl) refl step.1)

  pub goes : (st : Statement) (reply : Reply) (after : Held) (old new : World) → HeldRuns held (s - 1) st reply after old new → IsUpright m after → Goes m s st reply held after old new
  goes Start reply after old new step upright = starts (session_at held (s - 1)) (m.sessions s) reply after old new refl (stands.each s in_range) step
  goes Commit reply after old new step upright = commits (session_at held (s - 1)) (m.sessions s) reply after old new refl (stands.each s in_range) step upright
  goes Rollback reply after old new step upright = rolls_back (session_at held (s - 1)) (m.sessions s) reply after old new refl (stands.each s in_range) step
  goes (Select what table f) reply after old new step upright =
      executes (Select what table f) (session_at held (s - 1)) (m.sessions s) reply after old new (λ r n x. x) (stands.each s in_range) step
  goes (Insert table tuples) reply after old new step upright =
      executes (Insert table tuples) (session_at held (s - 1)) (m.sessions s) reply after old new (λ r n x. x) (stands.each s in_range) step
  goes (Update table sets f) reply after old new step upright =
      executes (Update table sets f) (session_at held (s - 1)) (m.sessions s) reply after old new (λ r n x. x) (stands.each s in_range) step
  goes (Delete table f) reply after old new step upright =
      executes (Delete table f) (session_at held (s - 1)) (m.sessions s) reply after old new (λ r n x. x) (stands.each s in_range) step
  goes (CreateTable name columns key bank) reply after old new step upright =
      defines (CreateTable name columns key bank) (session_at held (s - 1)) (m.sessions s) reply after old new (λ r n x. x) refl (stands.each s in_range) step upright
  goes (DropTable name) reply after old new step upright =
      defines (DropTable name) (session_at held (s - 1)) (m.sessions s) reply after old new (λ r n x. x) refl (stands.each s in_range) step upright
  goes (CreateDatabank name) reply after old new step upright = not_yet (CreateDatabank name) reply after old new (λ n is. is) step
  goes (CreateShadow name bank) reply after old new step upright = not_yet (CreateShadow name bank) reply after old new (λ n is. is) step
  goes (ShadowOnline name) reply after old new step upright = not_yet (ShadowOnline name) reply after old new (λ n is. is) step
  goes (ShadowOffline name) reply after old new step upright = not_yet (ShadowOffline name) reply after old new (λ n is. is) step
  goes (ShadowMaster name) reply after old new step upright = not_yet (ShadowMaster name) reply after old new (λ n is. is) step
  goes (DropShadow name) reply after old new step upright = not_yet (DropShadow name) reply after old new (λ n is. is) step
  goes (CreateBackup name bank) reply after old new step upright = not_yet (CreateBackup name bank) reply after old new (λ n is. is) step
  goes (BackupReady name) reply after old new step upright = not_yet (BackupReady name) reply after old new (λ n is. is) step
  goes (DropBackup name) reply after old new step upright = not_yet (DropBackup name) reply after old new (λ n is. is) step
  goes (Restore bank name) reply after old new step upright = not_yet (Restore bank name) reply after old new (λ n is. is) step

-- no statement means MEMORY
pub executed : (held : Held) (at : ℕ) (st : Statement) (t : Kept) (reply : Reply) (after : Held) (w : World) → reply ≡ (meaning_in held st t).reply
    → after ≡ with_open held at (Some (grown held st t)) → HeldExecutes held at st (Some t) reply after w w
unfolding is_meant
executed held at st t Memory after w same grew = absurd (not_meant Memory st (laid_over held.rows t.own) (keys_written t.own) (format_in held) refl same)
executed held at st t reply after w same grew = (same, (grew, refl))

idle_places : (n i : ℕ) → i < n → slice_get (replicate n (none_open)) i ≡ Some none_open
idle_places zero i within = absurd (omega arith)
idle_places (suc n) zero within = refl
idle_places (suc n) (suc i) within = idle_places n i (omega arith)

-- the log of a history that it holds is filled by it
fills : (db : Db) (h : List Entry) → Begins db h → Fills db h
fills db h begins = record { next = begins.next; filled = begins.filled; placed = begins.placed }

-- a system that begins with a history
pub stands_first : (h : List Entry) (xs : List (Option Kept)) (db : Db) (rows : State) → Begins db h → db.pair.settled ≡ true → rows ≡ replay h → xs ≡ replicate 64 none_open
    → StandsFor (record { book = record { transdb = db; window = record { start = length h; entries = []; is_reserved = false }; halted = None }; sessions = xs; rows = rows }) (first_machine db.header.format (sides_of db.header) h)
stands_first h xs db rows begins whole are same = record {
  since = length h;
  book = begins_book db h false begins.numbered (fills db h begins);
  rows = are;
  settled = λ none unturned. whole;
  format = refl;
  count = rw same refl;
  each = λ s is.
      let within : s - 1 < 64 = omega arith in
      let idle : unwrap_or (slice_get xs (s - 1)) None ≡ None = ap (λ (ys : List (Option Kept)). unwrap_or (slice_get ys (s - 1)) None) same ∙ ap (λ o. unwrap_or o None) (idle_places 64 (s - 1) within) in
      subst (λ (o : Option Kept). Shows (length h) h db.header.format s o Idle) (sym idle) tt;
  answered = answered_first db.header.format (sides_of db.header) h begins.numbered;
  log = refl;
  copies = refl;
}
