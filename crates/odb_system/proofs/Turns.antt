-- TURN is a step of the machine, which keeps the files.
use Rattle.std.proofs.Common.{◌≡◌, ◌≢◌, ◌⊎◌, inl, inr, ℕ, zero, suc, ◌+◌, ◌-◌, Bool, true, false, List, [], ◌∷◌, map, length, Option, Some, None, option_map, Result, Ok, Err, sym, ◌∙◌, ap, subst, refl, arith, eqb-true}
use Rattle.std.specs.Prelude.{⊤, is_some, IfSome}
use Rattle.odb_device.specs.World.{File, World, present, file_of}
use Rattle.odb_device.specs.Images.{EachImage}
use Rattle.odb_device.specs.Moments.{Runs}
use Rattle.odb_device.proofs.Time.{begins, run_end}
use Rattle.odb_device.proofs.Stretches.{steps_of_run}
use Rattle.odb_device.proofs.Torn.{each_weakens}
use Rattle.odb_kept.proofs.Keeping.{step_kept}
use Rattle.odb_model.specs.declared.entry.Entry.{Entry}
use Rattle.odb_model.specs.declared.side.OtherSide.{OtherSide}
use Rattle.odb_model.specs.declared.side.OtherSide.TheVariants.{Live, Dirty, Clean}
use Rattle.odb_model.specs.declared.event.Event.TheVariants.{Control as OfControl}
use Rattle.odb_model.specs.declared.control.Control.{Control as ControlLine}
use Rattle.odb_model.specs.declared.control.Control.TheVariants as line
use Rattle.odb_model.specs.declared.reply.Head.TheVariants.{Control as HeadControl}
use Rattle.odb_model.specs.declared.reply.Reply.{Reply}
use Rattle.odb_model.specs.declared.phase.StateReply.{StateReply}
use Rattle.odb_model.specs.declared.reply.Reply.TheVariants.{Fault, Turned, State as TellsState, NotClean, Halted, NotYet}
use Rattle.odb_machine.specs.Sides.{Sides, first_on, first_by, other_side, first_in}
use Rattle.odb_machine.specs.Log.{Log, Absent}
use Rattle.odb_machine.specs.Copies.{Copy}
use Rattle.odb_machine.specs.Clearing.{next_in, behind_turn, broken_off}
use Rattle.odb_machine.specs.Refusals.{first_of, doubt_refusal, unclean_refusal}
use Rattle.odb_machine.specs.Controls.{log_told, line_of_copy, state_of, WorksUnless}
use Rattle.odb_model.specs.State.{State, replay, IsHistory}
use Rattle.odb_model.specs.Session.{Session}
use Rattle.odb_model.specs.Serial.{SessionAnsweredFromSnapshots}
use Rattle.odb_machine.specs.Machine.{Machine, Step, book_of}
use Rattle.odb_transdb.specs.declared.header.Header.{Header}
use Rattle.odb_transdb.specs.declared.error.TransdbError.{TransdbError}
use Rattle.odb_transdb.specs.declared.error.TransdbError.TheVariants as t
use Rattle.odb_transdb.specs.Header.{first_on as header_on, first_by as header_by, first_held, other_of, turned}
use Rattle.odb_transdb.specs.Opened.{Holds, entries_in}
use Rattle.odb_transdb.specs.Standing.{Db, Stands}
use Rattle.odb_transdb.specs.Turning.{HoldsEnd, HoldsOneOf, StandsSince, SameSides, IsOfTurn, IsTurned, RunsTurn}
use Rattle.odb_transdb.proofs.Standing.{stands_settled}
use Rattle.odb_transdb.proofs.Settling.{may_stand}
use Rattle.odb_validate.specs.Window.{Windowed, last_number}
use Rattle.odb_validate.proofs.Windows.{IsWindow-last}
use Rattle.odb_txn.specs.Transaction.{Kept}
use Rattle.odb_commit.specs.Parts.{Parts, count, IsAligned}
use Rattle.odb_commit.specs.Turned.{TurnsLog}
use Rattle.odb_commit.specs.Standing.{sides_of, Fills, StandsFor as BookStandsFor}
use Rattle.odb_commit.proofs.Following.{turned_on, broken}
use Rattle.odb_system.specs.Held.{Held, StandsFor, HasCauses, HeldTurnsBy, HeldTurns, HeldControls, state_held, TurnsHeld, ComesTo, session_at, without_place, turn_told, told_by}
use Rattle.odb_system.specs.Durable.{IsBrokenOff, StandsBy, IsDurableBy, IsDurable, Risen, ChangesLog}
use Rattle.odb_system.specs.Kept.{MayHaveSides, OpensBy, IsKept, Rests, WritesPair, IsDoubtCaused, StepWrites, Stepped}
use Rattle.odb_system.specs.Open.{Shows}
use Rattle.odb_system.proofs.Carried.{is_plain}
use Rattle.odb_system.proofs.Running.{stands_now, stands_upright, broken_upright, broken_on, told_on, none_halted}
use Rattle.odb_system.proofs.Keeping.{IsLogOf, sides_own, kept_exact, kept_elsewhere, same_entries, rests_exact, still_writes, still_doubt, still_gate, still_causes, fault_causes}
use Rattle.odb_system.proofs.Stepping.{IsEither, either_beside, beside_left, opens_under, turned_as, sides_either, since_by, told_run, held_turned, same_header, whole_end}

abbrev IsSomeFile : Option File → Type 0
IsSomeFile None = ⊥
IsSomeFile (Some f) = Unit {0}

some_file : (o p : Option File) (f : File) → is_some p ≡ is_some o → p ≡ Some f → IsSomeFile o
some_file None p f told is = let wrong : true ≡ false = sym (ap (λ (x : Option File). is_some x) is) ∙ told in absurd (cc wrong)
some_file (Some g) p f told is = tt

-- the system behind it

book_behind : (held : Held) (result : Result ⊤ TransdbError) (after : Held) (old new : World) → TurnsHeld held result after old new → after.book ≡ record held.book { transdb = after.book.transdb }
book_behind held result after old new step = ap (λ (h : Held). h.book) step.rest

halted_behind : (held : Held) (result : Result ⊤ TransdbError) (after : Held) (old new : World) → TurnsHeld held result after old new → after.book.halted ≡ None
halted_behind held result after old new step = ap (λ (p : Parts). p.halted) (book_behind held result after old new step) ∙ step.takes.settled

-- the entries for which a log stands, which go from number 1 on
record Whole (db : Db) (file : Option File) : Type 0 where
  entries : List Entry
  since : StandsSince db entries file
  whole : IfSome file (λ _. length entries + 1 ≡ db.active.next)

whole_by : (settled : Bool) (db : Db) (file : Option File) → first_held db.header ≡ 1 → StandsBy settled db file → Whole db file
whole_by true db file first stands = record { entries = entries_in file; since = may_stand db file stands; whole = of_file file stands }
  where
    of_file : (o : Option File) → Stands db o → IfSome o (λ _. length (entries_in o) + 1 ≡ db.active.next)
    of_file None stands = tt
    of_file (Some f) stands = omega (arith, stands.3, first)
whole_by false db file first off = record { entries = off.entries; since = off.since; whole = off.whole }

durable_turned : (held : Held) (result : Result ⊤ TransdbError) (after : Held) (old new : World) → IsDurable held (file_of 0 old) → TurnsHeld held result after old new → IsDurable after (file_of 0 new)
durable_turned held (Ok done) after old new durable step =
    subst (λ (d : Option ℕ). IsDurableBy d after.book.transdb (file_of 0 new)) (sym (halted_behind held (Ok done) after old new step)) (stands_upright after.book.transdb (file_of 0 new) step.log.turned.stands)
durable_turned held (Err t.NotClean) after old new durable step =
    let same = step.log.not_clean refl in
    let now = stands_now held (file_of 0 old) step.takes.settled durable in
    subst (λ (d : Option ℕ). IsDurableBy d after.book.transdb (file_of 0 new)) (sym (halted_behind held (Err t.NotClean) after old new step))
    (subst (λ (d : Db). StandsBy d.pair.settled d (file_of 0 new)) (sym same.0) (subst (λ (w : World). StandsBy held.book.transdb.pair.settled held.book.transdb (file_of 0 w)) (sym same.1) now))
durable_turned held (Err t.Fault) after old new durable step =
    let db : Db = held.book.transdb in
    let all : Whole db (file_of 0 old) = whole_by db.pair.settled db (file_of 0 old) step.takes.first (stands_now held (file_of 0 old) step.takes.settled durable) in
    let told : is_some (file_of 0 new) ≡ is_some (file_of 0 old) = step.log.only.only.told new.time step.log.only.only.later (omega arith) in
    let off : IsBrokenOff after.book.transdb (file_of 0 new) =
    broken_on db after.book.transdb all.entries (file_of 0 old) (file_of 0 new) (step.log.fault refl) step.log.answer all.whole told (step.log.run step.log.answer all.entries all.since).stands in
    subst (λ (d : Option ℕ). IsDurableBy d after.book.transdb (file_of 0 new)) (sym (halted_behind held (Err t.Fault) after old new step))
    (broken_upright after.book.transdb (file_of 0 new) (step.log.unsettled refl) off)
durable_turned held (Err error) after old new durable step = absurd step.log.answer

durable_come : (held after : Held) (old new : World) → IsDurable held (file_of 0 old) → ComesTo held after old new → IsDurable after (file_of 0 new)
durable_come held after old new durable comes =
    subst (λ (h : Held). IsDurable h (file_of 0 new)) (sym comes.0) (subst (λ (w : World). IsDurable held (file_of 0 w)) (sym comes.1) durable)

-- the replies with which the pair alone is written
abbrev IsPairReply : Reply → Type 0
IsPairReply (Turned side first) = Unit {0}
IsPairReply (Fault f) = Unit {0}
IsPairReply reply = ⊥

pair_doubt : (m n : Machine) (reply : Reply) (old new : World) → IsPairReply reply → IsDoubtCaused m reply n old new
pair_doubt m n (Turned side first) old new pair = tt
pair_doubt m n (Fault f) old new pair = tt
pair_doubt m n reply old new pair = absurd pair

pair_gate : (reply : Reply) → IsPairReply reply → (told_by reply).rose_at_gate ≡ true → ⊥
pair_gate (Turned side first) pair rose = cc
pair_gate (Fault f) pair rose = cc
pair_gate reply pair rose = absurd pair

pair_writes : (m n : Machine) (reply : Reply) (old new : World) → IsPairReply reply → WritesPair old new → StepWrites m HeadControl reply old new
pair_writes m n (Turned side first) old new pair only = only
pair_writes m n (Fault f) old new pair only = only
pair_writes m n reply old new pair only = absurd pair

-- the first entry held, by the header and by the sides
on_side : (h : Header) (side : ℕ) → first_on (sides_of h) side ≡ header_on h side
on_side h zero = refl
on_side h (suc side) = refl

by_other : (h : Header) (o : OtherSide) → first_by (sides_of h) o ≡ header_by h o
by_other h Live = on_side h (other_of h)
by_other h Dirty = on_side h h.active
by_other h Clean = on_side h h.active

first_same : (h : Header) → first_in (sides_of h) ≡ first_held h
first_same h = by_other h h.other

-- what STATE tells by these
abbrev told_as : ℕ → Sides → Log → List Copy → StateReply
told_as number sides log copies = record {
  number = number;
  active = sides.active;
  other = sides.other;
  first = first_in sides;
  log = log_told log;
  copies = map line_of_copy copies;
}

-- a step that changes nothing

abbrev IsEitherKept : Machine → Machine → List ℕ → Type 0
IsEitherKept m n image = IsKept m 0 image ⊎ IsKept n 0 image

-- its reply tells of nothing, and its event leaves the machine as it is
pub stepped_nothing : (m : Machine) (control : ControlLine) (reply : Reply) (held after : Held) (old new : World) → StandsFor held m → Rests m (present old) → is_plain reply ≡ true → Step m (OfControl control) (told_by reply) reply m → after ≡ held → new ≡ old
    → Stepped m (OfControl control) reply after old new
stepped_nothing m control reply held after old new stands rests plain step same quiet =
    subst (λ (h : Held). Stepped m (OfControl control) reply h old new) (sym same)
    (subst (λ (w : World). Stepped m (OfControl control) reply held old w) (sym quiet) at_once)
  where
    run : Runs 0 (EachImage (IsEitherKept m m)) old old
    run = begins 0 (EachImage (IsEitherKept m m)) old (each_weakens (IsKept m 0) (IsEitherKept m m) (file_of 0 old) (λ image is. inl is) (rests.keeps 0))

    at_once : Stepped m (OfControl control) reply held old old
    at_once = record {
      follows = record { seen = told_by reply; told = refl; causes = still_causes reply old old plain; after = m; step = step; stands = stands };
      doubt = still_doubt m m reply old old plain;
      from_gate = λ risen. absurd (still_gate reply plain risen);
      writes = still_writes m HeadControl reply old old plain refl;
      keeps = step_kept (IsKept m) (IsKept m) 0 old old (kept_elsewhere m (present old)) (kept_elsewhere m (present old)) run;
      quiet = (steps_of_run 0 (EachImage (IsEitherKept m m)) old old run).1;
      rests = rests;
    }

-- the step of the machine

halts : (m : Machine) (doubt : Option Entry) (number : ℕ) → option_map (λ (x : Entry). x.number) doubt ≡ Some number
    → WorksUnless (first_of (doubt_refusal doubt ∷ unclean_refusal m.sides.other ∷ [])) m (told_by (Halted number)) line.Turn (Halted number) m
halts m None number is = cc
halts m (Some x) number is = let same : x.number ≡ number = cc is in (ap Halted (sym same), refl)

refuses : (m : Machine) (other : OtherSide) → other ≢ Clean → WorksUnless (first_of (doubt_refusal None ∷ unclean_refusal other ∷ [])) m (told_by NotClean) line.Turn NotClean m
refuses m Live unclean = (refl, refl)
refuses m Dirty unclean = (refl, refl)
refuses m Clean unclean = absurd (unclean refl)

-- where nothing refuses it
module _ (m : Machine) (none : m.in_doubt ≡ None) (clean : m.sides.other ≡ Clean) where
  turns_as : (side first : ℕ) → side ≡ other_side m.sides → first ≡ next_in m → Step m (OfControl line.Turn) (told_by (Turned side first)) (Turned side first) (behind_turn m)
  turns_as side first side_is first_is =
      subst (λ (d : Option Entry). WorksUnless (first_of (doubt_refusal d ∷ unclean_refusal m.sides.other ∷ [])) m (told_by (Turned side first)) line.Turn (Turned side first) (behind_turn m)) (sym none)
      (subst (λ (o : OtherSide). WorksUnless (first_of (doubt_refusal None ∷ unclean_refusal o ∷ [])) m (told_by (Turned side first)) line.Turn (Turned side first) (behind_turn m)) (sym clean) (side_is, first_is, refl))

  faults_as : Step m (OfControl line.Turn) (told_by (Fault 0)) (Fault 0) (broken_off m)
  faults_as =
      subst (λ (d : Option Entry). WorksUnless (first_of (doubt_refusal d ∷ unclean_refusal m.sides.other ∷ [])) m (told_by (Fault 0)) line.Turn (Fault 0) (broken_off m)) (sym none)
      (subst (λ (o : OtherSide). WorksUnless (first_of (doubt_refusal None ∷ unclean_refusal o ∷ [])) m (told_by (Fault 0)) line.Turn (Fault 0) (broken_off m)) (sym clean) (refl, refl, refl))

module _ (m : Machine) (held after : Held) (old new : World) (stands : StandsFor held m) (rests : Rests m (present old)) (durable : IsDurable held (file_of 0 old)) where
  abbrev db : Db
  db = held.book.transdb

  -- the log was turned, or that broke off
  module _ (result : Result ⊤ TransdbError) (step : TurnsHeld held result after old new) (clean : db.header.other ≡ Clean) where
    none : m.in_doubt ≡ None
    none = none_halted held m stands step.takes.settled

    exact : EachImage (OpensBy m m.history) (file_of 0 old)
    exact = rests.exact none

    fills : Fills db m.history
    fills = stands.book.log none

    clean_here : m.sides.other ≡ Clean
    clean_here = ap (λ (s : Sides). s.other) stands.book.sides ∙ clean

    since : StandsSince db m.history (file_of 0 old)
    since = since_by db.pair.settled m db (file_of 0 old) exact (stands_now held (file_of 0 old) step.takes.settled durable)

    turns : RunsTurn m.history db after.book.transdb old new
    turns = step.log.run clean m.history since

    -- an image has the header from before or the turned one
    either_image : (f : File) → StandsSince db m.history (Some f) → (k : Header) → IsOfTurn db k → IsEither db k
    either_image f since k of_turn = elim of_turn.0 as (λ _. IsEither db k) [ inl left ↦ either_beside db k clean (beside_left db m.history f k since left) | inr is ↦ inr is ]

    -- of a file that is told
    either_told : (o : Option File) → StandsSince db m.history o → (k : Header) → IsOfTurn db k → IsSomeFile o → IsEither db k
    either_told None since k of_turn told = absurd told
    either_told (Some f) since k of_turn told = either_image f since k of_turn

    -- so it is kept by the machine before or by the one behind
    module _ (n : Machine) (history : n.history ≡ m.history) (format : n.format ≡ m.format) (turned_so : (k : Header) → k ≡ turned db.active.next db.header → MayHaveSides n (sides_of k)) where
      abbrev either : List ℕ → Type 0
      either image = IsKept m 0 image ⊎ IsKept n 0 image

      next_n : length n.history + 1 ≡ db.active.next
      next_n = ap (λ (h : List Entry). length h + 1) history ∙ fills.next

      kept_image : (f : File) → StandsSince db m.history (Some f) → (image : List ℕ) → HoldsOneOf (IsOfTurn db) db.active.next m.history image → either image
      kept_image f since image one = elim (either_image f since one.0 one.1) as (λ _. either image) [
        | inl same ↦
            inl (kept_exact m image (opens_under m db one.0 image stands.format fills.next step.takes.first clean (inl same) (sides_own m.may_turn m.sides (next_in m) (sides_of one.0) (stands.book.sides ∙ ap sides_of (sym same))) one.2))
        | inr is ↦
            inr (kept_exact n image (opens_under n db one.0 image (format ∙ stands.format) next_n step.takes.first clean (inr is) (turned_so one.0 is)
            (subst (λ (h : List Entry). HoldsEnd one.0 db.active.next h image) (sym history) one.2)))
      ]

      of_image : (o : Option File) → StandsSince db m.history o → IfSome o (λ f. (image : List ℕ) → HoldsOneOf (IsOfTurn db) db.active.next m.history image → either image)
      of_image None since = tt
      of_image (Some f) since = kept_image f since

      keeping : Runs 0 (EachImage either) old new
      keeping = told_run (HoldsOneOf (IsOfTurn db) db.active.next m.history) either old new (of_image (file_of 0 old) since) turns.run

      -- the step, by its reply
      stepped_as : (reply : Reply) → Step m (OfControl line.Turn) (told_by reply) reply n → StandsFor after n → HasCauses (Risen old new) (told_by reply) → IsPairReply reply → EachImage (OpensBy n n.history) (file_of 0 new)
          → Stepped m (OfControl line.Turn) reply after old new
      stepped_as reply taken there causes pair exact_new = record {
        follows = record { seen = told_by reply; told = refl; causes = causes; after = n; step = taken; stands = there };
        doubt = pair_doubt m n reply old new pair;
        from_gate = λ risen. absurd (pair_gate reply pair risen);
        writes = pair_writes m n reply old new pair step.log.only;
        keeps = step_kept (IsKept m) (IsKept n) 0 old new (kept_elsewhere m (present old)) (kept_elsewhere n (present old)) keeping;
        quiet = (steps_of_run 0 (EachImage either) old new keeping).1;
        rests = rests_exact n (present new) exact_new;
      }

    -- the system stands for a machine whose book is this one, and all else of which is as before
    stands_as : (n : Machine) → BookStandsFor stands.since (record held.book { transdb = after.book.transdb }) (book_of n) → n.history ≡ m.history → ((s : ℕ) → n.sessions s ≡ m.sessions s) → n.format ≡ m.format → n.log ≡ m.log → n.copies ≡ m.copies
        → m.format ≡ after.book.transdb.header.format → (n.may_turn ≡ false → after.book.transdb.pair.settled ≡ true) → StandsFor after n
    stands_as n book history sessions format log copies same settled =
        subst (λ (h : Held). StandsFor h n) (sym step.rest)
        (record {
          since = stands.since;
          book = book;
          rows = stands.rows ∙ ap replay (sym history);
          settled = λ unhalted. settled;
          format = format ∙ same;
          count = stands.count;
          each = λ s is.
              subst (λ (h : List Entry). Shows stands.since h n.format s (session_at held (s - 1)) (n.sessions s)) (sym history)
              (subst (λ (f : ℕ). Shows stands.since m.history f s (session_at held (s - 1)) (n.sessions s)) (sym format)
              (subst (λ (o : Session). Shows stands.since m.history m.format s (session_at held (s - 1)) o) (sym (sessions s)) (stands.each s is)));
          answered = record {
            history = subst IsHistory (sym history) stands.answered.history;
            sessions = λ s.
                subst (λ (h : List Entry). SessionAnsweredFromSnapshots h (n.sessions s) n.format) (sym history)
                (subst (λ (f : ℕ). SessionAnsweredFromSnapshots m.history (n.sessions s) f) (sym format)
                (subst (λ (o : Session). SessionAnsweredFromSnapshots m.history o m.format) (sym (sessions s)) (stands.answered.sessions s)));
          };
          log = log ∙ stands.log;
          copies = copies ∙ stands.copies;
        })

  -- by the result
  by_done : (step : TurnsHeld held (Ok tt) after old new) → Stepped m (OfControl line.Turn) (turn_told after (Ok tt)) after old new
  by_done step =
      let clean : db.header.other ≡ Clean = step.log.answer in
      let n : Machine = behind_turn m in
      let turned_log : IsTurned db after.book.transdb new = step.log.turned in
      let next : length m.history + 1 ≡ db.active.next = (fills (Ok tt) step clean).next in
      let so : (k : Header) → k ≡ turned db.active.next db.header → MayHaveSides n (sides_of k) = λ k is. sym (turned_as m db k stands.book.sides next is) in
      let side : after.book.transdb.header.active ≡ other_side m.sides = ap (λ (h : Header). h.active) turned_log.header ∙ ap other_side (sym stands.book.sides) in
      let last : last_number held.book.window ≡ length m.history = IsWindow-last stands.since m.history held.book.window stands.book.window in
      let first : count after.book + 1 ≡ next_in m = ap (λ (p : Parts). count p + 1) (book_behind held (Ok tt) after old new step) ∙ ap (λ (k : ℕ). k + 1) last in
      let there : StandsFor after n =
      stands_as (Ok tt) step clean n (turned_on stands.since held.book (book_of m) after.book.transdb new stands.book (none (Ok tt) step clean) turned_log step.log.placed.1) refl (λ s. refl) refl refl refl
      (stands.format ∙ sym (ap (λ (h : Header). h.format) turned_log.header)) (λ whole. (stands_settled after.book.transdb (file_of 0 new) turned_log.stands).settled) in
      stepped_as (Ok tt) step clean n refl refl so (turn_told after (Ok tt)) (turns_as m (none (Ok tt) step clean) (clean_here (Ok tt) step clean) after.book.transdb.header.active (count after.book + 1) side first) there
      (record { rose_has = λ file risen. cc; before_has = λ risen. cc; at_has = λ risen. cc }) tt
      (turned_images (file_of 0 new) turned_log.stands (run_end 0 (EachImage (HoldsOneOf (IsOfTurn db) db.active.next m.history)) old new (turns (Ok tt) step clean).run) clean next turned_log.header so step.takes.first)
    where
      -- in the end each image has the turned header
      turned_images : (o : Option File) → Stands after.book.transdb o → EachImage (HoldsOneOf (IsOfTurn db) db.active.next m.history) o → db.header.other ≡ Clean → length m.history + 1 ≡ db.active.next
          → after.book.transdb.header ≡ turned db.active.next db.header → ((k : Header) → k ≡ turned db.active.next db.header → MayHaveSides (behind_turn m) (sides_of k)) → first_held db.header ≡ 1
          → EachImage (OpensBy (behind_turn m) m.history) o
      turned_images None stands_new each clean next header so first = tt
      turned_images (Some f) stands_new each clean next header so first = λ image is.
          let one = each image is in
          let own = (stands_new.2 image is).holds in
          let is_turned : one.0 ≡ turned db.active.next db.header = same_header after.book.transdb.header one.0 (entries_in (Some f)) one.2.entries image own one.2.holds ∙ header in
          opens_under (behind_turn m) db one.0 image stands.format next first clean (inr is_turned) (so one.0 is_turned) one.2

  by_fault : (step : TurnsHeld held (Err t.Fault) after old new) → Stepped m (OfControl line.Turn) (Fault 0) after old new
  by_fault step =
      let clean : db.header.other ≡ Clean = step.log.answer in
      let n : Machine = broken_off m in
      let same : SameSides db after.book.transdb = step.log.fault refl in
      let next : length m.history + 1 ≡ db.active.next = (fills (Err t.Fault) step clean).next in
      let either : (k : Header) → IsEither db k → MayHaveSides n (sides_of k) = λ k is. sides_either n db k refl stands.book.sides next clean is in
      let there : StandsFor after n =
      stands_as (Err t.Fault) step clean n (broken stands.since held.book (book_of m) after.book.transdb stands.book same) refl (λ s. refl) refl refl refl
      (stands.format ∙ sym (ap (λ (h : Header). h.format) same.header)) (λ whole. absurd (cc whole)) in
      stepped_as (Err t.Fault) step clean n refl refl (λ k is. either k (inr is)) (Fault 0) (faults_as m (none (Err t.Fault) step clean) (clean_here (Err t.Fault) step clean)) there
      (fault_causes old new (step.log.cause refl)) tt
      (broken_images (file_of 0 new) (run_end 0 (EachImage (HoldsOneOf (IsOfTurn db) db.active.next m.history)) old new (turns (Err t.Fault) step clean).run) clean next
      (λ f is k of_turn. either_told (Err t.Fault) step clean (file_of 0 old) (since (Err t.Fault) step clean) k of_turn
      (some_file (file_of 0 old) (file_of 0 new) f (step.log.only.only.told new.time step.log.only.only.later (omega arith)) is)) either step.takes.first)
    where
      -- in the end each image has the one header or the other
      broken_images : (o : Option File) → EachImage (HoldsOneOf (IsOfTurn db) db.active.next m.history) o → db.header.other ≡ Clean → length m.history + 1 ≡ db.active.next → ((f : File) → o ≡ Some f → (k : Header) → IsOfTurn db k → IsEither db k)
          → ((k : Header) → IsEither db k → MayHaveSides (broken_off m) (sides_of k)) → first_held db.header ≡ 1 → EachImage (OpensBy (broken_off m) m.history) o
      broken_images None each clean next is_either so first = tt
      broken_images (Some f) each clean next is_either so first = λ image is.
          let one = each image is in
          let k_is : IsEither db one.0 = is_either f refl one.0 one.1 in
          opens_under (broken_off m) db one.0 image stands.format next first clean k_is (so one.0 k_is) one.2

  -- NOTCLEAN
  by_unclean : (step : TurnsHeld held (Err t.NotClean) after old new) → Stepped m (OfControl line.Turn) NotClean after old new
  unfolding is_plain
  by_unclean step =
      let same = step.log.not_clean refl in
      let none : m.in_doubt ≡ None = none_halted held m stands step.takes.settled in
      let unclean : m.sides.other ≢ Clean = λ clean. step.log.answer (sym (ap (λ (s : Sides). s.other) stands.book.sides) ∙ clean) in
      let taken : Step m (OfControl line.Turn) (told_by NotClean) NotClean m =
      subst (λ (d : Option Entry). WorksUnless (first_of (doubt_refusal d ∷ unclean_refusal m.sides.other ∷ [])) m (told_by NotClean) line.Turn NotClean m) (sym none) (refuses m m.sides.other unclean) in
      let still : after ≡ held = step.rest ∙ ap (λ (d : Db). record held { book = record held.book { transdb = d } }) same.0 in
      stepped_nothing m line.Turn NotClean held after old new stands rests refl taken still same.1

  by_result : (result : Result ⊤ TransdbError) → TurnsHeld held result after old new → Stepped m (OfControl line.Turn) (turn_told after result) after old new
  by_result (Ok done) step = by_done step
  by_result (Err t.NotClean) step = by_unclean step
  by_result (Err t.Fault) step = by_fault step
  by_result (Err error) step = absurd step.log.answer

  by_halt : (halted : Option ℕ) (reply : Reply) → held.book.halted ≡ halted → HeldTurnsBy halted held reply after old new → Stepped m (OfControl line.Turn) reply after old new
  unfolding is_plain
  by_halt (Some number) reply is step =
      let taken : Step m (OfControl line.Turn) (told_by (Halted number)) (Halted number) m = halts m m.in_doubt number (sym stands.book.halted ∙ is) in
      subst (λ (r : Reply). Stepped m (OfControl line.Turn) r after old new) (sym step.0) (stepped_nothing m line.Turn (Halted number) held after old new stands rests refl taken step.1.0 step.1.1)
  by_halt None reply is step = subst (λ (r : Reply). Stepped m (OfControl line.Turn) r after old new) (sym step.1) (by_result step.0 step.2)

  not_built : (control : ControlLine) (reply : Reply) → Step m (OfControl control) (told_by NotYet) NotYet m → (reply ≡ NotYet) × ComesTo held after old new → Stepped m (OfControl control) reply after old new
  unfolding is_plain
  not_built control reply taken step = subst (λ (r : Reply). Stepped m (OfControl control) r after old new) (sym step.0) (stepped_nothing m control NotYet held after old new stands rests refl taken step.1.0 step.1.1)

  -- what it tells of itself, the machine tells
  told_state : state_held held ≡ state_of m
  told_state =
      ap (λ (first : ℕ). record {
        number = count held.book;
        active = db.header.active;
        other = db.header.other;
        first = first;
        log = None;
        copies = [];
      }) (sym (first_same db.header))
      ∙ ap (λ (number : ℕ). told_as number (sides_of db.header) Absent []) (IsWindow-last stands.since m.history held.book.window stands.book.window)
      ∙ ap (λ (sides : Sides). told_as (length m.history) sides Absent []) (sym stands.book.sides)
      ∙ ap (λ (log : Log). told_as (length m.history) m.sides log []) (sym stands.log)
      ∙ ap (λ (copies : List Copy). told_as (length m.history) m.sides m.log copies) (sym stands.copies)

  tells : (reply : Reply) → (reply ≡ TellsState (state_held held)) × ComesTo held after old new → Stepped m (OfControl line.State) reply after old new
  unfolding is_plain
  tells reply step =
      let taken : Step m (OfControl line.State) (told_by (TellsState (state_held held))) (TellsState (state_held held)) m = (ap TellsState told_state, refl) in
      subst (λ (r : Reply). Stepped m (OfControl line.State) r after old new) (sym step.0)
      (stepped_nothing m line.State (TellsState (state_held held)) held after old new stands rests refl taken step.1.0 step.1.1)

  pub stepped_control : (control : ControlLine) (reply : Reply) → HeldControls held control reply after old new → Stepped m (OfControl control) reply after old new
  stepped_control line.Turn reply step = by_halt held.book.halted reply refl step
  stepped_control line.State reply step = tells reply step
  stepped_control other reply step = not_built other reply refl step

-- what a control line leaves of the log and its file, whatever machine the system stands for

durable_halt : (halted : Option ℕ) (held after : Held) (reply : Reply) (old new : World) → IsDurable held (file_of 0 old) → HeldTurnsBy halted held reply after old new → IsDurable after (file_of 0 new)
durable_halt (Some number) held after reply old new durable step = durable_come held after old new durable step.1
durable_halt None held after reply old new durable step = durable_turned held step.0 after old new durable step.2

pub durable_control : (held after : Held) (control : ControlLine) (reply : Reply) (old new : World) → IsDurable held (file_of 0 old) → HeldControls held control reply after old new → IsDurable after (file_of 0 new)
durable_control held after line.Turn reply old new durable step = durable_halt held.book.halted held after reply old new durable step
durable_control held after line.State reply old new durable step = durable_come held after old new durable step.1
durable_control held after other reply old new durable step = durable_come held after old new durable step.1

only_come : (held after : Held) (old new : World) → ComesTo held after old new → ChangesLog old new
only_come held after old new comes = subst (λ (w : World). ChangesLog old w) (sym comes.1) (begins 0 (λ _. Unit {0}) old tt)

only_halt : (halted : Option ℕ) (held after : Held) (reply : Reply) (old new : World) → HeldTurnsBy halted held reply after old new → ChangesLog old new
only_halt (Some number) held after reply old new step = only_come held after old new step.1
only_halt None held after reply old new step = record { only = step.2.log.only.only; each = λ k from to. tt }

pub only_control : (held after : Held) (control : ControlLine) (reply : Reply) (old new : World) → HeldControls held control reply after old new → ChangesLog old new
only_control held after line.Turn reply old new step = only_halt held.book.halted held after reply old new step
only_control held after line.State reply old new step = only_come held after old new step.1
only_control held after other reply old new step = only_come held after old new step.1

-- what a system is behind a turn of its book

pub turns_halted : (held : Held) (number : ℕ) (w : World) → held.book.halted ≡ Some number → HeldTurns held (Halted number) held w w
turns_halted held number w is = subst (λ (d : Option ℕ). HeldTurnsBy d held (Halted number) held w w) (sym is) (refl, (refl, refl))

pub turns_with : (held : Held) (result : Result ⊤ TransdbError) (reply : Reply) (after : Held) (old new : World) → reply ≡ turn_told after result → TurnsHeld held result after old new → HeldTurns held reply after old new
turns_with held result reply after old new is step = subst (λ (d : Option ℕ). HeldTurnsBy d held reply after old new) (sym step.takes.settled) (result, is, step)

pub turns_held : (b now : Parts) (xs : List (Option Kept)) (rows : State) (result : Result ⊤ TransdbError) (old new : World) → b.halted ≡ None → first_held b.transdb.header ≡ 1 → IsAligned b → TurnsLog result b.transdb now.transdb old new
    → now ≡ record b { transdb = now.transdb } → TurnsHeld (record { book = without_place b; sessions = xs; rows = rows }) result (record { book = without_place now; sessions = xs; rows = rows }) old new
turns_held b now xs rows result old new settled first aligned log rest = record {
  takes = record { settled = settled; first = first; usable = aligned.usable settled };
  log = log;
  rest = ap (λ (p : Parts). record { book = without_place p; sessions = xs; rows = rows }) rest;
}

pub first_turned : (result : Result ⊤ TransdbError) (db d : Db) (old new : World) → TurnsLog result db d old new → first_held db.header ≡ 1 → first_held d.header ≡ 1
first_turned (Ok done) db d old new log first = ap first_held log.turned.header ∙ held_turned db.active.next db.header log.answer ∙ first
first_turned (Err t.NotClean) db d old new log first = ap (λ (x : Db). first_held x.header) (log.not_clean refl).0 ∙ first
first_turned (Err t.Fault) db d old new log first = ap first_held (log.fault refl).header ∙ first
first_turned (Err error) db d old new log first = absurd log.answer

-- a line that isn't built
pub other_line : (held : Held) (control : ControlLine) (w : World) → (control ≡ line.Turn → ⊥) → (control ≡ line.State → ⊥) → HeldControls held control NotYet held w w
other_line held line.Turn w other untold = absurd (other refl)
other_line held line.State w other untold = absurd (untold refl)
other_line held control w other untold = (refl, (refl, refl))
