-- Each step that the system takes is one of the machine, which keeps the files.
use Rattle.std.proofs.Common.{◌≡◌, ◌⊎◌, inl, inr, ℕ, zero, suc, ◌+◌, ◌-◌, ◌≤◌, ◌==◌, Bool, true, false, List, [], ◌∷◌, ◌++◌, length, Option, Some, None, Result, Ok, Err, sym, ◌∙◌, ap, subst, refl, arith, length-append}
use Rattle.std.specs.Prelude.{is_some, IfSome, if◌then◌else◌}
use Rattle.std.proofs.lemmas.Bool.Decides.{nat_tests}
use Rattle.odb_device.specs.World.{File, World, present, file_of}
use Rattle.odb_device.specs.Images.{IsImage, EachImage, TornFrom}
use Rattle.odb_device.specs.Moments.{Runs}
use Rattle.odb_device.specs.Steps.{Steps, IsQuiet}
use Rattle.odb_device.proofs.Time.{begins, weakens, run_end, rose_behind}
use Rattle.odb_device.proofs.Stretches.{steps_of_run}
use Rattle.odb_device.proofs.Torn.{each_weakens, stays_from}
use Rattle.odb_kept.specs.Kept.{KeptByEither}
use Rattle.odb_kept.proofs.Keeping.{step_kept, step_within, step_behind}
use Rattle.odb_reclog.specs.Standing.{Log}
use Rattle.odb_model.specs.declared.entry.Entry.{Entry}
use Rattle.odb_model.specs.declared.side.OtherSide.TheVariants.{Live, Dirty, Clean}
use Rattle.odb_model.specs.declared.event.Event.TheVariants.{Session as OfSession}
use Rattle.odb_model.specs.declared.reply.Head.TheVariants.{Session as HeadOf}
use Rattle.odb_model.specs.declared.reply.Reply.{Reply}
use Rattle.odb_model.specs.declared.reply.Reply.TheVariants.{Fault}
use Rattle.odb_model.specs.declared.statement.Statement.{Statement}
use Rattle.odb_model.specs.Script.{IsSession}
use Rattle.odb_machine.specs.Sides.{Sides, turned as turned_sides}
use Rattle.odb_machine.specs.Clearing.{next_in}
use Rattle.odb_machine.specs.Book.{Book}
use Rattle.odb_machine.specs.Machine.{Machine, book_of}
use Rattle.odb_codec.specs.Image.{entry_image}
use Rattle.odb_transdb.specs.declared.header.Header.{Header}
use Rattle.odb_transdb.specs.Header.{first_on, active_first, first_by, first_held, other_of, turned}
use Rattle.odb_transdb.specs.Opened.{Holds, holding, entries_in}
use Rattle.odb_transdb.specs.Standing.{Db, Stands}
use Rattle.odb_transdb.specs.Turning.{IsLeft, IsBeside, IsEnd, HoldsEnd, HoldsOneOf, StandsSince, SameSides, IsOfSettling}
use Rattle.odb_transdb.specs.Worlds.{WritesBehindGate, WritesFromGate, WritesRecord}
use Rattle.odb_transdb.proofs.Settling.{may_stand}
use Rattle.odb_transdb.proofs.Quiet.{left_one}
use Rattle.odb_commit.specs.declared.error.CommitError.{CommitError}
use Rattle.odb_commit.specs.declared.error.CommitError.TheVariants as e
use Rattle.odb_commit.specs.Sealing.{Forces, BreaksOff, SettlesFirst, SealsLog}
use Rattle.odb_commit.specs.Standing.{sides_of, Fills}
use Rattle.odb_commit.proofs.Records.{fills_same, sides_turned}
use Rattle.odb_system.specs.Held.{Held, StandsFor, Begins, Follows, HasCauses, HeldSeals, HeldRuns, sealing_reply, told_by}
use Rattle.odb_system.specs.Durable.{IsBrokenOff, StandsBy, IsDurable, Risen, ChangesLog}
use Rattle.odb_system.specs.Kept.{AreSidesBy, MayHaveSides, OpensBy, IsKept, Rests, SettlesPair, BehindPair, RoseFromGate, IsRoseFromGate, IsDoubtCaused, WritesWithinLog, StepWrites, Stepped}
use Rattle.odb_system.proofs.Carried.{is_plain, Moved, Effect, still, seals}
use Rattle.odb_system.proofs.Simulates.{Goes, goes}
use Rattle.odb_system.proofs.Running.{Did, did, only_log, stands_now, none_halted, upright_did}
use Rattle.odb_system.proofs.Keeping.{IsLogOf, kept_exact, kept_elsewhere, synced_image, same_entries, holds_history, rests_as, rests_exact, behind_none, still_writes, still_doubt, still_gate, still_causes, WritesSo, IsSoDoubted, IsAnswered, answered_by, fault_causes, sealed_so}

-- ends of lists

nil_of : (l : List Entry) → length l ≡ 0 → l ≡ []
nil_of [] is = refl
nil_of (x ∷ l) is = absurd (omega (arith, is))

-- the end of entries that go from 1 on is all of them
pub whole_end : (h : Header) (next : ℕ) (all es : List Entry) → first_held h ≡ 1 → IsEnd h next all es → length all + 1 ≡ next → es ≡ all
whole_end h next all es first end whole =
    let sizes : length all ≡ length end.front + length es = ap length end.all_is ∙ length-append end.front es in
    let none : end.front ≡ [] = nil_of end.front (omega (arith, sizes, end.count, first, whole)) in
    sym (end.all_is ∙ ap (λ (l : List Entry). l ++ es) none)

-- headers

-- a turn keeps the first number
some_zero : (a : ℕ) → (suc a == 0) ≡ false
some_zero a = grind (arith, nat_tests)

-- by whether side 0 was active
abbrev turned_if : Bool → ℕ → Header → Header
turned_if b n h = record { format = h.format; side_kib = h.side_kib; active = if b then 1 else 0; other = Live; first0 = if b then h.first0 else n; first1 = if b then n else h.first1 }

pub held_turned : (n : ℕ) (h : Header) → h.other ≡ Clean → first_held (turned n h) ≡ first_held h
held_turned n h clean = of_test (h.active == 0) ∙ of_active h.active ∙ sym (ap (first_by h) clean)
  where
    of_test : (b : Bool) → first_on (turned_if b n h) (other_of (turned_if b n h)) ≡ (if b then h.first0 else h.first1)
    of_test true = refl
    of_test false = refl

    of_active : (a : ℕ) → (if a == 0 then h.first0 else h.first1) ≡ first_on h a
    of_active zero = refl
    of_active (suc a) = ap (λ (b : Bool). if b then h.first0 else h.first1) (some_zero a)

-- the headers that a turn may leave
abbrev pub IsEither : Db → Header → Type 0
IsEither db k = (k ≡ db.header) ⊎ (k ≡ turned db.active.next db.header)

pub either_beside : (db : Db) (k : Header) → db.header.other ≡ Clean → IsBeside db.active.next db.header k → IsEither db k
either_beside db k clean (inl same) = inl same
either_beside db k clean (inr (inl begun)) = inr begun.1
either_beside db k clean (inr (inr dirty)) = let wrong : Dirty ≡ Clean = sym dirty.0 ∙ clean in absurd (cc wrong)

first_either : (db : Db) (k : Header) → first_held db.header ≡ 1 → db.header.other ≡ Clean → IsEither db k → first_held k ≡ 1
first_either db k first clean (inl same) = ap first_held same ∙ first
first_either db k first clean (inr is) = ap first_held is ∙ held_turned db.active.next db.header clean ∙ first

format_either : (db : Db) (k : Header) → IsEither db k → db.header.format ≡ k.format
format_either db k (inl same) = ap (λ (h : Header). h.format) (sym same)
format_either db k (inr is) = ap (λ (h : Header). h.format) (sym is)

-- a header that is left is one of them
pub beside_left : (db : Db) (all : List Entry) (f : File) (k : Header) → StandsSince db all (Some f) → IsLeft db k → IsBeside db.active.next db.header k
beside_left db all f k since (inl kept) =
    let one = (since.2 f.synced (synced_image f)).kept in
    let both : Some one.header ≡ Some k = sym one.is ∙ kept in
    subst (IsBeside db.active.next db.header) (let same : one.header ≡ k = cc both in same) one.beside
beside_left db all f k since (inr tried) =
    let one = (since.2 f.synced (synced_image f)).tried in
    let both : Some one.header ≡ Some k = sym one.is ∙ tried in
    subst (IsBeside db.active.next db.header) (let same : one.header ≡ k = cc both in same) one.beside

-- images under them, by a machine
pub opens_under : (n : Machine) (db : Db) (k : Header) (image : List ℕ) → n.format ≡ db.header.format → length n.history + 1 ≡ db.active.next → first_held db.header ≡ 1 → db.header.other ≡ Clean → IsEither db k → MayHaveSides n (sides_of k)
    → HoldsEnd k db.active.next n.history image → OpensBy n n.history image
opens_under n db k image format next first clean either sides end =
    let one : first_held k ≡ 1 = first_either db k first clean either in
    record {
      header = k;
      format = format ∙ format_either db k either;
      sides = sides;
      first = one;
      holds = subst (λ (es : List Entry). Holds k es image) (whole_end k db.active.next n.history end.entries one end.end next) end.holds;
    }

-- the sides of a turn are those of the machine behind it
pub turned_as : (m : Machine) (db : Db) (k : Header) → m.sides ≡ sides_of db.header → length m.history + 1 ≡ db.active.next → k ≡ turned db.active.next db.header → sides_of k ≡ turned_sides (next_in m) m.sides
turned_as m db k sides next is =
    ap sides_of is ∙ sides_turned db.active.next db.header ∙ ap (λ (n : ℕ). turned_sides n (sides_of db.header)) (sym next) ∙ ap (turned_sides (length m.history + 1)) (sym sides)

-- where a turn may have been broken off
pub sides_either : (m : Machine) (db : Db) (k : Header) → m.may_turn ≡ true → m.sides ≡ sides_of db.header → length m.history + 1 ≡ db.active.next → db.header.other ≡ Clean → IsEither db k → MayHaveSides m (sides_of k)
sides_either m db k turn sides next clean either =
    subst (λ (b : Bool). AreSidesBy b m.sides (next_in m) (sides_of k)) (sym turn) (by either)
  where
    by : IsEither db k → AreSidesBy true m.sides (next_in m) (sides_of k)
    by (inl same) = inl (sides ∙ ap sides_of (sym same))
    by (inr is) = inr (ap (λ (s : Sides). s.other) sides ∙ clean, turned_as m db k sides next is)

-- the log stands for the history

pub same_header : (h g : Header) (es gs : List Entry) (image : List ℕ) → Holds h es image → Holds g gs image → g ≡ h
same_header h g es gs image first second = let both : holding g gs ≡ holding h es = sym second ∙ first in cc

since_broken : (m : Machine) (db : Db) (o : Option File) → EachImage (OpensBy m m.history) o → IsBrokenOff db o → StandsSince db m.history o
since_broken m db None exact off = tt
since_broken m db (Some f) exact off =
    let is : IsImage f f.synced = synced_image f in
    let opens : OpensBy m m.history f.synced = exact f.synced is in
    let one : HoldsOneOf (IsLeft db) db.active.next off.entries f.synced = left_one db off.entries f.synced (off.since.2 f.synced is) in
    let same : one.2.entries ≡ m.history = same_entries opens.header one.0 m.history one.2.entries f.synced opens.holds one.2.holds in
    let header : one.0 ≡ opens.header = same_header opens.header one.0 m.history one.2.entries f.synced opens.holds one.2.holds in
    let whole : one.2.entries ≡ off.entries = whole_end one.0 db.active.next off.entries one.2.entries (ap first_held header ∙ opens.first) one.2.end off.whole in
    subst (λ (es : List Entry). StandsSince db es (Some f)) (sym whole ∙ same) off.since

since_settled : (m : Machine) (db : Db) (o : Option File) → EachImage (OpensBy m m.history) o → Stands db o → StandsSince db m.history o
since_settled m db None exact stands = tt
since_settled m db (Some f) exact stands = subst (λ (es : List Entry). StandsSince db es (Some f)) (holds_history m db (Some f) exact stands) (may_stand db (Some f) stands)

pub since_by : (settled : Bool) (m : Machine) (db : Db) (o : Option File) → EachImage (OpensBy m m.history) o → StandsBy settled db o → StandsSince db m.history o
since_by true m db o exact stands = since_settled m db o exact stands
since_by false m db o exact off = since_broken m db o exact off

-- what is known of each image of a told file, along a stretch
pub told_run : (Q R : List ℕ → Type 0) (old new : World) → IfSome (file_of 0 old) (λ f. (image : List ℕ) → Q image → R image) → Runs 0 (EachImage Q) old new → Runs 0 (EachImage R) old new
told_run Q R old new step run = record {
  only = run.only;
  each = λ k from to. of_files (file_of 0 old) ((new.moment k).files 0) (run.only.told k from to) step (run.each k from to);
}
  where
    of_files : (o p : Option File) → is_some p ≡ is_some o → IfSome o (λ f. (image : List ℕ) → Q image → R image) → EachImage Q p → EachImage R p
    of_files o None told step each = tt
    of_files None (Some g) told step each = cc
    of_files (Some f) (Some g) told step each = λ image is. step image (each image is)

-- a step in which an entry was sealed

-- what is told of a step that is answered so to a session
pub record Outcome (m n : Machine) (reply : Reply) (old new : World) : Type 0 where
  pub keeps : Steps (KeptByEither (IsKept m) (IsKept n)) old new
  pub rests_so : Rests n (present new)
  pub writes : (s : ℕ) → StepWrites m (HeadOf s) reply old new
  pub doubt : IsDoubtCaused m reply n old new
  pub gate : (told_by reply).rose_at_gate ≡ true → IsRoseFromGate m n old new
  pub causes : HasCauses (Risen old new) (told_by reply)

module _ (m n : Machine) (old mid new : World) (wrap : (Goes : World → World → Type 0) → Goes mid new → BehindPair m.may_turn m Goes old new) where
  writes_out : (s : ℕ) (result : Result ℕ CommitError) → IsAnswered result → WritesSo m (sealing_reply result) mid new → StepWrites m (HeadOf s) (sealing_reply result) old new
  writes_out s (Ok number) answered writes = wrap (WritesWithinLog WritesRecord m) writes
  writes_out s (Err e.FaultBefore) answered writes = wrap (WritesWithinLog WritesBehindGate m) writes
  writes_out s (Err (e.InDoubt number)) answered writes = wrap (WritesWithinLog WritesFromGate m) writes
  writes_out s (Err error) answered writes = absurd answered

  doubt_out : (result : Result ℕ CommitError) → IsAnswered result → IsSoDoubted m (sealing_reply result) n mid new → IsDoubtCaused m (sealing_reply result) n old new
  doubt_out (Ok number) answered doubt = tt
  doubt_out (Err e.FaultBefore) answered doubt = tt
  doubt_out (Err (e.InDoubt number)) answered doubt = wrap (RoseFromGate m n) doubt
  doubt_out (Err error) answered doubt = absurd answered

  gate_out : (result : Result ℕ CommitError) → IsAnswered result → IsSoDoubted m (sealing_reply result) n mid new → (told_by (sealing_reply result)).rose_at_gate ≡ true → IsRoseFromGate m n old new
  gate_out (Ok number) answered doubt rose = cc
  gate_out (Err e.FaultBefore) answered doubt rose = cc
  gate_out (Err (e.InDoubt number)) answered doubt rose = wrap (RoseFromGate m n) doubt
  gate_out (Err error) answered doubt rose = absurd answered

module _ (m : Machine) (held after : Held) (old new : World) (stands : StandsFor held m) (rests : Rests m (present old)) (durable : IsDurable held (file_of 0 old)) (x : Entry)
    (result : Result ℕ CommitError) (step : HeldSeals held x result after old new) (n : Machine) (moved : Moved result x (book_of m) (book_of n)) (format : n.format ≡ m.format) (turn : n.may_turn ≡ m.may_turn) where
  abbrev db : Db
  db = held.book.transdb

  none : m.in_doubt ≡ None
  none = none_halted held m stands step.log.settled

  exact : EachImage (OpensBy m m.history) (file_of 0 old)
  exact = rests.exact none

  fills : Fills db m.history
  fills = stands.book.log none

  is_log : IsLogOf m db
  is_log = record { format = stands.format; sides = stands.book.sides; first = step.log.first }

  begun : Begins db m.history
  begun = record { numbered = stands.book.numbered; first = step.log.first; next = fills.next; filled = fills.filled; usable = step.log.usable; placed = fills.placed }

  answered : IsAnswered result
  answered = answered_by x result held.book after.book step.sealed

  -- where the pair is settled
  by_settled : Stands db (file_of 0 old) → Outcome m n (sealing_reply result) old new
  by_settled settled =
      let so = sealed_so m db after.book.transdb old new is_log begun none settled exact x result n (step.seals.forces settled) moved format turn answered in
      let wrap : (Goes : World → World → Type 0) → Goes old new → BehindPair m.may_turn m Goes old new = λ Goes goes. behind_none m.may_turn m Goes old new exact goes in
      record {
        keeps = so.keeps;
        rests_so = so.rests_so;
        writes = λ s. writes_out m n old old new wrap s result answered so.writes;
        doubt = doubt_out m n old old new wrap result answered so.doubt;
        gate = gate_out m n old old new wrap result answered so.doubt;
        causes = so.causes;
      }

  -- where a turn was broken off
  module _ (off : IsBrokenOff db (file_of 0 old)) (may : m.may_turn ≡ true) where
    since : StandsSince db m.history (file_of 0 old)
    since = since_broken m db (file_of 0 old) exact off

    s : SettlesFirst x (entry_image x) m.history result db after.book.transdb old new
    s = step.seals.settles m.history since

    same : SameSides db s.settled
    same = s.settling.sides

    of_image : (o : Option File) → StandsSince db m.history o → IfSome o (λ f. (image : List ℕ) → HoldsOneOf (IsOfSettling db) db.active.next m.history image → OpensBy m m.history image)
    of_image None since = tt
    of_image (Some f) since = λ image one.
        let either : IsEither db one.0 = elim one.1 as (λ _. IsEither db one.0) [
          | inl left ↦ either_beside db one.0 off.clean (beside_left db m.history f one.0 since left)
          | inr own ↦ inl own
        ] in
        opens_under m db one.0 image stands.format fills.next step.log.first off.clean either (sides_either m db one.0 may stands.book.sides fills.next off.clean either) one.2

    settles : SettlesPair m old s.mid
    settles = record {
      only = s.settling.only;
      keeps = told_run (HoldsOneOf (IsOfSettling db) db.active.next m.history) (OpensBy m m.history) old s.mid (of_image (file_of 0 old) since) s.settling.run;
    }

    exact_mid : EachImage (OpensBy m m.history) (file_of 0 s.mid)
    exact_mid = run_end 0 (EachImage (OpensBy m m.history)) old s.mid settles.keeps

    keeps_mid : Runs 0 (EachImage (IsKept m 0)) old s.mid
    keeps_mid = weakens 0 (EachImage (OpensBy m m.history)) (EachImage (IsKept m 0)) old s.mid (λ o. each_weakens (OpensBy m m.history) (IsKept m 0) o (kept_exact m)) settles.keeps

    wrap_mid : (Goes : World → World → Type 0) → Goes s.mid new → BehindPair m.may_turn m Goes old new
    wrap_mid Goes goes = subst (λ (b : Bool). BehindPair b m Goes old new) (sym may) (s.mid, settles, goes)

    is_log_mid : IsLogOf m s.settled
    is_log_mid = record {
      format = stands.format ∙ ap (λ (h : Header). h.format) (sym same.header);
      sides = stands.book.sides ∙ ap sides_of (sym same.header);
      first = ap first_held same.header ∙ step.log.first;
    }

    begun_mid : Begins s.settled m.history
    begun_mid =
        let on : Fills s.settled m.history = fills_same db s.settled m.history fills same in
        record {
          numbered = stands.book.numbered;
          first = ap first_held same.header ∙ step.log.first;
          next = on.next;
          filled = on.filled;
          usable = ap (λ (l : Log). l.in_doubt) same.active ∙ step.log.usable;
          placed = on.placed;
        }

    -- it was settled, and what follows is as from a settled one
    by_forced : Stands s.settled (file_of 0 s.mid) → Forces x (entry_image x) result s.settled after.book.transdb s.mid new → Outcome m n (sealing_reply result) old new
    by_forced settled forces =
        let so = sealed_so m s.settled after.book.transdb s.mid new is_log_mid begun_mid none settled exact_mid x result n forces moved format turn answered in
        record {
          keeps = step_behind (IsKept m) (IsKept n) old s.mid new (step_within (IsKept m) 0 old s.mid rests.keeps keeps_mid) so.keeps;
          rests_so = so.rests_so;
          writes = λ q. writes_out m n old s.mid new wrap_mid q result answered so.writes;
          doubt = doubt_out m n old s.mid new wrap_mid result answered so.doubt;
          gate = gate_out m n old s.mid new wrap_mid result answered so.doubt;
          causes = causes_behind result answered so.causes;
        }
      where
        -- what rose behind rose in all
        causes_behind : (r : Result ℕ CommitError) → IsAnswered r → HasCauses (Risen s.mid new) (told_by (sealing_reply r)) → HasCauses (Risen old new) (told_by (sealing_reply r))
        causes_behind r answered causes = record {
          rose_has = λ file risen. rose_behind 0 file old s.mid new s.settling.only.only (causes.rose_has file risen);
          before_has = λ risen. rose_behind 0 0 old s.mid new s.settling.only.only (causes.before_has risen);
          at_has = λ risen. rose_behind 0 0 old s.mid new s.settling.only.only (causes.at_has risen);
        }

    -- or settling it broke off
    by_broken : (broke : BreaksOff result s.settled after.book.transdb old s.mid new) → Outcome m n (sealing_reply result) old new
    by_broken broke =
        subst (λ (r : Result ℕ CommitError). Outcome m n (sealing_reply r) old new) (sym broke.fault)
        (subst (λ (w : World). Outcome m n (Fault 0) old w) (sym broke.nothing) at_mid)
      where
        stays : book_of n ≡ book_of m
        stays = subst (λ (r : Result ℕ CommitError). Moved r x (book_of m) (book_of n)) broke.fault moved

        still_there : WritesWithinLog WritesBehindGate m s.mid s.mid
        still_there = record {
          log = db;
          format = stands.format;
          sides = stands.book.sides;
          begins = begun;
          only = begins 0 (TornFrom (db.active.place + 1) (db.active.end - (db.active.place + 1)) (file_of 0 s.mid)) s.mid
              (stays_from (db.active.place + 1) (db.active.end - (db.active.place + 1)) (file_of 0 s.mid) (file_of 0 s.mid) refl);
        }

        rests_mid : Rests m (present s.mid)
        rests_mid = rests_exact m (present s.mid) exact_mid

        at_mid : Outcome m n (Fault 0) old s.mid
        at_mid = record {
          keeps = step_kept (IsKept m) (IsKept n) 0 old s.mid (kept_elsewhere m (present old)) (kept_elsewhere n (present old))
              (weakens 0 (EachImage (IsKept m 0)) (EachImage (λ image. IsKept m 0 image ⊎ IsKept n 0 image)) old s.mid (λ o. each_weakens (IsKept m 0) (λ image. IsKept m 0 image ⊎ IsKept n 0 image) o (λ image kept. inl kept)) keeps_mid);
          rests_so = rests_as m n stays format turn (present s.mid) rests_mid;
          writes = λ q. subst (λ (b : Bool). BehindPair b m (WritesWithinLog WritesBehindGate m) old s.mid) (sym may) (s.mid, settles, still_there);
          doubt = tt;
          gate = λ rose. cc;
          causes = fault_causes old s.mid broke.rose;
        }

    by_off : Outcome m n (sealing_reply result) old new
    by_off = elim s.rest as (λ _. Outcome m n (sealing_reply result) old new) [ inl f ↦ by_forced f.0 f.1 | inr broke ↦ by_broken broke ]

  -- either way
  by_pair : (settled : Bool) (may : Bool) → db.pair.settled ≡ settled → m.may_turn ≡ may → StandsBy settled db (file_of 0 old) → Outcome m n (sealing_reply result) old new
  by_pair true may is turns now = by_settled now
  by_pair false true is turns off = by_off off turns
  by_pair false false is turns off = let wrong : false ≡ true = sym is ∙ stands.settled none turns in absurd (cc wrong)

  pub outcome : Outcome m n (sealing_reply result) old new
  outcome = by_pair db.pair.settled m.may_turn refl refl (stands_now held (file_of 0 old) step.log.settled durable)

-- a step that the system took is one of the machine, which keeps the files
module _ (m : Machine) (held after : Held) (old new : World) (stands : StandsFor held m) (rests : Rests m (present old)) (durable : IsDurable held (file_of 0 old)) where
  module _ (s : ℕ) (st : Statement) (reply : Reply) (only : ChangesLog old new) (gone : Goes m s st reply held after old new) where
    abbrev follows_by : HasCauses (Risen old new) (told_by reply) → Follows (Risen old new) m (OfSession s st) reply after
    follows_by causes = record { seen = told_by reply; told = refl; causes = causes; after = gone.next; step = gone.step; stands = gone.stands }

    quiet_by : IsQuiet old new
    quiet_by = (steps_of_run 0 (λ _. Unit {0}) old new only).1

    stepped_still : new ≡ old → is_plain reply ≡ true → book_of gone.next ≡ book_of m → Stepped m (OfSession s st) reply after old new
    stepped_still same plain book =
        let run : Runs 0 (EachImage (λ image. IsKept m 0 image ⊎ IsKept gone.next 0 image)) old new =
        subst (λ (w : World). Runs 0 (EachImage (λ image. IsKept m 0 image ⊎ IsKept gone.next 0 image)) old w) (sym same)
        (begins 0 (EachImage (λ image. IsKept m 0 image ⊎ IsKept gone.next 0 image)) old (each_weakens (IsKept m 0) (λ image. IsKept m 0 image ⊎ IsKept gone.next 0 image) (file_of 0 old) (λ image is. inl is) (rests.keeps 0))) in
        record {
          follows = follows_by (still_causes reply old new plain);
          doubt = still_doubt m gone.next reply old new plain;
          from_gate = λ risen. absurd (still_gate reply plain risen);
          writes = still_writes m (HeadOf s) reply old new plain same;
          keeps = step_kept (IsKept m) (IsKept gone.next) 0 old new (kept_elsewhere m (present old)) (kept_elsewhere gone.next (present old)) run;
          quiet = quiet_by;
          rests = rests_as m gone.next book gone.format gone.turn (present new) (subst (λ (w : World). Rests m (present w)) (sym same) rests);
        }

    stepped_sealed : (x : Entry) (result : Result ℕ CommitError) → reply ≡ sealing_reply result → HeldSeals held x result after old new → Moved result x (book_of m) (book_of gone.next) → Stepped m (OfSession s st) reply after old new
    stepped_sealed x result is step moved =
        let so : Outcome m gone.next reply old new =
        subst (λ (r : Reply). Outcome m gone.next r old new) (sym is) (outcome m held after old new stands rests durable x result step gone.next moved gone.format gone.turn) in
        record {
          follows = follows_by so.causes;
          doubt = so.doubt;
          from_gate = so.gate;
          writes = so.writes s;
          keeps = so.keeps;
          quiet = quiet_by;
          rests = so.rests_so;
        }

    stepped_by : Effect held (book_of m) reply after (book_of gone.next) old new → Stepped m (OfSession s st) reply after old new
    stepped_by (still same plain book) = stepped_still same plain book
    stepped_by (seals x result is step moved) = stepped_sealed x result is step moved

  pub stepped : (s : ℕ) (st : Statement) (reply : Reply) → IsSession s → HeldRuns held (s - 1) st reply after old new → Stepped m (OfSession s st) reply after old new
  stepped s st reply in_range runs =
      let what : Did held after old new = did held (s - 1) st reply after old new runs in
      let gone : Goes m s st reply held after old new = goes m s in_range held stands st reply after old new runs (upright_did m held after old new stands durable what) in
      stepped_by s st reply (only_log held after old new durable what) gone gone.effect
