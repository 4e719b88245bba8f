use Rattle.std.proofs.Common.{◌≡◌, ◌≢◌, ℕ, ◌+◌, ◌-◌, ◌++◌, false, List, length, drop, Option, Some, Result, Ok, Err, refl, sym, ◌∙◌, ap, subst, arith}
use Rattle.std.specs.Prelude.{IfSome}
use Rattle.std.proofs.lemmas.Result.{err_from_is_err_and}
use Rattle.odb_device.specs.World.{File, file_of}
use Rattle.odb_device.proofs.Time.{run_end, rose_behind}
use Rattle.odb_reclog.specs.Standing.{Log}
use Rattle.odb_model.specs.declared.entry.Entry.{Entry}
use Rattle.odb_model.specs.State.{IsNumberedFrom}
use Rattle.odb_model.specs.Width.{records_width}
use Rattle.odb_transdb.specs.declared.error.TransdbError.{TransdbError}
use Rattle.odb_transdb.specs.declared.opening.LiveSide.{LiveSide}
use Rattle.odb_transdb.specs.declared.opening.OpenedTransdb.{OpenedTransdb}
use Rattle.odb_transdb.specs.declared.error.TransdbError.TheVariants.{NoDatabase, Damaged, Full, FaultBefore, InDoubt, NotClean, Held, Fault, NoMemory}
use Rattle.odb_transdb.specs.Header.{side_start, side_end, first_on, active_first, first_held}
use Rattle.odb_transdb.specs.Opened.{Opened, holding, opened}
use Rattle.odb_transdb.specs.Answers.{IsFullAnswer, IsReadRefusal, ClosesGates}
use Rattle.odb_transdb.specs.Opening.{EndsRight, KeepsSide}
use Rattle.odb_transdb.proofs.Opens.{gates_none, gates_then}
use Rattle.odb_transdb.proofs.Leaving.{reads_opens, never_none, refused_left, done_left}
use Rattle.odb_transdb.specs.Worlds.{OnlyClosesGates}
use Rattle.odb_transdb.proofs.Opened.{HasHeader}
use Rattle.odb_transdb.proofs.Gates.{gates_read, gates_live, active_same, gates_active}
use Rattle.odb_transdb.specs.Kept.{AreKept, AreKeptIn, AreWithin}
use Rattle.odb_transdb.proofs.Standing.{keeps_torn, some_first, other_kept, live_side}
use Rattle.odb_transdb.proofs.Placed.{told_live, each_live, has_places}
use Rattle.odb_transdb.proofs.Begun.{IsOfPair, IsBegun, begun_first, begun_live, begun_active, based_first, has_first, low_side, whole_side, lives_on}
use Rattle.odb_transdb.proofs.Headers.{lawful_is}
use Rattle.odb_transdb.proofs.Shown.{live_still, all_numbered, active_width}
use Rattle.odb_transdb.proofs.Finds.{refused_check, refused_live, AreOpen, HasFront, refused_rest, found_all, read_all, made, stands_sides, entries_sides}
use Rattle.odb_transdb.proofs.opening.open_sides.Given.{Over}
use Rattle.odb_transdb.proofs.opening.open_sides.Goals as goal
use Rattle.odb_transdb.proofs.opening.open_sides.Goals.{After-check_sides, After-open_live, After-open_active, In_ok-active}

of : (g : Over) (c : After-check_sides g) → IsOfPair c.args.pair c.args.header
of g c = record { lawful = c.requires.found.lawful; value = c.requires.found.value }

-- after the other side was looked at
begun : (g : Over) (c : After-open_live g) (of : IsOfPair c.args.pair c.args.header) → IsBegun c.args.pair c.args.header of (g.S.Outside.world c.args.store.now) (g.S.Outside.world c.open_live.new.store)
begun g c of =
    let w = g.S.Outside.world c.args.store.now in
    let w1 = g.S.Outside.world c.check_sides.new.store in
    let reads = g.met.S.Store.reads_image c.args.store.now 0 in
    let first = begun_first c.args.pair c.args.header of w w1 reads c.requires.found.kept c.requires.found.stands c.requires.found.found c.in_ok-check_sides.ensures.told c.check_sides.ensures.run in
    begun_live c.args.pair c.args.header of w w1 (g.S.Outside.world c.open_live.new.store) reads first c.open_live.ensures.leaves.live c.open_live.ensures.leaves.quiet

-- a refusal that `?` hands on
abbrev Holding : OpenedTransdb → Opened → Type 0
Holding found what = what ≡ holding found.transdb.header found.entries

handed : (Q : Result OpenedTransdb TransdbError → Type 0) (r : Result OpenedTransdb TransdbError) (e : TransdbError) → r ≡ Err e → Q (Err e) → Q r
handed Q r e is q = subst Q (sym is) q

abbrev Answers : Option File → Result OpenedTransdb TransdbError → Type 0
Answers o r = IfSome o (λ f. IsFullAnswer r (opened f.bytes))

pub returns-in_err-check_sides-clause-answer : goal.returns-in_err-check_sides-clause-answer
returns-in_err-check_sides-clause-answer g c =
    let o = file_of 0 (g.S.Outside.world c.args.store.now) in
    let e = c.in_err-check_sides.field-0.0 in
    let p = err_from_is_err_and c.from_residual.result c.from_residual.ensures.1 in
    handed (Answers o) c.from_residual.result e (p.1 ∙ ap Err p.2)
    (refused_check Holding c.args.pair c.args.header o e (of g (goal.at.returns-in_err-check_sides-clause-answer g c).After-check_sides) c.requires.found.found c.in_err-check_sides.ensures.told)

pub returns-in_err-other-clause-answer : goal.returns-in_err-other-clause-answer
returns-in_err-other-clause-answer g c =
    let w = g.S.Outside.world c.args.store.now in
    let w1 = g.S.Outside.world c.check_sides.new.store in
    let o = file_of 0 w in
    let e = c.in_err-other.field-0.0 in
    let p = err_from_is_err_and c.from_residual-in_err-other.result c.from_residual-in_err-other.ensures.1 in
    let is = of g (goal.at.returns-in_err-other-clause-answer g c).After-check_sides in
    let based = based_first c.args.pair c.args.header is o c.requires.found.kept c.requires.found.stands c.requires.found.found c.in_ok-check_sides.ensures.told in
    handed (Answers o) c.from_residual-in_err-other.result e (p.1 ∙ ap Err p.2)
    (refused_live (λ f (found : LiveSide) (what : Opened). EndsRight c.args.header f.bytes) Holding c.args.pair c.args.header o (file_of 0 w1) e (run_end 0 (λ f. f ≡ o) w w1 c.check_sides.ensures.run)
    (g.met.S.Store.reads_image c.args.store.now 0) based c.in_err-other.ensures.told)

-- after the active side was read
further : (g : Over) (c : After-open_active g) (of : IsOfPair c.args.pair c.args.header) → IsBegun c.args.pair c.args.header of (g.S.Outside.world c.args.store.now) (g.S.Outside.world c.open_live.new.store)
    → IsBegun c.args.pair c.args.header of (g.S.Outside.world c.args.store.now) (g.S.Outside.world c.open_active.new.store)
further g c of so_far =
    begun_active c.args.pair c.args.header of (g.S.Outside.world c.args.store.now) (g.S.Outside.world c.open_live.new.store) (g.S.Outside.world c.open_active.new.store) (g.met.S.Store.reads_image c.args.store.now 0) so_far c.open_active.ensures.leaves.run

-- a log that begins where the active side's does
abbrev some_log : ℕ → Log
some_log first = record {
  file = 0;
  start = 0;
  end = 0;
  first = first;
  place = 0;
  next = 0;
  clear_from = 0;
  touched = false;
  has_body = false;
  in_doubt = false;
}

-- the entries of the other side stand as they were read
front : (g : Over) (c : After-open_active g) (of : IsOfPair c.args.pair c.args.header) → IsBegun c.args.pair c.args.header of (g.S.Outside.world c.args.store.now) (g.S.Outside.world c.open_active.new.store)
    → HasFront c.args.pair c.args.header c.in_ok-other.other.entries.items (file_of 0 (g.S.Outside.world c.args.store.now)) (file_of 0 (g.S.Outside.world c.open_active.new.store))
front g c of so_far =
    let h = c.args.header in
    let w2 = g.S.Outside.world c.open_live.new.store in
    let w3 = g.S.Outside.world c.open_active.new.store in
    let active = some_log (active_first h) in
    let at = side_start h h.active in
    let n = side_end h h.active - side_start h h.active in
    let keeps = run_end 0 (KeepsSide h h.active (file_of 0 w2)) w2 w3 c.open_active.ensures.leaves.run in
    let torn = keeps_torn (side_start h h.active) (side_end h h.active) (first_on h h.active) at n (file_of 0 w2) (file_of 0 w3) keeps in
    let reads = g.met.S.Store.reads_image c.open_active.new.store 0 in
    record {
      based = so_far.based;
      told = so_far.run.only.told w3.time so_far.run.only.later (omega arith);
      reads = reads;
      read = live_still h c.in_ok-other.other.log active at n c.in_ok-other.other.entries.items (file_of 0 w2) (file_of 0 w3) (low_side c.args.pair h of) (whole_side c.args.pair h of h.active)
          (c.in_ok-other.ensures.opened.log active refl) c.in_ok-other.ensures.opened.stands torn reads c.in_ok-other.ensures.opened.read;
      count = c.in_ok-other.ensures.opened.numbers.1;
    }

pub returns-in_err-active-clause-answer : goal.returns-in_err-active-clause-answer
returns-in_err-active-clause-answer g c =
    let at = goal.at.returns-in_err-active-clause-answer g c in
    let is = of g at.After-check_sides in
    let so_far = further g at.After-open_active is (begun g at.After-open_live is) in
    let o = file_of 0 (g.S.Outside.world c.args.store.now) in
    let e = c.in_err-active.field-0.0 in
    let p = err_from_is_err_and c.from_residual-in_err-active.result c.from_residual-in_err-active.ensures.1 in
    handed (Answers o) c.from_residual-in_err-active.result e (p.1 ∙ ap Err p.2)
    (refused_rest c.args.pair c.args.header c.in_ok-other.other.entries.items {T = Log} (λ all _. c.open_active.new.entries.items ≡ c.in_ok-other.other.entries.items ++ all) Holding o
    (file_of 0 (g.S.Outside.world c.open_active.new.store)) e (front g at.After-open_active is so_far) c.in_err-active.ensures.told)

-- the bytes keep the header that the pair was found to keep
has_header : (g : Over) (c : After-open_live g) → IsOfPair c.args.pair c.args.header → IfSome (file_of 0 (g.S.Outside.world c.args.store.now)) (λ f. HasHeader c.args.header f.bytes)
has_header g c of =
    let o = file_of 0 (g.S.Outside.world c.args.store.now) in
    has_first c.args.pair c.args.header of o (g.met.S.Store.reads_image c.args.store.now 0)
    (based_first c.args.pair c.args.header of o c.requires.found.kept c.requires.found.stands c.requires.found.found c.in_ok-check_sides.ensures.told)

-- the gates, after the other side was looked at
first_gates : (g : Over) (c : After-open_live g) → IsOfPair c.args.pair c.args.header → OnlyClosesGates (g.S.Outside.world c.args.store.now) (g.S.Outside.world c.open_live.new.store)
first_gates g c of =
    let w = g.S.Outside.world c.args.store.now in
    let w1 = g.S.Outside.world c.check_sides.new.store in
    let look = c.check_sides.ensures.run in
    gates_live c.args.header (low_side c.args.pair c.args.header of) w w1 (g.S.Outside.world c.open_live.new.store) (has_header g c of) (run_end 0 (λ f. f ≡ file_of 0 w) w w1 look) look
    c.open_live.ensures.leaves.gate c.open_live.ensures.leaves.quiet

-- whatever the active side's log answered
both_gates : (g : Over) (c : After-open_active g) (of : IsOfPair c.args.pair c.args.header) → IsBegun c.args.pair c.args.header of (g.S.Outside.world c.args.store.now) (g.S.Outside.world c.open_live.new.store)
    → IfSome (file_of 0 (g.S.Outside.world c.args.store.now)) (λ f. HasHeader c.args.header f.bytes) → OnlyClosesGates (g.S.Outside.world c.args.store.now) (g.S.Outside.world c.open_live.new.store)
    → OnlyClosesGates (g.S.Outside.world c.args.store.now) (g.S.Outside.world c.open_active.new.store)
both_gates g c of so_far has gates =
    let h = c.args.header in
    let w = g.S.Outside.world c.args.store.now in
    let w1 = g.S.Outside.world c.check_sides.new.store in
    let w2 = g.S.Outside.world c.open_live.new.store in
    let low = low_side c.args.pair h of in
    let look = c.check_sides.ensures.run in
    let same = active_same h low w w1 w2 has (run_end 0 (λ f. f ≡ file_of 0 w) w w1 look) look c.requires.found.kept (g.met.S.Store.reads_image c.open_live.new.store 0) c.open_live.ensures.leaves.live c.open_live.ensures.leaves.quiet in
    gates_active h low w w2 (g.S.Outside.world c.open_active.new.store) has (so_far.run.only.told w2.time so_far.run.only.later (omega arith)) same gates c.open_active.ensures.leaves.gate

-- the bytes, where the active side's log had no fault
bytes : (g : Over) (c : After-open_active g) (of : IsOfPair c.args.pair c.args.header) → IsBegun c.args.pair c.args.header of (g.S.Outside.world c.args.store.now) (g.S.Outside.world c.open_live.new.store)
    → c.open_active.result ≢ Err Fault → ClosesGates (file_of 0 (g.S.Outside.world c.args.store.now)) (file_of 0 (g.S.Outside.world c.open_active.new.store))
bytes g c of so_far whole =
    let w = g.S.Outside.world c.args.store.now in
    let w1 = g.S.Outside.world c.check_sides.new.store in
    let w2 = g.S.Outside.world c.open_live.new.store in
    let w3 = g.S.Outside.world c.open_active.new.store in
    let first : ClosesGates (file_of 0 w) (file_of 0 w2) =
    subst (λ (o : Option File). ClosesGates o (file_of 0 w2)) (run_end 0 (λ f. f ≡ file_of 0 w) w w1 c.check_sides.ensures.run)
    (c.in_ok-other.ensures.leaves.closed (λ (e : Ok c.in_ok-other.other ≡ Err Fault). absurd (cc e))) in
    let told = so_far.run.only.told w2.time so_far.run.only.later (omega arith) in
    gates_then (file_of 0 w) (file_of 0 w2) (file_of 0 w3) told first (c.open_active.ensures.leaves.closed whole)

pub returns-in_err-check_sides-clause-leaves : goal.returns-in_err-check_sides-clause-leaves
returns-in_err-check_sides-clause-leaves g c =
    let w = g.S.Outside.world c.args.store.now in
    let w1 = g.S.Outside.world c.check_sides.new.store in
    let look = c.check_sides.ensures.run in
    let p = err_from_is_err_and c.from_residual.result c.from_residual.ensures.1 in
    refused_left c.from_residual.result c.in_err-check_sides.field-0.0 w w1 (p.1 ∙ ap Err p.2) (reads_opens w w1 look) (gates_read w w1 look)
    (λ other. gates_none (file_of 0 w) (file_of 0 w1) (run_end 0 (λ f. f ≡ file_of 0 w) w w1 look)) (λ none. absurd (never_none (Unit {0}) c.in_err-check_sides.field-0.0 c.in_err-check_sides.ensures.fails.0 none))

pub returns-in_err-other-clause-leaves : goal.returns-in_err-other-clause-leaves
returns-in_err-other-clause-leaves g c =
    let at = goal.at.returns-in_err-other-clause-leaves g c in
    let is = of g at.After-check_sides in
    let w = g.S.Outside.world c.args.store.now in
    let w1 = g.S.Outside.world c.check_sides.new.store in
    let w2 = g.S.Outside.world c.open_live.new.store in
    let e = c.in_err-other.field-0.0 in
    let p = err_from_is_err_and c.from_residual-in_err-other.result c.from_residual-in_err-other.ensures.1 in
    refused_left c.from_residual-in_err-other.result e w w2 (p.1 ∙ ap Err p.2) (begun g at.After-open_live is).run (first_gates g at.After-open_live is)
    (λ other.
    subst (λ (o : Option File). ClosesGates o (file_of 0 w2)) (run_end 0 (λ f. f ≡ file_of 0 w) w w1 c.check_sides.ensures.run)
    (c.open_live.ensures.leaves.closed (λ same. other (cc (c.in_err-other.was, same))))) (λ none. absurd (never_none LiveSide e c.in_err-other.ensures.fails.0 none))

-- want of memory for the places, once the other side was looked at
pub returns-in_err-places-clause-leaves : goal.returns-in_err-places-clause-leaves
returns-in_err-places-clause-leaves g c =
    let at = goal.at.returns-in_err-places-clause-leaves g c in
    let is = of g at.After-check_sides in
    let w = g.S.Outside.world c.args.store.now in
    let w1 = g.S.Outside.world c.check_sides.new.store in
    let w2 = g.S.Outside.world c.open_live.new.store in
    let p = err_from_is_err_and c.from_residual-in_err-places.result c.from_residual-in_err-places.ensures.1 in
    refused_left c.from_residual-in_err-places.result NoMemory w w2 (p.1 ∙ ap Err p.2) (begun g at.After-open_live is).run (first_gates g at.After-open_live is)
    (λ other.
    subst (λ (o : Option File). ClosesGates o (file_of 0 w2)) (run_end 0 (λ f. f ≡ file_of 0 w) w w1 c.check_sides.ensures.run)
    (c.in_ok-other.ensures.leaves.closed (λ (e : Ok c.in_ok-other.other ≡ Err Fault). absurd (cc e)))) (λ none. absurd (cc none))

refusal_same : (T U : Type 0) (e : TransdbError) → IsReadRefusal {T = T} (Err e) → IsReadRefusal {T = U} (Err e)
refusal_same T U NoDatabase is = is
refusal_same T U (Damaged at) is = is
refusal_same T U (Full need room) is = is
refusal_same T U NotClean is = is
refusal_same T U (Held mark last) is = is
refusal_same T U FaultBefore is = is
refusal_same T U (InDoubt n) is = is
refusal_same T U Fault is = is
refusal_same T U NoMemory is = is

pub returns-in_err-active-clause-fails : goal.returns-in_err-active-clause-fails
returns-in_err-active-clause-fails g c =
    let at = goal.at.returns-in_err-active-clause-fails g c in
    let is = of g at.After-check_sides in
    let w = g.S.Outside.world c.args.store.now in
    let w2 = g.S.Outside.world c.open_live.new.store in
    let e = c.in_err-active.field-0.0 in
    let p = err_from_is_err_and c.from_residual-in_err-active.result c.from_residual-in_err-active.ensures.1 in
    let same : c.from_residual-in_err-active.result ≡ Err e = p.1 ∙ ap Err p.2 in (
      subst IsReadRefusal (sym same) (refusal_same Log OpenedTransdb e c.in_err-active.ensures.fails.0),
      λ fault.
          let is_fault : e ≡ Fault = cc (same, fault) in
          rose_behind 0 0 w w2 (g.S.Outside.world c.open_active.new.store) (begun g at.After-open_live is).run.only (c.in_err-active.ensures.fails.1 (ap Err is_fault)),
    )

pub returns-in_err-active-clause-leaves : goal.returns-in_err-active-clause-leaves
returns-in_err-active-clause-leaves g c =
    let at = goal.at.returns-in_err-active-clause-leaves g c in
    let is = of g at.After-check_sides in
    let so_far = begun g at.After-open_live is in
    let e = c.in_err-active.field-0.0 in
    let p = err_from_is_err_and c.from_residual-in_err-active.result c.from_residual-in_err-active.ensures.1 in
    refused_left c.from_residual-in_err-active.result e (g.S.Outside.world c.args.store.now) (g.S.Outside.world c.open_active.new.store) (p.1 ∙ ap Err p.2) (further g at.After-open_active is so_far).run
    (both_gates g at.After-open_active is so_far (has_header g at.After-open_live is) (first_gates g at.After-open_live is))
    (λ other. bytes g at.After-open_active is so_far (λ (same : c.open_active.result ≡ Err Fault). other (cc (c.in_err-active.was, same)))) (λ none. absurd (never_none Log e c.in_err-active.ensures.fails.0 none))

-- both logs are open
are : (g : Over) (c : In_ok-active g) (of : IsOfPair c.args.pair c.args.header) → IsBegun c.args.pair c.args.header of (g.S.Outside.world c.args.store.now) (g.S.Outside.world c.open_active.new.store)
    → AreOpen c.args.pair c.args.header c.in_ok-other.other.log c.in_ok-active.active (file_of 0 (g.S.Outside.world c.args.store.now)) (file_of 0 (g.S.Outside.world c.open_active.new.store))
are g c of so_far =
    let h = c.args.header in
    let w2 = g.S.Outside.world c.open_live.new.store in
    let w3 = g.S.Outside.world c.open_active.new.store in
    let active = c.in_ok-active.active in
    let reads = g.met.S.Store.reads_image c.open_active.new.store 0 in
    let by = c.in_ok-other.ensures.opened.log active c.in_ok-active.ensures.opened.of_side.first in
    record {
      based = so_far.based;
      told = so_far.run.only.told w3.time so_far.run.only.later (omega arith);
      reads = reads;
      side = c.in_ok-active.ensures.opened.of_side;
      stands = c.in_ok-active.ensures.opened.stands;
      by = by;
      lives = lives_on h c.in_ok-other.other.log active w2 w3 (low_side c.args.pair h of) (whole_side c.args.pair h of h.active) by c.in_ok-other.ensures.opened.stands c.open_active.ensures.leaves.run reads;
    }

pub returns-clause-answer : goal.returns-clause-answer
returns-clause-answer g c =
    let at = goal.at.returns-clause-answer g c in
    let is = of g at.After-check_sides in
    let so_far = further g at.After-open_active is (begun g at.After-open_live is) in
    let h = c.args.header in
    let o = file_of 0 (g.S.Outside.world c.args.store.now) in
    let now = file_of 0 (g.S.Outside.world c.open_active.new.store) in
    subst (λ (l : List Entry). IfSome o (λ f. opened f.bytes ≡ holding h l)) (sym c.new.ensures)
    (found_all c.args.pair h c.in_ok-other.other.entries.items c.open_active.new.entries.items o now (front g at.After-open_active is so_far) c.in_ok-active.ensures.told)

-- the places kept of a Live side are as they were found
live_kept : (g : Over) (c : In_ok-active g) (of : IsOfPair c.args.pair c.args.header) → IfSome (file_of 0 (g.S.Outside.world c.open_active.new.store)) (λ f. IfSome c.in_ok-other.other.log (λ log. AreKept log c.in_ok-other.other.places (Some f)))
live_kept g c of =
    let h = c.args.header in
    let w2 = g.S.Outside.world c.open_live.new.store in
    let w3 = g.S.Outside.world c.open_active.new.store in
    let live = c.in_ok-other.other.log in
    let places = c.in_ok-other.other.places in
    let active = c.in_ok-active.active in
    let at = side_start h h.active in
    let n = side_end h h.active - side_start h h.active in
    let keeps = run_end 0 (KeepsSide h h.active (file_of 0 w2)) w2 w3 c.open_active.ensures.leaves.run in
    let torn = keeps_torn (side_start h h.active) (side_end h h.active) (first_on h h.active) at n (file_of 0 w2) (file_of 0 w3) keeps in
    let by = c.in_ok-other.ensures.opened.log active c.in_ok-active.ensures.opened.of_side.first in
    other_kept h live places at n (file_of 0 w2) (file_of 0 w3) (low_side c.args.pair h of) (whole_side c.args.pair h of h.active) (live_side h h.other live active by) c.in_ok-other.ensures.opened.stands torn
    (g.met.S.Store.reads_image c.open_active.new.store 0)
    (told_live (λ log f. AreKept log places (Some f)) live (file_of 0 w2) (each_live (λ log. AreWithin log places × AreKeptIn log places (file_of 0 w2)) (λ log. AreKeptIn log places (file_of 0 w2)) live (λ log is. is.1) c.in_ok-other.ensures.places))

pub returns-clause-opened : goal.returns-clause-opened
returns-clause-opened g c =
    let at = goal.at.returns-clause-opened g c in
    let is = of g at.After-check_sides in
    let so_far = further g at.After-open_active is (begun g at.After-open_live is) in
    let h = c.args.header in
    let o = file_of 0 (g.S.Outside.world c.args.store.now) in
    let now = file_of 0 (g.S.Outside.world c.open_active.new.store) in
    let items = c.in_ok-other.other.entries.items in
    let all = c.open_active.new.entries.items in
    let active = c.in_ok-active.active in
    let first = active_first h in
    let held = first_held h in
    let numbers = c.in_ok-other.ensures.opened.numbers in
    let part = c.in_ok-active.ensures.opened.part in
    let active_is = c.in_ok-active.ensures.opened in
    record {
      stands = stands_sides c.args.pair h c.in_ok-other.other.log active o now (are g at.In_ok-active is so_far) c.open_active.new.places c.in_ok-other.other.places
          (record { lawful = c.requires.found.lawful; settled = c.requires.found.settled; value = c.requires.found.value; tried = c.requires.found.tried })
          (read_all c.args.pair h items all o now (front g at.After-open_active is so_far) c.in_ok-active.ensures.told)
          (has_places (made c.args.pair h c.in_ok-other.other.log active o now (are g at.In_ok-active is so_far) c.open_active.new.places c.in_ok-other.other.places) now c.in_ok-active.ensures.places.1 (live_kept g at.In_ok-active is));
      usable = c.in_ok-active.ensures.opened.usable;
      numbers = subst (λ (l : List Entry). IsNumberedFrom held l × (held + length l ≡ active.next)) (sym c.new.ensures)
          (all_numbered held first active.next (active.place - active.start) items all numbers.0 numbers.1 active_is.number part);
      width = subst (λ (l : List Entry). records_width (drop (first - held) l) ≡ active.place - active.start) (sym c.new.ensures)
          (active_width held first active.next (active.place - active.start) items all numbers.1 part);
      placed = record { side = c.in_ok-active.ensures.opened.of_side; place = active_is.place; from = active_is.number; some = some_first h h.active (lawful_is h c.requires.found.lawful) };
    }

pub returns-clause-leaves : goal.returns-clause-leaves
returns-clause-leaves g c =
    let at = goal.at.returns-clause-leaves g c in
    let is = of g at.After-check_sides in
    let so_far = begun g at.After-open_live is in
    let w = g.S.Outside.world c.args.store.now in
    let w3 = g.S.Outside.world c.open_active.new.store in
    done_left _ w w3 (further g at.After-open_active is so_far).run (both_gates g at.After-open_active is so_far (has_header g at.After-open_live is) (first_gates g at.After-open_live is))
    (bytes g at.After-open_active is so_far (λ (same : c.open_active.result ≡ Err Fault). absurd (cc (c.in_ok-active.was, same))))
    (entries_sides c.args.pair c.args.header c.in_ok-other.other.log c.in_ok-active.active (file_of 0 w) (file_of 0 w3) (are g at.In_ok-active is (further g at.After-open_active is so_far)))
