use Rattle.std.proofs.Common.{◌≡◌, ◌-◌, ◌∙◌, ◌++◌, ℕ, false, Bool, List, Ok, Option, drop, sym, ap, subst}
use Rattle.std.specs.Prelude.{IfSome}
use Rattle.odb_device.specs.World.{File, World, file_of}
use Rattle.odb_device.proofs.Time.{run_end}
use Rattle.odb_reclog.specs.Told.{OnlyReads}
use Rattle.odb_model.specs.declared.entry.Entry.{Entry}
use Rattle.odb_transdb.specs.Header.{active_first}
use Rattle.odb_transdb.specs.Walking.{log_entries, ArePlaced}
use Rattle.odb_transdb.specs.Runs.{IsRun, IsTaken}
use Rattle.odb_transdb.proofs.Joining.{reads_then, both_some}
use Rattle.odb_transdb.proofs.Running.{FrontOf, live_over, both_over}
use Rattle.odb_transdb.proofs.run.run_sides.Given.{Over}
use Rattle.odb_transdb.proofs.run.run_sides.Goals as goal
use Rattle.odb_transdb.proofs.run.run_sides.Goals.{After-add_run}

-- the active side's list is as before
pub add_run-requires-clause-begin : goal.add_run-requires-clause-begin
add_run-requires-clause-begin g c =
    let w = g.S.Outside.world c.args.store.now in
    let mid = g.S.Outside.world c.run_live.new.store in
    let active = c.args.active.now in
    let places = c.args.places.now in
    let file : active.file ≡ 0 = c.requires.readable.sides.side.file in
    let same : file_of 0 mid ≡ file_of 0 w = run_end 0 (λ f. f ≡ file_of 0 w) w mid c.run_live.ensures.run in
    let told : IfSome (file_of 0 w) (λ f. ArePlaced active places f.bytes) = subst (λ (k : ℕ). IfSome (file_of k w) (λ f. ArePlaced active places f.bytes)) file c.requires.steps.told in
    c.begin_at-beginning.ensures mid
    (record {
      within = c.requires.steps.within;
      told = subst (λ (k : ℕ). IfSome (file_of k mid) (λ f. ArePlaced active places f.bytes)) (sym file) (subst (λ (o : Option File). IfSome o (λ f. ArePlaced active places f.bytes)) (sym same) told);
    })

module _ (g : Over) (c : After-add_run g) where
  abbrev w : World
  w = g.S.Outside.world c.args.store.now

  abbrev mid : World
  mid = g.S.Outside.world c.run_live.new.store

  run : OnlyReads 0 w (g.S.Outside.world c.add_run.new.store)
  run = reads_then c.args.active.now.file w mid (g.S.Outside.world c.add_run.new.store) c.requires.readable.sides.side.file c.run_live.ensures.run c.add_run.ensures.run

pub returns-in_err-add_run-clause-run : goal.returns-in_err-add_run-clause-run
returns-in_err-add_run-clause-run g c = run g (goal.at.returns-in_err-add_run-clause-run g c).After-add_run

pub returns-clause-run : goal.returns-clause-run
returns-clause-run g c = run g (goal.at.returns-clause-run g c).After-add_run

pub returns-then-branch-clause-told : goal.returns-then-branch-clause-told
returns-then-branch-clause-told g c =
    let h = c.args.header.now in
    let o = file_of 0 (g.S.Outside.world c.args.store.now) in
    let items = c.run_live.new.run.entries.items in
    live_over c.args.run.now.most h c.args.active.now c.args.from c.requires.readable.sides.side o items (subst (λ (b : Bool). IfSome o (FrontOf c.args.run.now.most h c.args.from items b)) c.if-branch.true c.in_ok-run_live.ensures.told)

pub returns-clause-told : goal.returns-clause-told
returns-clause-told g c =
    let a = (goal.at.returns-clause-told g c).After-add_run in
    let h = c.args.header.now in
    let active = c.args.active.now in
    let o = file_of 0 (w g a) in
    let most = c.args.run.now.most in
    let kept : c.run_live.new.run.most ≡ most = c.run_live.ensures.most in
    let over = c.in_ok-add_run.field-0 in
    let first = c.run_live.new.run.entries.items in
    let items = c.add_run.new.run.entries.items in
    let left = c.add_run.new.run.left in
    let same = run_end 0 (λ f. f ≡ file_of 0 (w g a)) (w g a) (mid g a) c.run_live.ensures.run in
    let rest =
    subst (λ (k : ℕ). IfSome (file_of k (mid g a)) (λ f. (all : List Entry) → log_entries active f.bytes ≡ Ok all → IsTaken c.run_live.new.run.most over (first ++ drop (c.args.from - active.first) all) items)) c.requires.readable.sides.side.file
    c.in_ok-add_run.ensures.told in
    let its_rest =
    subst (λ (m : ℕ). IfSome o (λ f. (all : List Entry) → log_entries active f.bytes ≡ Ok all → IsTaken m over (first ++ drop (c.args.from - active.first) all) items)) kept
    (subst (λ (p : Option File). IfSome p (λ f. (all : List Entry) → log_entries active f.bytes ≡ Ok all → IsTaken c.run_live.new.run.most over (first ++ drop (c.args.from - active.first) all) items)) same rest) in
    both_over most h active c.args.from c.requires.readable.sides.side o over left first items
    (λ (went_on : over ≡ false). subst (λ (m : ℕ). IsRun m left items) (c.add_run.ensures.most ∙ kept) (c.in_ok-add_run.ensures.part (ap Ok went_on)).1)
    (subst (λ (b : Bool). IfSome o (FrontOf most h c.args.from first b)) c.if-branch.false c.in_ok-run_live.ensures.told) its_rest

pub returns-in_err-add_run-clause-some : goal.returns-in_err-add_run-clause-some
returns-in_err-add_run-clause-some g c =
    let active = c.args.active.now in
    let numbers = (c.in_ok-run_live.ensures.numbers (ap Ok c.if-branch.false)).0 in
    both_some c.args.from active.first (active_first c.args.header.now) active.next c.run_live.new.run.entries.items c.add_run.new.run.entries.items c.requires.readable.sides.side.first c.requires.readable.sides.least
    numbers.0 numbers.1 c.add_run.ensures.some

pub returns-clause-some : goal.returns-clause-some
returns-clause-some g c =
    let active = c.args.active.now in
    let numbers = (c.in_ok-run_live.ensures.numbers (ap Ok c.if-branch.false)).0 in
    both_some c.args.from active.first (active_first c.args.header.now) active.next c.run_live.new.run.entries.items c.add_run.new.run.entries.items c.requires.readable.sides.side.first c.requires.readable.sides.least
    numbers.0 numbers.1 c.add_run.ensures.some
