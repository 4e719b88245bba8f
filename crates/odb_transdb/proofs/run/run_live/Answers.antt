use Rattle.std.proofs.Common.{◌≡◌, ℕ, ◌-◌, ◌++◌, drop, subst, List, Option, Ok}
use Rattle.std.specs.Prelude.{IfSome}
use Rattle.odb_device.specs.World.{World, file_of}
use Rattle.odb_reclog.specs.Standing.{Log, Stands as LogStands}
use Rattle.odb_model.specs.declared.entry.Entry.{Entry}
use Rattle.odb_transdb.specs.Walking.{log_entries, CanStep}
use Rattle.odb_transdb.specs.Runs.{IsTaken, IsUndamaged}
use Rattle.odb_transdb.proofs.Joining.{LiveIs, live_is, live_adds}
use Rattle.odb_transdb.proofs.Runs.{run_none}
use Rattle.odb_transdb.proofs.Running.{live_taken, live_numbers}
use Rattle.odb_transdb.proofs.run.run_live.Given.{Over}
use Rattle.odb_transdb.proofs.run.run_live.Goals as goal
use Rattle.odb_transdb.proofs.run.run_live.Goals.{After-add_run}

pub add_run-requires-clause-begin : goal.add_run-requires-clause-begin
add_run-requires-clause-begin g c =
    let w = g.S.Outside.world c.args.store.now in
    c.begin_at-beginning.ensures w (subst (λ (l : Option Log). IfSome l (λ log. CanStep log c.args.live_places.now w)) c.in-Some.is c.requires.live_steps)

pub add_run-requires-clause-is_run : goal.add_run-requires-clause-is_run
add_run-requires-clause-is_run g c = run_none c.args.run.now.most c.args.run.now.left c.args.run.now.entries.items c.requires.none.0 c.requires.none.1

module _ (g : Over) (c : After-add_run g) where
  abbrev w : World
  w = g.S.Outside.world c.args.store.now

  is : LiveIs c.args.header.now c.args.header.now.other c.in-Some.log c.args.active.now
  is = live_is c.args.header.now c.args.header.now.other c.args.live.now c.in-Some.log c.args.active.now c.in-Some.is c.requires.readable.sides.other

pub returns-clause-some : goal.returns-clause-some
returns-clause-some g c =
    let a = (goal.at.returns-clause-some g c).After-add_run in
    live_adds c.args.header.now c.in-Some.log c.args.active.now c.args.from c.args.run.now.entries.items c.add_run.new.run.entries.items (is g a) c.requires.readable.sides.side c.requires.readable.from_held c.requires.none.0 c.add_run.ensures.some

pub returns-clause-told : goal.returns-clause-told
returns-clause-told g c =
    let a = (goal.at.returns-clause-told g c).After-add_run in
    let log = c.in-Some.log in
    let items = c.args.run.now.entries.items in
    let stands : LogStands log (file_of 0 (w g a)) = subst (λ (l : Option Log). IfSome l (λ log. LogStands log (file_of 0 (w g a)))) c.in-Some.is c.requires.readable.live_stands in
    live_taken c.args.run.now.most c.args.header.now log c.args.active.now (file_of 0 (w g a)) c.args.from items c.add_run.new.run.entries.items c.add_run.result (is g a) c.requires.readable.sides.side stands
    (g.met.S.Store.reads_image c.args.store.now 0) c.requires.none.0
    (subst (λ (k : ℕ). IfSome (file_of k (w g a)) (λ f. (all : List Entry) → log_entries log f.bytes ≡ Ok all
    → IsUndamaged (λ over. IsTaken c.args.run.now.most over (items ++ drop (c.args.from - log.first) all) c.add_run.new.run.entries.items) c.add_run.result)) (is g a).side.file c.add_run.ensures.told)

pub returns-clause-numbers : goal.returns-clause-numbers
returns-clause-numbers g c = λ went_on.
    let a = (goal.at.returns-clause-numbers g c).After-add_run in
    let log = c.in-Some.log in
    let is_part = c.add_run.ensures.part went_on in
    (live_numbers c.args.header.now log c.args.active.now c.args.from (log.place - log.start) c.args.run.now.entries.items c.add_run.new.run.entries.items (is g a) c.requires.readable.sides.side c.requires.readable.from_held c.requires.none.0 is_part.0, is_part.1)
