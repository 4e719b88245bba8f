use Rattle.std.proofs.Common.{◌≡◌, ℕ, ◌-◌, ◌++◌, drop, subst, List, Option, Ok}
use Rattle.std.specs.Prelude.{IfSome}
use Rattle.odb_device.specs.World.{World, file_of}
use Rattle.odb_reclog.specs.Standing.{Log, Stands as LogStands}
use Rattle.odb_model.specs.declared.entry.Entry.{Entry}
use Rattle.odb_transdb.specs.Header.{active_first}
use Rattle.odb_transdb.specs.Walking.{log_entries, AreSome, CanStep}
use Rattle.odb_transdb.proofs.Joining.{LiveIs, live_is, live_told, live_adds}
use Rattle.odb_transdb.proofs.reading.add_live.Given.{Over}
use Rattle.odb_transdb.proofs.reading.add_live.Goals as goal
use Rattle.odb_transdb.proofs.reading.add_live.Goals.{After-add_entries}

module _ (g : Over) (c : After-add_entries g) where
  abbrev w : World
  w = g.S.Outside.world c.args.store.now

  is : LiveIs c.args.header.now c.args.header.now.other c.in-Some.log c.args.active.now
  is = live_is c.args.header.now c.args.header.now.other c.args.live.now c.in-Some.log c.args.active.now c.in-Some.is c.requires.readable.sides.other

  some : AreSome c.args.from (active_first c.args.header.now) c.add_entries.new.entries.items
  some = live_adds c.args.header.now c.in-Some.log c.args.active.now c.args.from c.args.entries.now.items c.add_entries.new.entries.items is c.requires.readable.sides.side c.requires.readable.from_held c.requires.none c.add_entries.ensures.some

pub add_entries-requires-clause-begin : goal.add_entries-requires-clause-begin
add_entries-requires-clause-begin g c =
    let w = g.S.Outside.world c.args.store.now in
    c.begin_at-beginning.ensures w (subst (λ (l : Option Log). IfSome l (λ log. CanStep log c.args.live_places.now w)) c.in-Some.is c.requires.live_steps)

pub returns-in_err-add_entries-clause-some : goal.returns-in_err-add_entries-clause-some
returns-in_err-add_entries-clause-some g c = some g (goal.at.returns-in_err-add_entries-clause-some g c).After-add_entries

pub returns-clause-some : goal.returns-clause-some
returns-clause-some g c = some g (goal.at.returns-clause-some g c).After-add_entries

pub returns-clause-told : goal.returns-clause-told
returns-clause-told g c =
    let a = (goal.at.returns-clause-told g c).After-add_entries in
    let log = c.in-Some.log in
    let items = c.args.entries.now.items in
    let stands : LogStands log (file_of 0 (w g a)) = subst (λ (l : Option Log). IfSome l (λ log. LogStands log (file_of 0 (w g a)))) c.in-Some.is c.requires.readable.live_stands in
    live_told c.args.header.now log c.args.active.now (file_of 0 (w g a)) c.args.from items c.add_entries.new.entries.items (is g a) c.requires.readable.sides.side stands
    (g.met.S.Store.reads_image c.args.store.now 0) c.requires.none
    (subst (λ (k : ℕ). IfSome (file_of k (w g a)) (λ f. (all : List Entry) × (log_entries log f.bytes ≡ Ok all)
    × (c.add_entries.new.entries.items ≡ items ++ drop (c.args.from - log.first) all))) (is g a).side.file c.in_ok-add_entries.ensures.told)
