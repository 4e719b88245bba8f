use Rattle.std.proofs.Common.{◌≡◌, ◌-◌, ◌++◌, ℕ, List, Ok, Option, drop, refl, sym, subst, arith}
use Rattle.std.specs.Prelude.{IfSome}
use Rattle.odb_device.specs.World.{File, World, file_of}
use Rattle.odb_device.proofs.Time.{run_end}
use Rattle.odb_reclog.specs.Told.{OnlyReads}
use Rattle.odb_model.specs.declared.entry.Entry.{Entry}
use Rattle.odb_transdb.specs.Header.{active_first}
use Rattle.odb_transdb.specs.Walking.{log_entries, ArePlaced}
use Rattle.odb_transdb.proofs.Joining.{reads_then, both_told, both_numbers, both_some}
use Rattle.odb_transdb.proofs.reading.add_sides.Given.{Over}
use Rattle.odb_transdb.proofs.reading.add_sides.Goals as goal
use Rattle.odb_transdb.proofs.reading.add_sides.Goals.{After-add_entries}

-- the active side's list is as before
pub add_entries-requires-clause-begin : goal.add_entries-requires-clause-begin
add_entries-requires-clause-begin g c =
    let w = g.S.Outside.world c.args.store.now in
    let mid = g.S.Outside.world c.add_live.new.store in
    let active = c.args.active.now in
    let places = c.args.places.now in
    let file : active.file ≡ 0 = c.requires.readable.sides.side.file in
    let same : file_of 0 mid ≡ file_of 0 w = run_end 0 (λ f. f ≡ file_of 0 w) w mid c.add_live.ensures.run in
    let told : IfSome (file_of 0 w) (λ f. ArePlaced active places f.bytes) = subst (λ (k : ℕ). IfSome (file_of k w) (λ f. ArePlaced active places f.bytes)) file c.requires.steps.told in
    c.begin_at-beginning.ensures mid
    (record {
      within = c.requires.steps.within;
      told = subst (λ (k : ℕ). IfSome (file_of k mid) (λ f. ArePlaced active places f.bytes)) (sym file) (subst (λ (o : Option File). IfSome o (λ f. ArePlaced active places f.bytes)) (sym same) told);
    })

module _ (g : Over) (c : After-add_entries g) where
  abbrev w : World
  w = g.S.Outside.world c.args.store.now

  abbrev mid : World
  mid = g.S.Outside.world c.add_live.new.store

  run : OnlyReads 0 w (g.S.Outside.world c.add_entries.new.store)
  run = reads_then c.args.active.now.file w mid (g.S.Outside.world c.add_entries.new.store) c.requires.readable.sides.side.file c.add_live.ensures.run c.add_entries.ensures.run

pub returns-in_err-add_entries-clause-run : goal.returns-in_err-add_entries-clause-run
returns-in_err-add_entries-clause-run g c = run g (goal.at.returns-in_err-add_entries-clause-run g c).After-add_entries

pub returns-clause-run : goal.returns-clause-run
returns-clause-run g c = run g (goal.at.returns-clause-run g c).After-add_entries

pub returns-clause-told : goal.returns-clause-told
returns-clause-told g c =
    let a = (goal.at.returns-clause-told g c).After-add_entries in
    let h = c.args.header.now in
    let active = c.args.active.now in
    let old = c.add_live.new.entries.items in
    let new = c.add_entries.new.entries.items in
    let same = run_end 0 (λ f. f ≡ file_of 0 (w g a)) (w g a) (mid g a) c.add_live.ensures.run in
    let rest =
    subst (λ (k : ℕ). IfSome (file_of k (mid g a)) (λ f. (all : List Entry) × (log_entries active f.bytes ≡ Ok all) × (new ≡ old ++ drop (c.args.from - active.first) all)))
    c.requires.readable.sides.side.file c.in_ok-add_entries.ensures.told in
    both_told h active (file_of 0 (w g a)) c.args.from old new new c.requires.readable.sides.side refl c.in_ok-add_live.ensures.told
    (subst (λ (o : Option File). IfSome o (λ f. (all : List Entry) × (log_entries active f.bytes ≡ Ok all) × (new ≡ old ++ drop (c.args.from - active.first) all))) same rest)

pub returns-clause-numbers : goal.returns-clause-numbers
returns-clause-numbers g c =
    let active = c.args.active.now in
    let numbers = c.in_ok-add_live.ensures.numbers in
    both_numbers c.args.from active.first (active_first c.args.header.now) active.next (active.place - active.start) c.add_live.new.entries.items c.add_entries.new.entries.items c.requires.readable.sides.side.first
    numbers.0 numbers.1 c.in_ok-add_entries.ensures.part

pub returns-in_err-add_live-clause-some : goal.returns-in_err-add_live-clause-some
returns-in_err-add_live-clause-some g c =
    let some = c.add_live.ensures.some in
    (some.0, omega (arith, some.1, c.requires.readable.sides.least))

pub returns-in_err-add_entries-clause-some : goal.returns-in_err-add_entries-clause-some
returns-in_err-add_entries-clause-some g c =
    let active = c.args.active.now in
    let numbers = c.in_ok-add_live.ensures.numbers in
    both_some c.args.from active.first (active_first c.args.header.now) active.next c.add_live.new.entries.items c.add_entries.new.entries.items c.requires.readable.sides.side.first c.requires.readable.sides.least
    numbers.0 numbers.1 c.add_entries.ensures.some

pub returns-clause-some : goal.returns-clause-some
returns-clause-some g c =
    let active = c.args.active.now in
    let numbers = c.in_ok-add_live.ensures.numbers in
    both_some c.args.from active.first (active_first c.args.header.now) active.next c.add_live.new.entries.items c.add_entries.new.entries.items c.requires.readable.sides.side.first c.requires.readable.sides.least
    numbers.0 numbers.1 c.add_entries.ensures.some
