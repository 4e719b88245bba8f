use Rattle.std.proofs.Common.{◌≡◌, ℕ, ◌-◌, ◌∙◌, ap, None, List, Some, Ok, Err, Option, Result, drop, sym, subst}
use Rattle.std.specs.Prelude.{IfSome, IsTrue}
use Rattle.odb_device.specs.World.{File, World, file_of}
use Rattle.odb_reclog.specs.Standing.{Log}
use Rattle.odb_model.specs.declared.entry.Entry.{Entry}
use Rattle.odb_transdb.specs.declared.error.TransdbError.{TransdbError}
use Rattle.odb_transdb.specs.declared.error.TransdbError.TheVariants.{Damaged}
use Rattle.odb_transdb.specs.Header.{is_header, first_held, other_of}
use Rattle.odb_transdb.specs.Opened.{entries_in}
use Rattle.odb_transdb.specs.Kept.{AreWithin}
use Rattle.odb_transdb.specs.Standing.{Db, IsOfSide}
use Rattle.odb_transdb.specs.Turning.{StandsSince}
use Rattle.odb_transdb.specs.contracts.transdb.Transdb.{the_view}
use Rattle.odb_transdb.specs.Walking.{sides_read, ArePlaced, CanStep}
use Rattle.odb_transdb.specs.Runs.{run_upto, IsUndamaged, IsLastRun}
use Rattle.odb_transdb.proofs.Heading.{since_log}
use Rattle.odb_transdb.proofs.Running.{given_run, given_last_run, never_ended}
use Rattle.odb_transdb.proofs.Placed.{active_placed, live_placed}
use Rattle.odb_transdb.proofs.Standing.{live_side}
use Rattle.odb_transdb.proofs.transdb.Transdb.run.Given.{Over}
use Rattle.odb_transdb.proofs.transdb.Transdb.run.Goals as goal
use Rattle.odb_transdb.proofs.transdb.Transdb.run.Goals.{After-run_sides}

-- what the walk tells, of the value that the caller sees
module _ (g : Over) (c : After-run_sides g) where
  abbrev o : Option File
  o = file_of 0 (g.S.Outside.world c.args.store.now)

  abbrev Told : Result (Unit {0}) TransdbError → Type 0
  Told r = IfSome o (λ f. (all : List Entry) → sides_read c.args.self.now.header f.bytes ≡ Ok all → IsUndamaged (λ _. c.run_sides.new.run.entries.items ≡ run_upto c.args.most_writes (drop (c.args.from - first_held c.args.self.now.header) all)) r)

  told : Told c.run_sides.result
  told =
      subst (λ (d : Db). IfSome o (λ f. (all : List Entry) → sides_read d.header f.bytes ≡ Ok all → IsUndamaged (λ _. c.run_sides.new.run.entries.items ≡ run_upto c.args.most_writes (drop (c.args.from - first_held d.header) all)) c.run_sides.result))
      c.self.view_is c.run_sides.ensures.told

  -- the header that the value has
  lawful : IsTrue (is_header c.args.self.now.header)
  lawful = subst (λ (d : Db). IsTrue (is_header d.header)) c.self.view_is c.self.invariant.lawful

pub run_sides-requires-clause-active : goal.run_sides-requires-clause-active
run_sides-requires-clause-active g c =
    let w = g.S.Outside.world c.args.store.now in
    let stands = c.requires.stands in
    since_log (the_view c.self.inside) stands.0 (file_of 0 w) (subst (λ (d : Db). StandsSince d stands.0 (file_of 0 w)) (sym c.self.view_is) stands.1)

pub run_sides-requires-clause-steps : goal.run_sides-requires-clause-steps
run_sides-requires-clause-steps g c =
    let w = g.S.Outside.world c.args.store.now in
    let db = the_view c.self.inside in
    let stands = c.requires.stands in
    let since = subst (λ (d : Db). StandsSince d stands.0 (file_of 0 w)) (sym c.self.view_is) stands.1 in
    record {
      within = c.self.invariant.places;
      told = subst (λ (k : ℕ). IfSome (file_of k w) (λ f. ArePlaced db.active db.places f.bytes)) (sym c.self.invariant.active.file)
          (active_placed db c.self.invariant stands.0 (file_of 0 w) since (g.met.S.Store.reads_image c.args.store.now 0));
    }

pub run_sides-requires-clause-live_steps : goal.run_sides-requires-clause-live_steps
run_sides-requires-clause-live_steps g c =
    let w = g.S.Outside.world c.args.store.now in
    let db = the_view c.self.inside in
    let stands = c.requires.stands in
    let since = subst (λ (d : Db). StandsSince d stands.0 (file_of 0 w)) (sym c.self.view_is) stands.1 in
    live_steps w db.live db.live_places (live_side db.header db.header.other db.live db.active c.self.invariant.live) c.self.invariant.live_places
    (live_placed db c.self.invariant stands.0 (file_of 0 w) since (g.met.S.Store.reads_image c.args.store.now 0))
  where
    live_steps : (w : World) (l : Option Log) (places : List ℕ) → IfSome l (λ log. IsOfSide (the_view c.self.inside).header (other_of (the_view c.self.inside).header) log) → IfSome l (λ log. AreWithin log places)
        → IfSome l (λ log. IfSome (file_of 0 w) (λ f. ArePlaced log places f.bytes)) → IfSome l (λ log. CanStep log places w)
    live_steps w None places side within told = tt
    live_steps w (Some log) places side within told = record { within = within; told = subst (λ (k : ℕ). IfSome (file_of k w) (λ f. ArePlaced log places f.bytes)) (sym side.file) told }

pub returns-in-Ok-clause-entries : goal.returns-in-Ok-clause-entries
returns-in-Ok-clause-entries g c = λ stands.
    let a = (goal.at.returns-in-Ok-clause-entries g c).After-run_sides in
    let db = c.args.self.now in
    subst (λ (l : List Entry). IfSome (o g a) (λ f. l ≡ run_upto c.args.most_writes (drop (c.args.from - first_held db.header) (entries_in (Some f))))) (sym c.new.ensures)
    (given_run c.args.most_writes db c.args.from c.run_sides.new.run.entries.items (o g a) stands (g.met.S.Store.reads_image c.args.store.now 0) (subst (Told g a) c.in-Ok.is (told g a)))

pub returns-in-Ok-clause-last : goal.returns-in-Ok-clause-last
returns-in-Ok-clause-last g c = λ all since.
    let a = (goal.at.returns-in-Ok-clause-last g c).After-run_sides in
    let db = c.args.self.now in
    subst (λ (l : List Entry). IfSome (o g a) (λ f. IsLastRun c.args.most_writes c.args.from db.active.next all l)) (sym c.new.ensures)
    (given_last_run c.args.most_writes db c.args.from c.run_sides.new.run.entries.items all (lawful g a) c.requires.from (o g a) since (g.met.S.Store.reads_image c.args.store.now 0) (subst (Told g a) c.in-Ok.is (told g a)))

-- a told file never refuses
module _ (g : Over) (c : After-run_sides g) (at : ℕ) (is : c.run_sides.result ≡ Err (Damaged at)) (Q : File → Type 0) where
  never : IfSome (file_of 0 (g.S.Outside.world c.args.store.now)) Q
  never =
      never_ended c.args.most_writes c.args.self.now c.args.from c.run_sides.new.run.entries.items c.requires.stands.0 (lawful g c) Q (o g c) c.requires.stands.1 (g.met.S.Store.reads_image c.args.store.now 0) (subst (Told g c) is (told g c))

pub returns-in-Err-Damaged-clause-entries : goal.returns-in-Err-Damaged-clause-entries
returns-in-Err-Damaged-clause-entries g c = λ stands. never g (goal.at.returns-in-Err-Damaged-clause-entries g c).After-run_sides c.in-Err-Damaged.field-0-0 (c.in-Err-Damaged.is ∙ ap Err c.in-Err-Damaged.field-0-is) _

pub returns-in-Err-Damaged-clause-last : goal.returns-in-Err-Damaged-clause-last
returns-in-Err-Damaged-clause-last g c = λ all since. never g (goal.at.returns-in-Err-Damaged-clause-last g c).After-run_sides c.in-Err-Damaged.field-0-0 (c.in-Err-Damaged.is ∙ ap Err c.in-Err-Damaged.field-0-is) _
