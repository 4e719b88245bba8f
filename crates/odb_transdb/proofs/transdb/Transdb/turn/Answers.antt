use Rattle.std.proofs.Common.{rules, ◌≡◌, ℕ, ◌+◌, ◌^◌, ◌≤◌, false, List, [], length, Some, refl, sym, ◌∙◌, ap, subst, arith}
use Rattle.odb_device.specs.World.{World, file_of}
use Rattle.odb_device.specs.Images.{EachImage, ReadsImage}
use Rattle.odb_device.specs.Zeros.{AreZero}
use Rattle.odb_pair.specs.Places.{Holds as PairHolds}
use Rattle.odb_pair.specs.Standing.{PairState, StandsFor as PairStandsFor}
use Rattle.odb_reclog.specs.Standing.{Log, StandsFor as LogStandsFor, begun}
use Rattle.odb_model.specs.declared.entry.Entry.{Entry}
use Rattle.odb_model.specs.declared.side.OtherSide.TheVariants.{Clean}
use Rattle.odb_transdb.specs.declared.header.Header.{Header}
use Rattle.odb_transdb.specs.Header.{header_image, side_start, side_end, active_first, turned}
use Rattle.odb_transdb.specs.Standing.{Db, IsDb, IsPlaced}
use Rattle.odb_transdb.specs.Turning.{StandsSince, RunsTurn, IsTurned}
use Rattle.odb_transdb.specs.contracts.transdb.Transdb.{the_view}
use Rattle.odb_transdb.proofs.Headers.{lawful_is}
use Rattle.odb_transdb.proofs.Standing.{is_placed}
use Rattle.odb_transdb.proofs.Contents.{turned_active}
use Rattle.odb_transdb.proofs.Turning.{turn_run, left_since, turned_since, turned_stands, turned_entries}
use Rattle.odb_transdb.proofs.Invariants.{is_db_turned, keeps_value}
use Rattle.odb_transdb.proofs.transdb.Transdb.turn.Given.{Over}
use Rattle.odb_transdb.proofs.transdb.Transdb.turn.Goals as goal
use Rattle.odb_transdb.proofs.transdb.Transdb.turn.Goals.{After-put, After-swap}

module _ (g : Over) (c : After-put g) where
  abbrev db : Db
  db = the_view c.self.inside

  abbrev w : World
  w = g.S.Outside.world c.args.store.now

  abbrev now : World
  now = g.S.Outside.world c.put.new.store

  abbrev value : List ℕ
  value = c.image-image.result

  abbrev pair : PairState
  pair = c.put.new.self

  abbrev t : Header
  t = turned db.active.next db.header

  is : IsDb db
  is = c.self.invariant

  few : db.active.next ≤ 2 ^ 48 + 1
  few = omega (arith, c.requires.last, ap (λ (d : Db). d.active.next) c.self.view_is)

  clean_of : c.args.self.now.header.other ≡ Clean → db.header.other ≡ Clean
  clean_of same = ap (λ (d : Db). d.header.other) c.self.view_is ∙ same

  t_is : c.turned-header.result ≡ t
  t_is = c.turned-header.ensures ∙ ap (λ (k : ℕ). turned k db.header) c.next_number.ensures

  value_is : value ≡ header_image t
  value_is = c.image-image.ensures ∙ ap header_image t_is

  reads : ReadsImage (file_of 0 now)
  reads = g.met.S.Store.reads_image c.put.new.store 0

  its : EachImage (PairStandsFor pair) (file_of 0 now)
  its = subst (λ (k : ℕ). EachImage (PairStandsFor pair) (file_of k now)) is.file c.put.ensures.stands

  since_of : (all : List Entry) → StandsSince c.args.self.now all (file_of 0 w) → StandsSince db all (file_of 0 w)
  since_of all given = subst (λ (d : Db). StandsSince d all (file_of 0 w)) (sym c.self.view_is) given

  clean : db.header.other ≡ Clean
  clean = search rules

-- once the new side is begun
module _ (g : Over) (c : After-swap g) where
  abbrev log : Log
  log = c.begin_side-active.result

  abbrev made : Header → Log → Log → List ℕ → List ℕ → Db
  made h a l p q = record { header = h; pair = c.put.new.self; active = a; live = Some l; places = p; live_places = q }

  abbrev old : Db
  old = the_view c.self.inside

  abbrev new_header : Header
  new_header = turned old.active.next old.header

  header_is : c.turned-header.result ≡ new_header
  header_is = c.turned-header.ensures ∙ ap (λ (k : ℕ). turned k old.header) c.next_number.ensures

  made_is : made new_header log old.active [] old.places ≡ made c.turned-header.result c.replace.new.dest c.replace.result c.swap.new.x c.swap.new.y
  made_is =
      ap (λ (h : Header). made h log old.active [] old.places) (sym header_is) ∙ ap (λ (a : Log). made c.turned-header.result a old.active [] old.places) (sym c.replace.ensures.after)
      ∙ ap (λ (l : Log). made c.turned-header.result c.replace.new.dest l [] old.places) (sym c.replace.ensures.value)
      ∙ ap (λ (p : List ℕ). made c.turned-header.result c.replace.new.dest c.replace.result p old.places) (sym (c.swap.ensures.x_after ∙ c.clear.ensures))
      ∙ ap (λ (q : List ℕ). made c.turned-header.result c.replace.new.dest c.replace.result c.swap.new.x q) (sym c.swap.ensures.y_after)

  log_is : log ≡ begun 0 (side_start new_header new_header.active) (side_end new_header new_header.active) (active_first new_header)
  log_is = subst (λ (x : Header). log ≡ begun 0 (side_start x x.active) (side_end x x.active) (active_first x)) header_is c.begin_side-active.ensures.log

  begins : (bytes : List ℕ) → side_end new_header new_header.active ≤ length bytes → AreZero (side_start new_header new_header.active) (side_end new_header new_header.active) bytes → LogStandsFor log [] [] bytes
  begins = subst (λ (x : Header). (bytes : List ℕ) → side_end x x.active ≤ length bytes → AreZero (side_start x x.active) (side_end x x.active) bytes → LogStandsFor log [] [] bytes) header_is c.begin_side-active.ensures.stands

pub returns-in-Ok-clause-run : goal.returns-in-Ok-clause-run
returns-in-Ok-clause-run g c = λ here all given.
    let a = (goal.at.returns-in-Ok-clause-run g c).After-put in
    let r = (goal.at.returns-in-Ok-clause-run g c).After-swap in
    let done = c.in-Ok.ensures.counts in
    let clean_now = clean_of g a here in
    let since = since_of g a all given in
    subst (λ (d : Db). RunsTurn all d (made g r c.turned-header.result c.replace.new.dest c.replace.result c.swap.new.x c.swap.new.y) (w g a) (now g a)) c.self.view_is
    (subst (λ (d : Db). RunsTurn all (db g a) d (w g a) (now g a)) (made_is g r)
    (record {
      run = turn_run (db g a) (is g a) clean_now (few g a) all (value g a) (value_is g a) (w g a) (now g a) c.put.ensures.run since;
      stands = turned_since (db g a) (is g a) clean_now (few g a) all (value g a) (value_is g a) (w g a) (now g a) c.put.ensures.run since (reads g a) (pair g a) (its g a) (log g r) (log_is g r) (begins g r)
          (ap (λ (x : PairState). x.settled) done) (ap (λ (x : PairState). x.value) done) (ap (λ (x : PairState). x.tried) done)
          (subst (λ (k : ℕ). EachImage (PairHolds (value g a)) (file_of k (now g a))) (is g a).file c.in-Ok.ensures.holds);
    }))

pub returns-in-Ok-clause-turned : goal.returns-in-Ok-clause-turned
returns-in-Ok-clause-turned g c =
    let a = (goal.at.returns-in-Ok-clause-turned g c).After-put in
    let r = (goal.at.returns-in-Ok-clause-turned g c).After-swap in
    let done = c.in-Ok.ensures.counts in
    let since = since_of g a c.requires.stands.0 c.requires.stands.1 in
    subst (λ (d : Db). IsTurned d (made g r c.turned-header.result c.replace.new.dest c.replace.result c.swap.new.x c.swap.new.y) (now g a)) c.self.view_is
    (subst (λ (d : Db). IsTurned (db g a) d (now g a)) (made_is g r)
    (record {
      header = refl;
      active = log_is g r ∙ ap (begun 0 (side_start (t g a) (t g a).active) (side_end (t g a) (t g a).active)) (turned_active (db g a).header (db g a).active.next (lawful_is (db g a).header (is g a).lawful).active);
      live = refl;
      stands = turned_stands (db g a) (is g a) (clean g a) (few g a) c.requires.stands.0 (value g a) (value_is g a) (w g a) (now g a) c.put.ensures.run since (reads g a) (pair g a) (its g a) (log g r) (log_is g r) (begins g r)
          (ap (λ (x : PairState). x.settled) done) (ap (λ (x : PairState). x.value) done) (ap (λ (x : PairState). x.tried) done)
          (subst (λ (k : ℕ). EachImage (PairHolds (value g a)) (file_of k (now g a))) (is g a).file c.in-Ok.ensures.holds);
    }))

pub returns-in-Ok-clause-entries : goal.returns-in-Ok-clause-entries
returns-in-Ok-clause-entries g c =
    let a = (goal.at.returns-in-Ok-clause-entries g c).After-put in
    let r = (goal.at.returns-in-Ok-clause-entries g c).After-swap in
    let done = c.in-Ok.ensures.counts in
    let since = since_of g a c.requires.stands.0 c.requires.stands.1 in
    turned_entries (db g a) (is g a) (clean g a) (few g a) c.requires.stands.0 (value g a) (value_is g a) (w g a) (now g a) c.put.ensures.run since (reads g a) (pair g a) (its g a) (log g r) (log_is g r) (begins g r)
    (ap (λ (x : PairState). x.settled) done) (ap (λ (x : PairState). x.value) done) (ap (λ (x : PairState). x.tried) done)
    (subst (λ (k : ℕ). EachImage (PairHolds (value g a)) (file_of k (now g a))) (is g a).file c.in-Ok.ensures.holds) (g.met.S.Store.reads_image c.args.store.now 0)

pub returns-in-Ok-clause-placed : goal.returns-in-Ok-clause-placed
returns-in-Ok-clause-placed g c =
    let a = (goal.at.returns-in-Ok-clause-placed g c).After-put in
    let r = (goal.at.returns-in-Ok-clause-placed g c).After-swap in
    let done = c.in-Ok.ensures.counts in
    let kept = keeps_value (t g a) (value g a) (pair g a) (value_is g a) (ap (λ (x : PairState). x.value) done) (ap (λ (x : PairState). x.tried) done) in
    let usable : (db g a).active.in_doubt ≡ false = ap (λ (d : Db). d.active.in_doubt) c.self.view_is ∙ c.requires.usable in (
      subst IsPlaced c.self.view_is (is_placed (db g a) (is g a)),
      subst IsPlaced (made_is g r)
          (is_placed (made g r (t g a) (log g r) (db g a).active [] (db g a).places) (is_db_turned (db g a) (is g a) (pair g a) c.put.ensures.same (clean g a) (few g a) (log g r) usable kept (log_is g r))),
    )

pub returns-in-Err-clause-run : goal.returns-in-Err-clause-run
returns-in-Err-clause-run g c = λ here all given.
    let a = (goal.at.returns-in-Err-clause-run g c).After-put in
    let clean_now = clean_of g a here in
    let since = since_of g a all given in
    subst (λ (d : Db). RunsTurn all d (record { header = c.self.inside.header; pair = c.put.new.self; active = c.self.inside.active; live = c.self.inside.live; places = c.self.inside.places; live_places = c.self.inside.live_places }) (w g a) (now g a)) c.self.view_is
    (record {
      run = turn_run (db g a) (is g a) clean_now (few g a) all (value g a) (value_is g a) (w g a) (now g a) c.put.ensures.run since;
      stands = left_since (db g a) (is g a) clean_now (few g a) all (value g a) (value_is g a) (w g a) (now g a) c.put.ensures.run since (reads g a) (pair g a) (its g a) c.in-Err.ensures.unsettled;
    })

pub returns-in-Err-clause-unsettled : goal.returns-in-Err-clause-unsettled
returns-in-Err-clause-unsettled g c = λ _. c.in-Err.ensures.unsettled.settled
