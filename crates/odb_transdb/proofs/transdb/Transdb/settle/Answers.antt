use Rattle.std.proofs.Common.{◌≡◌, ℕ, false, List, refl, sym, ap, subst}
use Rattle.odb_device.specs.World.{World, file_of}
use Rattle.odb_device.specs.Images.{EachImage, ReadsImage}
use Rattle.odb_pair.specs.Places.{Holds as PairHolds}
use Rattle.odb_pair.specs.Standing.{PairState, StandsFor as PairStandsFor, Stands as PairStands, LeavesUnsettled, after_put}
use Rattle.odb_model.specs.declared.entry.Entry.{Entry}
use Rattle.odb_transdb.specs.Header.{header_image}
use Rattle.odb_transdb.specs.Standing.{Db, IsDb, IsSettled, Stands}
use Rattle.odb_transdb.specs.Turning.{StandsSince, RunsSettling}
use Rattle.odb_transdb.specs.contracts.transdb.Transdb.{the_view}
use Rattle.odb_transdb.proofs.Heading.{since_pair, put_only}
use Rattle.odb_transdb.proofs.Cleaning.{same_run, same_left, same_done, same_stands}
use Rattle.odb_transdb.proofs.Composing.{by_result, err_with, ok_with, still_settled, still_stands}
use Rattle.odb_transdb.proofs.transdb.Transdb.settle.Given.{Over}
use Rattle.odb_transdb.proofs.transdb.Transdb.settle.Goals as goal
use Rattle.odb_transdb.proofs.transdb.Transdb.settle.Goals.{Then-settled, After-put}

-- nothing is done
module _ (g : Over) (c : Then-settled g) where
  abbrev first_db : Db
  first_db = the_view c.self.inside

  abbrev first_world : World
  first_world = g.S.Outside.world c.args.store.now

  settled_now : IsSettled first_db
  settled_now =
      let is = sym c.if-settled.ensures.value in
      let kept = c.self.invariant.kept is in
      record { lawful = c.self.invariant.lawful; settled = is; value = kept.0; tried = kept.1 }

  first_since : (all : List Entry) → StandsSince c.args.self.now all (file_of 0 first_world) → StandsSince first_db all (file_of 0 first_world)
  first_since all given = subst (λ (d : Db). StandsSince d all (file_of 0 first_world)) (sym c.self.view_is) given

pub returns-then-settled-clause-run : goal.returns-then-settled-clause-run
returns-then-settled-clause-run g c = λ all given.
    let w = g.S.Outside.world c.args.store.now in
    subst (λ (d : Db). RunsSettling all d d w w) c.self.view_is (still_settled (the_view c.self.inside) all w (settled_now g c) (c.if-settled.ensures.holds refl) (first_since g c all given))

pub returns-then-settled-clause-stands : goal.returns-then-settled-clause-stands
returns-then-settled-clause-stands g c =
    let w = g.S.Outside.world c.args.store.now in
    let stands = c.requires.stands in
    subst (λ (d : Db). Stands d (file_of 0 w)) c.self.view_is
    (still_stands (the_view c.self.inside) stands.0 w (settled_now g c) (c.if-settled.ensures.holds refl) (first_since g c stands.0 stands.1) (g.met.S.Store.reads_image c.args.store.now 0))

pub put-requires : goal.put-requires
put-requires g c =
    let w = g.S.Outside.world c.args.store.now in
    let db = the_view c.self.inside in
    let stands = c.requires.stands in
    let since : StandsSince db stands.0 (file_of 0 w) = subst (λ (d : Db). StandsSince d stands.0 (file_of 0 w)) (sym c.self.view_is) stands.1 in
    subst (λ (k : ℕ). PairStands db.pair (file_of k w)) (sym c.self.invariant.file) (since_pair db stands.0 (file_of 0 w) since)

-- the header is put once more
module _ (g : Over) (c : After-put g) where
  abbrev db : Db
  db = the_view c.self.inside

  abbrev w : World
  w = g.S.Outside.world c.args.store.now

  abbrev now : World
  now = g.S.Outside.world c.put.new.store

  abbrev value : List ℕ
  value = c.image-image.result

  abbrev pair : PairState
  pair = c.put.new.self

  is : IsDb db
  is = c.self.invariant

  value_is : value ≡ header_image db.header
  value_is = c.image-image.ensures

  reads : ReadsImage (file_of 0 now)
  reads = g.met.S.Store.reads_image c.put.new.store 0

  its : EachImage (PairStandsFor pair) (file_of 0 now)
  its = subst (λ (k : ℕ). EachImage (PairStandsFor pair) (file_of k now)) is.file c.put.ensures.stands

  abbrev made : Db
  made = record { header = db.header; pair = pair; active = db.active; live = db.live; places = db.places; live_places = db.live_places }

  module _ (all : List Entry) (given : StandsSince c.args.self.now all (file_of 0 w)) where
    since : StandsSince db all (file_of 0 w)
    since = subst (λ (d : Db). StandsSince d all (file_of 0 w)) (sym c.self.view_is) given

    runs : RunsSettling all c.args.self.now made w now
    runs =
        subst (λ (d : Db). RunsSettling all d made w now) c.self.view_is
        (record {
          run = same_run db is all value w now c.put.ensures.run since reads pair its value_is;
          only = put_only db all value w now is.file c.put.ensures.run;
          stands = by_result (pair ≡ after_put db.pair value) (LeavesUnsettled value db.pair pair) (StandsSince made all (file_of 0 now)) c.put.result
              (λ done. same_done db is all value w now c.put.ensures.run since reads pair its value_is (ap (λ (p : PairState). p.value) done) (ap (λ (p : PairState). p.tried) done))
              (λ left. same_left db is all value w now c.put.ensures.run since reads pair its value_is left) c.put.ensures.counts c.put.ensures.unsettled;
          sides = record { header = refl; active = refl; live = refl; places = refl; live_places = refl };
        })

    done_stands : pair ≡ after_put db.pair value → EachImage (PairHolds value) (file_of db.pair.file now) → Stands made (file_of 0 now)
    done_stands done holds =
        same_stands db is all value w now c.put.ensures.run since reads pair its value_is (ap (λ (p : PairState). p.settled) done) (ap (λ (p : PairState). p.value) done) (ap (λ (p : PairState). p.tried) done)
        (subst (λ (k : ℕ). EachImage (PairHolds value) (file_of k now)) is.file holds)

pub returns-clause-run : goal.returns-clause-run
returns-clause-run g c = λ all given. runs g (goal.at.returns-clause-run g c).After-put all given

pub returns-clause-stands : goal.returns-clause-stands
returns-clause-stands g c =
    let a = (goal.at.returns-clause-stands g c).After-put in
    let stands = c.requires.stands in
    ok_with (c.put.new.self ≡ after_put c.self.inside.pair (value g a)) (EachImage (PairHolds (value g a)) (file_of c.self.inside.pair.file (now g a))) (Stands (made g a) (file_of 0 (now g a))) c.put.result
    (λ done holds. done_stands g a stands.0 stands.1 done holds) c.put.ensures.counts c.put.ensures.holds

pub returns-clause-unsettled : goal.returns-clause-unsettled
returns-clause-unsettled g c =
    let a = (goal.at.returns-clause-unsettled g c).After-put in
    err_with (LeavesUnsettled (value g a) c.self.inside.pair c.put.new.self) (c.put.new.self.settled ≡ false) c.put.result (λ left. left.settled) c.put.ensures.unsettled
