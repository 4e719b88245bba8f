use Rattle.std.proofs.Common.{◌≡◌, ◌≢◌, ℕ, List, [], None, Result, OnOk, sym, ◌∙◌, ap, subst}
use Rattle.odb_device.specs.World.{World, file_of}
use Rattle.odb_device.specs.Images.{EachImage, ReadsImage}
use Rattle.odb_pair.specs.Places.{Holds as PairHolds}
use Rattle.odb_pair.specs.Standing.{PairState, StandsFor as PairStandsFor, Stands as PairStands, LeavesUnsettled, after_put}
use Rattle.odb_model.specs.declared.entry.Entry.{Entry}
use Rattle.odb_model.specs.declared.side.OtherSide.TheVariants.{Dirty, Clean}
use Rattle.odb_transdb.specs.declared.header.Header.{Header}
use Rattle.odb_transdb.specs.Header.{header_image, with_other}
use Rattle.odb_transdb.specs.Standing.{Db, IsDb, Stands}
use Rattle.odb_transdb.specs.Turning.{StandsSince, RunsClean}
use Rattle.odb_transdb.specs.contracts.transdb.Transdb.{the_view}
use Rattle.odb_transdb.proofs.Heading.{since_pair, put_only}
use Rattle.odb_transdb.proofs.Cleaning.{dirty_run, dirty_left, dirty_done, dirty_stands}
use Rattle.odb_transdb.proofs.Composing.{by_result}
use Rattle.odb_transdb.proofs.transdb.Transdb.put_dirty.Given.{Over}
use Rattle.odb_transdb.proofs.transdb.Transdb.put_dirty.Goals as goal
use Rattle.odb_transdb.proofs.transdb.Transdb.put_dirty.Goals.{After-put, in-Ok, in-Err}

module _ (g : Over) (c : After-put g) where
  abbrev db : Db
  db = the_view c.self.inside

  abbrev w : World
  w = g.S.Outside.world c.args.store.now

  abbrev now : World
  now = g.S.Outside.world c.put.new.store

  abbrev value : List ℕ
  value = c.image-image.result

  abbrev pair : PairState
  pair = c.put.new.self

  is : IsDb db
  is = c.self.invariant

  other : db.header.other ≢ Clean
  other = λ e. c.requires.other (ap (λ (d : Db). d.header.other) (sym c.self.view_is) ∙ e)

  value_is : value ≡ header_image (with_other Dirty db.header)
  value_is = c.image-image.ensures ∙ ap header_image c.with_other-self-inside.ensures

  reads : ReadsImage (file_of 0 now)
  reads = g.met.S.Store.reads_image c.put.new.store 0

  its : EachImage (PairStandsFor pair) (file_of 0 now)
  its = subst (λ (k : ℕ). EachImage (PairStandsFor pair) (file_of k now)) is.file c.put.ensures.stands

  module _ (all : List Entry) (given : StandsSince c.args.self.now all (file_of 0 w)) where
    since : StandsSince db all (file_of 0 w)
    since = subst (λ (d : Db). StandsSince d all (file_of 0 w)) (sym c.self.view_is) given

    after : StandsSince (record { header = with_other Dirty db.header; pair = pair; active = db.active; live = None; places = db.places; live_places = c.clear.new.self }) all (file_of 0 now)
    after =
        by_result (pair ≡ after_put db.pair value) (LeavesUnsettled value db.pair pair) _ c.put.result
        (λ done. dirty_done db is all value w now c.put.ensures.run since reads pair its value_is other c.clear.new.self (ap (λ (p : PairState). p.value) done) (ap (λ (p : PairState). p.tried) done))
        (λ left. dirty_left db is all value w now c.put.ensures.run since reads pair its value_is other c.clear.new.self left) c.put.ensures.counts c.put.ensures.unsettled

    runs : RunsClean all c.args.self.now (record { header = c.with_other-self-inside.result; pair = pair; active = db.active; live = None; places = db.places; live_places = c.clear.new.self }) w now
    runs =
        subst (λ (d : Db). RunsClean all d (record { header = c.with_other-self-inside.result; pair = pair; active = db.active; live = None; places = db.places; live_places = c.clear.new.self }) w now) c.self.view_is
        (subst (λ (h : Header). RunsClean all db (record { header = h; pair = pair; active = db.active; live = None; places = db.places; live_places = c.clear.new.self }) w now) (sym c.with_other-self-inside.ensures)
        (record { run = dirty_run db is all value w now c.put.ensures.run since reads pair its value_is other; stands = after }))

    done_stands : pair ≡ after_put db.pair value → EachImage (PairHolds value) (file_of db.pair.file now) → Stands (record { header = c.with_other-self-inside.result; pair = pair; active = db.active; live = None; places = db.places; live_places = c.clear.new.self }) (file_of 0 now)
    done_stands done holds =
        subst (λ (h : Header). Stands (record { header = h; pair = pair; active = db.active; live = None; places = db.places; live_places = c.clear.new.self }) (file_of 0 now)) (sym c.with_other-self-inside.ensures)
        (dirty_stands db is all value w now c.put.ensures.run since reads pair its value_is other c.clear.new.self (ap (λ (p : PairState). p.settled) done) (ap (λ (p : PairState). p.value) done) (ap (λ (p : PairState). p.tried) done)
        (subst (λ (k : ℕ). EachImage (PairHolds value) (file_of k now)) is.file holds))

pub put-requires : goal.put-requires
put-requires g c =
    let w = g.S.Outside.world c.args.store.now in
    let db = the_view c.self.inside in
    let stands = c.requires.stands in
    let since : StandsSince db stands.0 (file_of 0 w) = subst (λ (d : Db). StandsSince d stands.0 (file_of 0 w)) (sym c.self.view_is) stands.1 in
    subst (λ (k : ℕ). PairStands db.pair (file_of k w)) (sym c.self.invariant.file) (since_pair db stands.0 (file_of 0 w) since)

pub returns-clause-run : goal.returns-clause-run
returns-clause-run g c = λ all given. runs g (goal.at.returns-clause-run g c).After-put all given

pub returns-clause-stands : goal.returns-clause-stands
returns-clause-stands g c =
    let a = (goal.at.returns-clause-stands g c).After-put in
    let made : Db = record { header = c.with_other-self-inside.result; pair = c.put.new.self; active = c.self.inside.active; live = None; places = c.self.inside.places; live_places = c.clear.new.self } in
    elim c.match-put.branch [
      | in-Ok x ↦
          subst (λ (r : Result (Unit {0}) _). OnOk r (Stands made (file_of 0 (g.S.Outside.world c.put.new.store)))) (sym x.result-is)
          (done_stands g a c.requires.stands.0 c.requires.stands.1 x.in-Ok.ensures.counts x.in-Ok.ensures.holds)
      | in-Err x ↦ subst (λ (r : Result (Unit {0}) _). OnOk r (Stands made (file_of 0 (g.S.Outside.world c.put.new.store)))) (sym x.result-is) tt
    ]

pub returns-clause-only : goal.returns-clause-only
returns-clause-only g c = put_only (the_view c.self.inside) [] c.image-image.result (g.S.Outside.world c.args.store.now) (g.S.Outside.world c.put.new.store) c.self.invariant.file c.put.ensures.run
