use Rattle.std.proofs.Common.{◌≡◌, ℕ, List, [], Option, None, refl, sym, ◌∙◌, ap, subst}
use Rattle.odb_device.specs.World.{World, file_of}
use Rattle.odb_device.specs.Images.{EachImage, ReadsImage}
use Rattle.odb_pair.specs.Places.{Holds as PairHolds}
use Rattle.odb_pair.specs.Standing.{PairState, StandsFor as PairStandsFor}
use Rattle.odb_reclog.specs.Standing.{Log}
use Rattle.odb_model.specs.declared.entry.Entry.{Entry}
use Rattle.odb_model.specs.declared.side.OtherSide.TheVariants.{Dirty, Clean}
use Rattle.odb_transdb.specs.declared.header.Header.{Header}
use Rattle.odb_transdb.specs.Header.{header_image, with_other}
use Rattle.odb_transdb.specs.Opened.{entries_in}
use Rattle.odb_transdb.specs.Standing.{Db, IsDb, Stands}
use Rattle.odb_transdb.specs.Turning.{StandsSince, HasZeroOther, RunsClean, IsCleaned}
use Rattle.odb_transdb.specs.contracts.transdb.Transdb.{the_view}
use Rattle.odb_transdb.proofs.Cleaning.{no_live, clean_run, clean_left, clean_done, clean_stands}
use Rattle.odb_transdb.proofs.Heading.{put_only}
use Rattle.odb_transdb.proofs.Settling.{may_stand}
use Rattle.odb_transdb.proofs.transdb.Transdb.put_clean.Given.{Over}
use Rattle.odb_transdb.proofs.transdb.Transdb.put_clean.Goals as goal
use Rattle.odb_transdb.proofs.transdb.Transdb.put_clean.Goals.{After-put}

module _ (g : Over) (c : After-put g) where
  abbrev db : Db
  db = the_view c.self.inside

  abbrev w : World
  w = g.S.Outside.world c.args.store.now

  abbrev now : World
  now = g.S.Outside.world c.put.new.store

  abbrev value : List ℕ
  value = c.image-image.result

  abbrev pair : PairState
  pair = c.put.new.self

  is : IsDb db
  is = c.self.invariant

  dirty : db.header.other ≡ Dirty
  dirty = ap (λ (d : Db). d.header.other) c.self.view_is ∙ c.requires.dirty

  zeros : EachImage (HasZeroOther db.header) (file_of 0 w)
  zeros = subst (λ (d : Db). EachImage (HasZeroOther d.header) (file_of 0 w)) (sym c.self.view_is) c.requires.zero

  value_is : value ≡ header_image (with_other Clean db.header)
  value_is = c.image-image.ensures ∙ ap header_image c.with_other-header.ensures

  reads : ReadsImage (file_of 0 now)
  reads = g.met.S.Store.reads_image c.put.new.store 0

  its : EachImage (PairStandsFor pair) (file_of 0 now)
  its = subst (λ (k : ℕ). EachImage (PairStandsFor pair) (file_of k now)) is.file c.put.ensures.stands

  since_of : (all : List Entry) → StandsSince c.args.self.now all (file_of 0 w) → StandsSince db all (file_of 0 w)
  since_of all given = subst (λ (d : Db). StandsSince d all (file_of 0 w)) (sym c.self.view_is) given

pub returns-in-Ok-clause-run : goal.returns-in-Ok-clause-run
returns-in-Ok-clause-run g c = λ all given.
    let a = (goal.at.returns-in-Ok-clause-run g c).After-put in
    let since = since_of g a all given in
    let p = c.put.new.self in
    let made : Header → Option Log → Db = λ h l. record { header = h; pair = p; active = c.self.inside.active; live = l; places = c.self.inside.places; live_places = c.self.inside.live_places } in
    let none = no_live (db g a) (is g a) all (value g a) (w g a) (now g a) c.put.ensures.run since (reads g a) p (its g a) (value_is g a) (dirty g a) (zeros g a) in
    let done = c.in-Ok.ensures.counts in
    subst (λ (d : Db). RunsClean all d (made c.with_other-header.result c.self.inside.live) (w g a) (now g a)) c.self.view_is
    (subst (λ (l : Option Log). RunsClean all (db g a) (made c.with_other-header.result l) (w g a) (now g a)) (sym none)
    (subst (λ (h : Header). RunsClean all (db g a) (made h None) (w g a) (now g a)) (sym c.with_other-header.ensures)
    (record {
      run = clean_run (db g a) (is g a) all (value g a) (w g a) (now g a) c.put.ensures.run since (reads g a) p (its g a) (value_is g a) (dirty g a) (zeros g a);
      stands = clean_done (db g a) (is g a) all (value g a) (w g a) (now g a) c.put.ensures.run since (reads g a) p (its g a) (value_is g a) (dirty g a) (zeros g a) (ap (λ (x : PairState). x.value) done) (ap (λ (x : PairState). x.tried) done);
    })))

pub returns-in-Ok-clause-clean : goal.returns-in-Ok-clause-clean
returns-in-Ok-clause-clean g c =
    let a = (goal.at.returns-in-Ok-clause-clean g c).After-put in
    let file = file_of 0 (w g a) in
    let since = may_stand (db g a) file (subst (λ (d : Db). Stands d file) (sym c.self.view_is) c.requires.stands) in
    let all = entries_in file in
    let p = c.put.new.self in
    let made : Header → Option Log → Db = λ h l. record { header = h; pair = p; active = c.self.inside.active; live = l; places = c.self.inside.places; live_places = c.self.inside.live_places } in
    let none = no_live (db g a) (is g a) all (value g a) (w g a) (now g a) c.put.ensures.run since (reads g a) p (its g a) (value_is g a) (dirty g a) (zeros g a) in
    let done = c.in-Ok.ensures.counts in
    let holds = subst (λ (k : ℕ). EachImage (PairHolds (value g a)) (file_of k (now g a))) (is g a).file c.in-Ok.ensures.holds in
    subst (λ (d : Db). IsCleaned d (made c.with_other-header.result c.self.inside.live) (now g a)) c.self.view_is
    (subst (λ (l : Option Log). IsCleaned (db g a) (made c.with_other-header.result l) (now g a)) (sym none)
    (subst (λ (h : Header). IsCleaned (db g a) (made h None) (now g a)) (sym c.with_other-header.ensures)
    (record {
      clean = record { header = refl; active = refl; live = refl };
      stands = clean_stands (db g a) (is g a) all (value g a) (w g a) (now g a) c.put.ensures.run since (reads g a) p (its g a) (value_is g a) (dirty g a) (zeros g a) (ap (λ (x : PairState). x.settled) done)
          (ap (λ (x : PairState). x.value) done) (ap (λ (x : PairState). x.tried) done) holds;
    })))

pub returns-in-Err-clause-run : goal.returns-in-Err-clause-run
returns-in-Err-clause-run g c = λ all given.
    let a = (goal.at.returns-in-Err-clause-run g c).After-put in
    let since = since_of g a all given in
    let p = c.put.new.self in
    let made : Db = record { header = c.self.inside.header; pair = p; active = c.self.inside.active; live = c.self.inside.live; places = c.self.inside.places; live_places = c.self.inside.live_places } in
    subst (λ (d : Db). RunsClean all d made (w g a) (now g a)) c.self.view_is
    (record {
      run = clean_run (db g a) (is g a) all (value g a) (w g a) (now g a) c.put.ensures.run since (reads g a) p (its g a) (value_is g a) (dirty g a) (zeros g a);
      stands = clean_left (db g a) (is g a) all (value g a) (w g a) (now g a) c.put.ensures.run since (reads g a) p (its g a) (value_is g a) (dirty g a) (zeros g a) c.in-Err.ensures.unsettled;
    })

pub returns-in-Ok-clause-only : goal.returns-in-Ok-clause-only
returns-in-Ok-clause-only g c = put_only (the_view c.self.inside) [] c.image-image.result (g.S.Outside.world c.args.store.now) (g.S.Outside.world c.put.new.store) c.self.invariant.file c.put.ensures.run

pub returns-in-Err-clause-only : goal.returns-in-Err-clause-only
returns-in-Err-clause-only g c = put_only (the_view c.self.inside) [] c.image-image.result (g.S.Outside.world c.args.store.now) (g.S.Outside.world c.put.new.store) c.self.invariant.file c.put.ensures.run
