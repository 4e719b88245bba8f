use Rattle.std.proofs.Common.{◌≡◌, List, Result, Ok, Err, OnErr, subst, arith}
use Rattle.std.specs.Prelude.{is_some}
use Rattle.odb_device.specs.World.{World, file_of}
use Rattle.odb_device.specs.Images.{EachImage}
use Rattle.odb_device.specs.Calls.{FileCountRose}
use Rattle.odb_device.specs.Moments.{ChangesOnly}
use Rattle.odb_device.proofs.Time.{joins, rose_behind}
use Rattle.odb_model.specs.declared.entry.Entry.{Entry}
use Rattle.odb_model.specs.declared.side.OtherSide.TheVariants.{Dirty}
use Rattle.odb_transdb.specs.declared.error.TransdbError.{TransdbError}
use Rattle.odb_transdb.specs.declared.error.TransdbError.TheVariants.{Fault}
use Rattle.odb_transdb.specs.declared.header.Header.{Header}
use Rattle.odb_transdb.specs.Standing.{Db}
use Rattle.odb_transdb.specs.Turning.{StandsSince, EndsHeld, HoldsOneOf, IsOfClean, HasOther, RunsClean, WritesOther}
use Rattle.odb_transdb.proofs.Standing.{stands_settled}
use Rattle.odb_transdb.proofs.Quiet.{still_clean}
use Rattle.odb_transdb.proofs.Frame.{other_still, other_pair, other_then}
use Rattle.odb_transdb.proofs.Composing.{ends_of, since_again, zeros_along, clean_along}
use Rattle.odb_transdb.proofs.transdb.Transdb.clean.Given.{Over}
use Rattle.odb_transdb.proofs.transdb.Transdb.clean.Goals as goal
use Rattle.odb_transdb.proofs.transdb.Transdb.clean.Goals.{In_ok-put_dirty, After-zero_other, After-put_clean}

-- once the side is Dirty
module _ (g : Over) (c : After-zero_other g) where
  abbrev db : Db
  db = c.args.self.now

  abbrev d : Db
  d = c.put_dirty.new.self

  abbrev w : World
  w = g.S.Outside.world c.args.store.now

  abbrev m1 : World
  m1 = g.S.Outside.world c.put_dirty.new.store

  abbrev m2 : World
  m2 = g.S.Outside.world c.zero_other.new.store

  dirty : HasOther Dirty db d
  dirty = c.in_ok-put_dirty.ensures.dirty

  only : ChangesOnly 0 w m1
  only = (c.in_ok-put_dirty.ensures.run c.requires.stands.0 c.requires.stands.1).run.only

  told : is_some (file_of 0 m2) ≡ is_some (file_of 0 m1)
  told = c.zero_other.ensures.run.only.told m2.time c.zero_other.ensures.run.only.later (omega arith)

  module _ (all : List Entry) (since : StandsSince db all (file_of 0 w)) where
    first : RunsClean all db d w m1
    first = c.in_ok-put_dirty.ensures.run all since

    end : EndsHeld d all (file_of 0 m1)
    end = ends_of d all (file_of 0 m1) (g.met.S.Store.reads_image c.put_dirty.new.store 0) c.in_ok-put_dirty.ensures.stands first.stands

    zeroed : RunsClean all db d w m2
    zeroed = record {
      run = joins 0 (EachImage (HoldsOneOf (IsOfClean db) db.active.next all)) w m1 m2 first.run (zeros_along db d dirty all m1 m2 end c.zero_other.ensures.run);
      stands = since_again d all (file_of 0 m1) (file_of 0 m2) told end c.zero_other.ensures.entries c.zero_other.ensures.stands;
    }

  -- the pair and the other side alone were written, under a header that has it in the same place
  only_pair : WritesOther db.header w m1
  only_pair = other_pair db.header w m1 c.put_dirty.ensures.only

  only_zeros : WritesOther db.header w m2
  only_zeros = other_then db.header w m1 m2 only_pair (subst (λ (h : Header). WritesOther h m1 m2) dirty.header c.zero_other.ensures.only)

pub returns-then-eq-clause-only : goal.returns-then-eq-clause-only
returns-then-eq-clause-only g c = other_still c.args.self.now.header (g.S.Outside.world c.args.store.now)

pub returns-then-least-last-clause-only : goal.returns-then-least-last-clause-only
returns-then-least-last-clause-only g c = other_still c.args.self.now.header (g.S.Outside.world c.args.store.now)

pub returns-in_err-put_dirty-clause-only : goal.returns-in_err-put_dirty-clause-only
returns-in_err-put_dirty-clause-only g c = other_pair c.args.self.now.header (g.S.Outside.world c.args.store.now) (g.S.Outside.world c.put_dirty.new.store) c.put_dirty.ensures.only

pub returns-in_err-zero_other-clause-only : goal.returns-in_err-zero_other-clause-only
returns-in_err-zero_other-clause-only g c = only_zeros g (goal.at.returns-in_err-zero_other-clause-only g c).After-zero_other

pub returns-clause-only : goal.returns-clause-only
returns-clause-only g c =
    let a = (goal.at.returns-clause-only g c).After-zero_other in
    let now = g.S.Outside.world c.put_clean.new.store in
    other_then (db g a).header (w g a) (m2 g a) now (only_zeros g a) (other_pair (db g a).header (m2 g a) now c.put_clean.ensures.only)

pub returns-then-eq-clause-run : goal.returns-then-eq-clause-run
returns-then-eq-clause-run g c = λ all since. still_clean c.args.self.now all (g.S.Outside.world c.args.store.now) since

pub returns-then-least-last-clause-run : goal.returns-then-least-last-clause-run
returns-then-least-last-clause-run g c = λ all since. still_clean c.args.self.now all (g.S.Outside.world c.args.store.now) since

pub returns-in_err-zero_other-clause-run : goal.returns-in_err-zero_other-clause-run
returns-in_err-zero_other-clause-run g c = λ all since. zeroed g (goal.at.returns-in_err-zero_other-clause-run g c).After-zero_other all since

pub returns-in_err-zero_other-clause-cause : goal.returns-in_err-zero_other-clause-cause
returns-in_err-zero_other-clause-cause g c = λ fault.
    let a = (goal.at.returns-in_err-zero_other-clause-cause g c).After-zero_other in
    rose_behind 0 0 (w g a) (m1 g a) (m2 g a) (only g a) c.in_err-zero_other.ensures.cause

pub returns-clause-run : goal.returns-clause-run
returns-clause-run g c = λ all since.
    let a = (goal.at.returns-clause-run g c).After-zero_other in
    let before = zeroed g a all since in
    let now = g.S.Outside.world c.put_clean.new.store in
    let last = c.put_clean.ensures.run all before.stands in
    let settled = stands_settled (d g a) (file_of 0 (m2 g a)) c.zero_other.ensures.stands in
    record {
      run = joins 0 (EachImage (HoldsOneOf (IsOfClean (db g a)) (db g a).active.next all)) (w g a) (m2 g a) now before.run (clean_along (db g a) (d g a) (dirty g a) all (m2 g a) now settled last.run);
      stands = last.stands;
    }

-- a count that rose in an answer that is a fault
fault_rose : {T : Type 0} (r : Result T TransdbError) (old new : World) → OnErr r (FileCountRose 0 old new) → r ≡ Err Fault → FileCountRose 0 old new
fault_rose (Ok x) old new rose is = absurd (cc is)
fault_rose (Err e) old new rose is = rose

pub returns-clause-cause : goal.returns-clause-cause
returns-clause-cause g c = λ fault.
    let a = (goal.at.returns-clause-cause g c).After-zero_other in
    let before = zeroed g a c.requires.stands.0 c.requires.stands.1 in
    let now = g.S.Outside.world c.put_clean.new.store in
    rose_behind 0 0 (w g a) (m2 g a) now before.run.only (fault_rose c.put_clean.result (m2 g a) now c.put_clean.ensures.cause fault)
