use Rattle.std.proofs.Common.{◌≡◌, ℕ, ◌+◌, ◌-◌, refl, sym, ◌∙◌, ap, subst, arith}
use Rattle.odb_device.specs.World.{World, file_of}
use Rattle.odb_device.specs.Images.{ReadsImage}
use Rattle.odb_reclog.specs.Told.{TearsOnly}
use Rattle.odb_model.specs.declared.side.OtherSide.TheVariants.{Dirty}
use Rattle.odb_transdb.specs.Header.{side_start, side_end, side_size, other_of}
use Rattle.odb_transdb.specs.Standing.{Db, IsDb, Stands}
use Rattle.odb_transdb.specs.Worlds.{KeepsEntries, SameEntries}
use Rattle.odb_transdb.specs.Turning.{WritesOther}
use Rattle.odb_transdb.proofs.Frame.{other_side}
use Rattle.odb_transdb.specs.contracts.transdb.Transdb.{the_view}
use Rattle.odb_transdb.proofs.Cleaning.{zeros_run, zeros_stand, zeros_entries}
use Rattle.odb_transdb.proofs.transdb.Transdb.zero_other.Given.{Over}
use Rattle.odb_transdb.proofs.transdb.Transdb.zero_other.Goals as goal
use Rattle.odb_transdb.proofs.transdb.Transdb.zero_other.Goals.{After-zero_range}

module _ (g : Over) (c : After-zero_range g) where
  abbrev db : Db
  db = the_view c.self.inside

  abbrev w : World
  w = g.S.Outside.world c.args.store.now

  abbrev now : World
  now = g.S.Outside.world c.zero_range.new.store

  is : IsDb db
  is = c.self.invariant

  dirty : db.header.other ≡ Dirty
  dirty = ap (λ (d : Db). d.header.other) c.self.view_is ∙ c.requires.dirty

  stands : Stands db (file_of 0 w)
  stands = subst (λ (d : Db). Stands d (file_of 0 w)) (sym c.self.view_is) c.requires.stands

  start_is : c.side_start-start.result ≡ side_start db.header (other_of db.header)
  start_is = c.side_start-start.ensures ∙ ap (side_start db.header) c.other_side.ensures

  run : TearsOnly 0 (side_start db.header (other_of db.header)) (side_end db.header (other_of db.header) - side_start db.header (other_of db.header)) w now
  run =
      subst (λ (s : ℕ). TearsOnly 0 s (s + side_size db.header - s) w now) start_is
      (subst (λ (k : ℕ). TearsOnly 0 c.side_start-start.result (c.side_start-start.result + k - c.side_start-start.result) w now) c.side_size.ensures c.zero_range.ensures.run)

  reads : ReadsImage (file_of 0 now)
  reads = g.met.S.Store.reads_image c.zero_range.new.store 0

  keeps : KeepsEntries c.args.self.now w now
  keeps = subst (λ (d : Db). KeepsEntries d w now) c.self.view_is (zeros_run db is dirty w now stands run)

  still : Stands c.args.self.now (file_of 0 now)
  still = subst (λ (d : Db). Stands d (file_of 0 now)) c.self.view_is (zeros_stand db is dirty w now stands run reads)

  same : SameEntries w now
  same = zeros_entries db is dirty w now stands run reads

  only : WritesOther c.args.self.now.header w now
  only =
      subst (λ (d : Db). WritesOther d.header w now) c.self.view_is
      (other_side db.header (side_start db.header (other_of db.header)) (side_end db.header (other_of db.header) - side_start db.header (other_of db.header)) w now refl (omega arith) run)

pub returns-in_err-zero_range-clause-only : goal.returns-in_err-zero_range-clause-only
returns-in_err-zero_range-clause-only g c = only g (goal.at.returns-in_err-zero_range-clause-only g c).After-zero_range

pub returns-clause-only : goal.returns-clause-only
returns-clause-only g c = only g (goal.at.returns-clause-only g c).After-zero_range

pub returns-in_err-zero_range-clause-run : goal.returns-in_err-zero_range-clause-run
returns-in_err-zero_range-clause-run g c = keeps g (goal.at.returns-in_err-zero_range-clause-run g c).After-zero_range

pub returns-in_err-zero_range-clause-stands : goal.returns-in_err-zero_range-clause-stands
returns-in_err-zero_range-clause-stands g c = still g (goal.at.returns-in_err-zero_range-clause-stands g c).After-zero_range

pub returns-in_err-zero_range-clause-entries : goal.returns-in_err-zero_range-clause-entries
returns-in_err-zero_range-clause-entries g c = same g (goal.at.returns-in_err-zero_range-clause-entries g c).After-zero_range

pub returns-clause-run : goal.returns-clause-run
returns-clause-run g c = keeps g (goal.at.returns-clause-run g c).After-zero_range

pub returns-clause-stands : goal.returns-clause-stands
returns-clause-stands g c = still g (goal.at.returns-clause-stands g c).After-zero_range

pub returns-clause-entries : goal.returns-clause-entries
returns-clause-entries g c = same g (goal.at.returns-clause-entries g c).After-zero_range
