use Rattle.std.proofs.Common.{◌≡◌, ℕ, sym, ◌∙◌, subst}
use Rattle.odb_transdb.specs.Standing.{Db, IsDb, Stands}
use Rattle.odb_transdb.specs.contracts.transdb.Transdb.{the_view}
use Rattle.odb_transdb.proofs.Kept.{KeepsNext, within_end}
use Rattle.odb_transdb.proofs.Placed.{with_places, stands_kept}
use Rattle.odb_transdb.proofs.Standing.{is_placed}
use Rattle.odb_transdb.proofs.transdb.Transdb.keep_place.Goals as goal
use Rattle.odb_transdb.proofs.transdb.Transdb.keep_place.Goals.{After-keep}

-- what is kept is the place of the next record
module _ (c : After-keep) where
  abbrev db : Db
  db = the_view c.self.inside

  first_is : c.first_on-first.result ≡ db.active.first
  first_is = c.first_on-first.ensures ∙ sym c.self.invariant.active.first

  keeps : KeepsNext db.active.first db.active.next db.active.place db.places c.keep.new.self
  keeps =
      subst (λ (f : ℕ). KeepsNext f db.active.next db.active.place db.places c.keep.new.self) first_is
      (subst (λ (n : ℕ). KeepsNext c.first_on-first.result n db.active.place db.places c.keep.new.self) c.next_number.ensures
      (subst (λ (p : ℕ). KeepsNext c.first_on-first.result c.next_number.result p db.places c.keep.new.self) c.place.ensures.value c.keep.ensures))

  left : IsDb (with_places db c.keep.new.self)
  left = record {
    lawful = c.self.invariant.lawful;
    file = c.self.invariant.file;
    kept = c.self.invariant.kept;
    active = c.self.invariant.active;
    place = c.self.invariant.place;
    from = c.self.invariant.from;
    live = c.self.invariant.live;
    places = within_end db.active db.places c.keep.new.self c.self.invariant.places c.self.invariant.place keeps;
    live_places = c.self.invariant.live_places;
  }

pub returns-clause-stands : goal.returns-clause-stands
returns-clause-stands c = λ file reads stands.
    let a = (goal.at.returns-clause-stands c).After-keep in
    stands_kept (the_view c.self.inside) c.keep.new.self file reads (keeps a) (subst (λ (d : Db). Stands d file) (sym c.self.view_is) stands)

pub returns-clause-placed : goal.returns-clause-placed
returns-clause-placed c = is_placed (with_places (the_view c.self.inside) c.keep.new.self) (left (goal.at.returns-clause-placed c).After-keep)

pub invariant_of-self : goal.invariant_of-self
invariant_of-self c = left (goal.at.invariant_of-self c).After-keep
