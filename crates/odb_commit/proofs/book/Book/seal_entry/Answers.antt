use Rattle.std.proofs.Common.{◌≡◌, ℕ, List, length, Result, Ok, Err, sym, ap, subst}
use Rattle.odb_device.specs.World.{World, file_of}
use Rattle.odb_model.specs.declared.entry.Entry.{Entry}
use Rattle.odb_transdb.specs.declared.error.TransdbError.{TransdbError}
use Rattle.odb_transdb.specs.declared.error.TransdbError.TheVariants as t
use Rattle.odb_transdb.specs.Standing.{Db, AreAlikePlaced, Stands}
use Rattle.odb_transdb.specs.Turning.{MayStand, StandsSince, SettlesFirst as LogSettlesFirst}
use Rattle.odb_transdb.specs.Worlds.{Forces as LogForces}
use Rattle.odb_commit.specs.declared.error.CommitError.{CommitError}
use Rattle.odb_commit.specs.declared.error.CommitError.TheVariants as e
use Rattle.odb_commit.specs.Parts.{Parts, CanSeal}
use Rattle.odb_commit.specs.Sealing.{SealsLog}
use Rattle.odb_commit.proofs.Sealed.{is_image, seals-done, seals-faulted, seals-doubted, aligned-done, aligned-faulted}
use Rattle.odb_commit.proofs.book.Book.seal_entry.Goals as goal
use Rattle.odb_commit.proofs.book.Book.seal_entry.Goals.{After-as_slice}
use Rattle.odb_commit.proofs.book.Book.seal_entry.Given as given

-- before the record is forced
module _ (g : given.Over) (c : After-as_slice g) where
  abbrev old : Parts
  old = record { transdb = c.self.inside.transdb; window = c.self.inside.window; halted = c.self.inside.halted }

  abbrev w : World
  w = g.S.Outside.world c.args.store.now

  stands : MayStand c.self.inside.transdb (file_of 0 w)
  stands = subst (λ (p : Parts). MayStand p.transdb (file_of 0 w)) (sym c.self.view_is) c.requires.stands

  abbrev payload : List ℕ
  payload = c.as_slice.result.now

  ready : CanSeal old c.args.entry payload
  ready =
      subst (λ (bytes : List ℕ). CanSeal old c.args.entry bytes) (sym c.as_slice.ensures)
      (subst (λ (b : Parts). CanSeal b c.args.entry c.args.image) (sym c.self.view_is) c.requires.ready)

pub force-requires-clause-stands : goal.force-requires-clause-stands
force-requires-clause-stands g c = stands g (goal.at.force-requires-clause-stands g c).After-as_slice

pub force-requires-clause-usable : goal.force-requires-clause-usable
force-requires-clause-usable g c = let b = (goal.at.force-requires-clause-usable g c).After-as_slice in (ready g b).usable

pub force-requires-clause-payload : goal.force-requires-clause-payload
force-requires-clause-payload g c = let b = (goal.at.force-requires-clause-payload g c).After-as_slice in is_image (old g b) c.args.entry (payload g b) (ready g b)

-- what is so of the image that was lent and of the log inside is so of those that were given
carried : (entry : Entry) (lent image : List ℕ) (result : Result ℕ CommitError) (inside given new : Db) (before after : World) → lent ≡ image → inside ≡ given
    → SealsLog entry lent result inside new before after → SealsLog entry image result given new before after
carried entry lent image result inside given new before after p q seals =
    subst (λ (bytes : List ℕ). SealsLog entry bytes result given new before after) p
    (subst (λ (db : Db). SealsLog entry lent result db new before after) q seals)

-- what was forced, with this answer
abbrev Forced : Db → Db → List ℕ → World → World → Result ℕ TransdbError → Type 0
Forced db new image before after result = Stands db (file_of 0 before) → LogForces image result db new before after

abbrev Settled : Db → Db → List ℕ → World → World → Result ℕ TransdbError → Type 0
Settled db new image before after result = (all : List Entry) → StandsSince db all (file_of 0 before) → LogSettlesFirst image all result db new before after

pub returns-in-Ok-clause-log : goal.returns-in-Ok-clause-log
returns-in-Ok-clause-log g c =
    let b = (goal.at.returns-in-Ok-clause-log g c).After-as_slice in
    let v : World = g.S.Outside.world c.force.new.store in
    carried c.args.entry (payload g b) c.args.image (Ok c.in-Ok.number) c.self.inside.transdb c.args.self.now.transdb c.force.new.self (w g b) v c.as_slice.ensures (ap (λ (p : Parts). p.transdb) c.self.view_is)
    (seals-done (old g b) c.args.entry (payload g b) (ready g b) c.force.new.self (w g b) v c.force.ensures.placed (stands g b).0 (stands g b).1 c.in-Ok.number c.in-Ok.ensures.forces (c.in-Ok.ensures.settles (ready g b).room))

pub returns-in-Ok-clause-aligned : goal.returns-in-Ok-clause-aligned
returns-in-Ok-clause-aligned g c =
    let b = (goal.at.returns-in-Ok-clause-aligned g c).After-as_slice in
    let v : World = g.S.Outside.world c.force.new.store in
    aligned-done (old g b) c.args.entry (payload g b) (ready g b) c.force.new.self (w g b) v c.force.ensures.placed (stands g b).0 (stands g b).1 c.in-Ok.number c.push.new.self c.self.inside.halted
    (c.in-Ok.ensures.settles (ready g b).room) c.push.ensures.last

pub returns-in-FaultBefore-clause-log : goal.returns-in-FaultBefore-clause-log
returns-in-FaultBefore-clause-log g c =
    let b = (goal.at.returns-in-FaultBefore-clause-log g c).After-as_slice in
    let v : World = g.S.Outside.world c.force.new.store in
    let is : Err c.in-Err.error ≡ Err t.FaultBefore = ap Err c.in-FaultBefore.is in
    let db : Db = c.self.inside.transdb in
    carried c.args.entry (payload g b) c.args.image (Err e.FaultBefore) db c.args.self.now.transdb c.force.new.self (w g b) v c.as_slice.ensures (ap (λ (p : Parts). p.transdb) c.self.view_is)
    (seals-faulted (old g b) c.args.entry (payload g b) (ready g b) c.force.new.self (w g b) v c.force.ensures.placed (stands g b).0 (stands g b).1
    (subst (Forced db c.force.new.self (payload g b) (w g b) v) is c.in-Err.ensures.forces)
    (subst (Settled db c.force.new.self (payload g b) (w g b) v) is (c.in-Err.ensures.settles (ready g b).room)))

pub returns-in-FaultBefore-clause-aligned : goal.returns-in-FaultBefore-clause-aligned
returns-in-FaultBefore-clause-aligned g c =
    let b = (goal.at.returns-in-FaultBefore-clause-aligned g c).After-as_slice in
    let v : World = g.S.Outside.world c.force.new.store in
    let is : Err c.in-Err.error ≡ Err t.FaultBefore = ap Err c.in-FaultBefore.is in
    aligned-faulted (old g b) c.args.entry (payload g b) (ready g b) c.force.new.self (w g b) v c.force.ensures.placed (stands g b).0 (stands g b).1 c.self.inside.halted
    (subst (Settled c.self.inside.transdb c.force.new.self (payload g b) (w g b) v) is (c.in-Err.ensures.settles (ready g b).room))

pub returns-in-InDoubt-clause-log : goal.returns-in-InDoubt-clause-log
returns-in-InDoubt-clause-log g c =
    let b = (goal.at.returns-in-InDoubt-clause-log g c).After-as_slice in
    let v : World = g.S.Outside.world c.force.new.store in
    let is : Err c.in-Err.error ≡ Err (t.InDoubt c.in-InDoubt.number) = ap Err c.in-InDoubt.is in
    let db : Db = c.self.inside.transdb in
    carried c.args.entry (payload g b) c.args.image (Err (e.InDoubt c.in-InDoubt.number)) db c.args.self.now.transdb c.force.new.self (w g b) v c.as_slice.ensures (ap (λ (p : Parts). p.transdb) c.self.view_is)
    (seals-doubted (old g b) c.args.entry (payload g b) (ready g b) c.force.new.self (w g b) v c.force.ensures.placed (stands g b).0 (stands g b).1 c.in-InDoubt.number
    (subst (Forced db c.force.new.self (payload g b) (w g b) v) is c.in-Err.ensures.forces)
    (subst (Settled db c.force.new.self (payload g b) (w g b) v) is (c.in-Err.ensures.settles (ready g b).room)))
