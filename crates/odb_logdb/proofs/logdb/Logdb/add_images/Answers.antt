use Rattle.std.proofs.Common.{◌≡◌, ℕ, ◌-◌, List, Result, Ok, Err, refl, sym, ◌∙◌, ap, subst}
use Rattle.odb_device.specs.World.{World, file_of}
use Rattle.odb_device.specs.Images.{ReadsImage}
use Rattle.odb_extent.specs.Standing.{ExtentState}
use Rattle.odb_reclog.specs.Standing.{Log}
use Rattle.odb_entries.specs.Listed.{entries_from}
use Rattle.odb_model.specs.declared.entry.Entry.{Entry}
use Rattle.odb_logdb.specs.declared.fields.LogFields.{LogFields}
use Rattle.odb_logdb.specs.declared.error.AddError.{AddError}
use Rattle.odb_logdb.specs.declared.error.AddError.TheVariants.{Fault as AddFault, InDoubt, Full}
use Rattle.odb_logdb.specs.declared.error.LogdbError.{LogdbError}
use Rattle.odb_logdb.specs.declared.error.LogdbError.TheVariants.{Fault, LogFull}
use Rattle.odb_logdb.specs.declared.state.ListState.{ListState}
use Rattle.odb_logdb.specs.declared.state.ListState.TheVariants.{Known, Unknown}
use Rattle.odb_logdb.specs.Standing.{LogState, IsLogdb, Stands, next_of, held}
use Rattle.odb_logdb.specs.Adding.{AddsAll, MovesAll}
use Rattle.odb_logdb.specs.Appending.{AddsImages, MovesImages}
use Rattle.odb_logdb.specs.contracts.logdb.Logdb.{the_view}
use Rattle.odb_logdb.proofs.Stood.{log_with, known_is, unknown_is}
use Rattle.odb_logdb.proofs.Images.{known_here, next_here, adds_known, adds_unknown, adds_whole, moves_full}
use Rattle.odb_logdb.proofs.logdb.Logdb.add_images.Given.{Over}
use Rattle.odb_logdb.proofs.logdb.Logdb.add_images.Goals as goal
use Rattle.odb_logdb.proofs.logdb.Logdb.add_images.Goals.{After-add_all}

module _ (g : Over) (c : After-add_all g) where
  -- the log as its fields are
  abbrev l : LogState
  l = the_view c.self.inside

  abbrev w : World
  w = g.S.Outside.world c.args.store.now

  abbrev now : World
  now = g.S.Outside.world c.add_all.new.store

  abbrev e : ExtentState
  e = c.add_all.new.extents

  abbrev f : LogFields
  f = c.self.inside.fields

  abbrev log : Log
  log = c.add_all.new.log

  abbrev count : ℕ
  count = log.next - c.self.inside.log.next

  known : l.state ≡ Known
  known = ap (λ (x : LogState). x.state) c.self.view_is ∙ c.requires.known

  stands : Stands l (file_of 1 w)
  stands = subst (λ (x : LogState). Stands x (file_of 1 w)) (sym c.self.view_is) c.requires.stands

  reads : ReadsImage (file_of 1 w)
  reads = g.met.S.Store.reads_image c.args.store.now 1

  reads_now : ReadsImage (file_of 1 now)
  reads_now = g.met.S.Store.reads_image c.add_all.new.store 1

  next : next_of c.args.self.now ≡ c.self.inside.log.next
  next = ap next_of (sym c.self.view_is) ∙ next_here l w now c.self.invariant known reads reads_now stands

  adds : (given : List Entry) → entries_from (next_of c.args.self.now) 0 c.args.images.now ≡ Ok given → AddsAll e f log (held l (file_of 1 w)) given count c.add_all.result w now
  adds given read =
      c.add_all.ensures.adds f (held l (file_of 1 w)) given (known_here l w now c.self.invariant known reads reads_now stands)
      (subst (λ (n : ℕ). entries_from n 0 c.args.images.now ≡ Ok given) next read)

  adds_as : (r : Result (Unit {0}) AddError) → c.add_all.result ≡ r → (given : List Entry) → entries_from (next_of c.args.self.now) 0 c.args.images.now ≡ Ok given → AddsAll e f log (held l (file_of 1 w)) given count r w now
  adds_as r is given read = subst (λ (x : Result (Unit {0}) AddError). AddsAll e f log (held l (file_of 1 w)) given count x w now) is (adds given read)

  -- as the call's words have it
  in_words : (s : ListState) (given : List Entry) (r : Result (Unit {0}) LogdbError) → AddsImages given r l (log_with e f log s) w now → AddsImages given r c.args.self.now (log_with e f log s) w now
  in_words s given r here = subst (λ (x : LogState). AddsImages given r x (log_with e f log s) w now) c.self.view_is here

  still : (P : ListState → Type 0) → P Known → P c.self.inside.state
  still P here = subst P (sym known) here

pub add_all-requires-clause-held : goal.add_all-requires-clause-held
add_all-requires-clause-held g c =
    let l = the_view c.self.inside in
    let w = g.S.Outside.world c.args.store.now in
    let known : l.state ≡ Known = ap (λ (x : LogState). x.state) c.self.view_is ∙ c.requires.known in
    let stands : Stands l (file_of 1 w) = subst (λ (x : LogState). Stands x (file_of 1 w)) (sym c.self.view_is) c.requires.stands in
    let reads = g.met.S.Store.reads_image c.args.store.now 1 in
    (c.self.inside.fields, held l (file_of 1 w), known_here l w w c.self.invariant known reads reads stands)

pub returns-in-Ok-clause-adds : goal.returns-in-Ok-clause-adds
returns-in-Ok-clause-adds g c = λ given read.
    let a = (goal.at.returns-in-Ok-clause-adds g c).After-add_all in
    in_words g a c.self.inside.state given (Ok tt)
    (still g a (λ (s : ListState). AddsImages given (Ok tt) (l g a) (log_with (e g a) (f g a) (log g a) s) (w g a) (now g a))
    (adds_whole (l g a) (w g a) (now g a) c.self.invariant (known g a) (reads g a) (reads_now g a) (stands g a) (e g a) (log g a) given (count g a) (adds_as g a (Ok tt) c.in-Ok.is given read)))

pub returns-in-Err-Fault-clause-adds : goal.returns-in-Err-Fault-clause-adds
returns-in-Err-Fault-clause-adds g c = λ given read.
    let a = (goal.at.returns-in-Err-Fault-clause-adds g c).After-add_all in
    let all = adds_as g a (Err AddFault) (c.in-Err-Fault.is ∙ ap Err c.in-Err-Fault.field-0-is) given read in
    in_words g a c.self.inside.state given (Err Fault)
    (still g a (λ (s : ListState). AddsImages {T = Unit {0}} given (Err Fault) (l g a) (log_with (e g a) (f g a) (log g a) s) (w g a) (now g a))
    (adds_known (l g a) (w g a) (now g a) c.self.invariant (known g a) (reads g a) (reads_now g a) (stands g a) (e g a) (log g a) given (count g a) all.run (Err Fault) tt all.leaves))

pub returns-in-Err-InDoubt-clause-adds : goal.returns-in-Err-InDoubt-clause-adds
returns-in-Err-InDoubt-clause-adds g c = λ given read.
    let a = (goal.at.returns-in-Err-InDoubt-clause-adds g c).After-add_all in
    let all = adds_as g a (Err InDoubt) (c.in-Err-InDoubt.is ∙ ap Err c.in-Err-InDoubt.field-0-is) given read in
    in_words g a Unknown given (Err Fault)
    (adds_unknown (l g a) (w g a) (now g a) c.self.invariant (known g a) (reads g a) (reads_now g a) (stands g a) (e g a) (log g a) given (count g a) all.run (Err Fault) tt all.leaves)

pub returns-in-Err-Full-clause-adds : goal.returns-in-Err-Full-clause-adds
returns-in-Err-Full-clause-adds g c = λ given read.
    let a = (goal.at.returns-in-Err-Full-clause-adds g c).After-add_all in
    let need = c.in-Err-Full.need in
    let room = c.in-Err-Full.room in
    let all = adds_as g a (Err (Full need room)) (c.in-Err-Full.is ∙ ap Err c.in-Err-Full.field-0-is) given read in
    in_words g a c.self.inside.state given (Err (LogFull need room))
    (still g a (λ (s : ListState). AddsImages {T = Unit {0}} given (Err (LogFull need room)) (l g a) (log_with (e g a) (f g a) (log g a) s) (w g a) (now g a))
    (adds_known (l g a) (w g a) (now g a) c.self.invariant (known g a) (reads g a) (reads_now g a) (stands g a) (e g a) (log g a) given (count g a) all.run (Err (LogFull need room)) tt all.leaves))

pub returns-in-Err-Full-clause-moves : goal.returns-in-Err-Full-clause-moves
returns-in-Err-Full-clause-moves g c =
    let a = (goal.at.returns-in-Err-Full-clause-moves g c).After-add_all in
    let need = c.in-Err-Full.need in
    let room = c.in-Err-Full.room in
    let is = c.in-Err-Full.is ∙ ap Err c.in-Err-Full.field-0-is in
    subst (λ (x : LogState). MovesImages {T = Unit {0}} c.args.images.now (Err (LogFull need room)) x (log_with (e g a) (f g a) (log g a) c.self.inside.state)) c.self.view_is
    (still g a (λ (s : ListState). MovesImages {T = Unit {0}} c.args.images.now (Err (LogFull need room)) (l g a) (log_with (e g a) (f g a) (log g a) s))
    (moves_full c.args.images.now need room (l g a) (log_with (e g a) (f g a) (log g a) Known) (known g a) refl
    (subst (λ (x : Result (Unit {0}) AddError). MovesAll c.args.images.now x c.self.inside.log (log g a)) is c.add_all.ensures.moves)))

pub invariant_of-self : goal.invariant_of-self
invariant_of-self g c =
    let a = (goal.at.invariant_of-self g c).After-add_all in
    let h = adds_as g a (Ok tt) c.in-Ok.is c.requires.read.0 c.requires.read.1 in
    still g a (λ (s : ListState). IsLogdb (log_with (e g a) (f g a) (log g a) s)) (known_is (e g a) (f g a) (log g a) h.leaves.1.live h.leaves.1.usable)

pub invariant_of-self-in-Err-Fault : goal.invariant_of-self-in-Err-Fault
invariant_of-self-in-Err-Fault g c =
    let a = (goal.at.invariant_of-self-in-Err-Fault g c).After-add_all in
    let h = adds_as g a (Err AddFault) (c.in-Err-Fault.is ∙ ap Err c.in-Err-Fault.field-0-is) c.requires.read.0 c.requires.read.1 in
    still g a (λ (s : ListState). IsLogdb (log_with (e g a) (f g a) (log g a) s)) (known_is (e g a) (f g a) (log g a) h.leaves.live h.leaves.usable)

pub invariant_of-self-in-Err-InDoubt : goal.invariant_of-self-in-Err-InDoubt
invariant_of-self-in-Err-InDoubt g c =
    let a = (goal.at.invariant_of-self-in-Err-InDoubt g c).After-add_all in
    let h = adds_as g a (Err InDoubt) (c.in-Err-InDoubt.is ∙ ap Err c.in-Err-InDoubt.field-0-is) c.requires.read.0 c.requires.read.1 in
    unknown_is (e g a) (f g a) (log g a) h.leaves.live

pub invariant_of-self-in-Err-Full : goal.invariant_of-self-in-Err-Full
invariant_of-self-in-Err-Full g c =
    let a = (goal.at.invariant_of-self-in-Err-Full g c).After-add_all in
    let h = adds_as g a (Err (Full c.in-Err-Full.need c.in-Err-Full.room)) (c.in-Err-Full.is ∙ ap Err c.in-Err-Full.field-0-is) c.requires.read.0 c.requires.read.1 in
    still g a (λ (s : ListState). IsLogdb (log_with (e g a) (f g a) (log g a) s)) (known_is (e g a) (f g a) (log g a) h.leaves.live h.leaves.usable)
