use Rattle.std.proofs.Common.{◌≡◌, ◌≢◌, ℕ, ◌+◌, ◌≤◌, length, Result, Ok, Err, refl, sym, ap, ◌∙◌, subst, arith}
use Rattle.std.specs.Prelude.{IfSome}
use Rattle.odb_device.specs.World.{World, file_of}
use Rattle.odb_reclog.specs.declared.opening.OpenedLog.{OpenedLog}
use Rattle.odb_transdb.specs.declared.error.TransdbError.{TransdbError}
use Rattle.odb_transdb.specs.declared.error.TransdbError.TheVariants.{Fault, NoMemory}
use Rattle.odb_transdb.specs.Header.{side_end}
use Rattle.odb_transdb.specs.Leaving.{LeavesSide}
use Rattle.odb_transdb.specs.Worlds.{HasClosedGates}
use Rattle.odb_transdb.proofs.Bare.{side_long}
use Rattle.odb_transdb.proofs.Opens.{gates_at}
use Rattle.odb_transdb.proofs.Pairs.{gates_kept}
use Rattle.odb_transdb.proofs.Leaving.{side_left, side_opened}
use Rattle.odb_transdb.proofs.opening.open_side.Given.{Over}
use Rattle.odb_transdb.proofs.opening.open_side.Goals as goal
use Rattle.odb_transdb.proofs.opening.open_side.Goals.{After-open_with_payloads}

module _ (g : Over) (c : After-open_with_payloads g) where
  abbrev w : World
  w = g.S.Outside.world c.args.store.now

  abbrev now : World
  now = g.S.Outside.world c.open_with_payloads.new.store

  end_is : c.side_start-start.result + c.side_size.result ≡ side_end c.args.header.now c.args.side
  end_is = omega (arith, c.side_start-start.ensures, c.side_size.ensures)

  left : (result : Result OpenedLog TransdbError) → (result ≢ Err Fault → HasClosedGates w now) → LeavesSide c.args.header.now c.args.side result w now
  left result closed =
      side_left c.args.header.now c.args.side c.side_start-start.result (c.side_start-start.result + c.side_size.result) c.first_on.result c.side_start-start.ensures end_is c.first_on.ensures w now result
      c.open_with_payloads.ensures.run c.open_with_payloads.ensures.gate closed

pub returns-in-Ok-clause-leaves : goal.returns-in-Ok-clause-leaves
returns-in-Ok-clause-leaves g c =
    let a = (goal.at.returns-in-Ok-clause-leaves g c).After-open_with_payloads in
    left g a (Ok c.in-Ok.found) (λ ok.
    let h = c.args.header.now in
    let o = file_of 0 (w g a) in
    let end = c.side_start-start.result + c.side_size.result in
    gates_at c.in-Ok.found.log.place end o (file_of 0 (now g a)) (subst (λ (n : ℕ). IfSome o (λ f. n ≤ length f.bytes)) (sym (end_is g a)) (side_long h c.args.side o c.requires.side c.requires.long)) c.in-Ok.ensures.opened.closes)

pub returns-in-Ok-clause-opened : goal.returns-in-Ok-clause-opened
returns-in-Ok-clause-opened g c =
    let a = (goal.at.returns-in-Ok-clause-opened g c).After-open_with_payloads in
    let run = c.open_with_payloads.ensures.run in
    side_opened c.args.header.now c.args.side c.side_start-start.result (c.side_start-start.result + c.side_size.result) c.first_on.result c.side_start-start.ensures (end_is g a) c.first_on.ensures (w g a) (now g a) c.in-Ok.found.log c.in-Ok.found.payloads
    c.in-Ok.ensures.opened c.in-Ok.ensures.payloads c.in-Ok.ensures.count (run.only.told (now g a).time run.only.later (omega arith)) (g.met.S.Store.reads_image c.open_with_payloads.new.store 0)

pub returns-in-Err-NoMemory-clause-leaves : goal.returns-in-Err-NoMemory-clause-leaves
returns-in-Err-NoMemory-clause-leaves g c =
    let a = (goal.at.returns-in-Err-NoMemory-clause-leaves g c).After-open_with_payloads in
    left g a (Err NoMemory) (λ other. gates_kept (file_of 0 (w g a)) (file_of 0 (now g a)) (c.open_with_payloads.ensures.memory (c.in-Err-NoMemory.is ∙ ap Err c.in-Err-NoMemory.field-0-is)))

pub returns-in-Err-clause-leaves : goal.returns-in-Err-clause-leaves
returns-in-Err-clause-leaves g c = left g (goal.at.returns-in-Err-clause-leaves g c).After-open_with_payloads (Err Fault) (λ other. absurd (other refl))
