use Rattle.std.proofs.Common.{◌-◌, sym, subst}
use Rattle.odb_model.specs.declared.event.Event.{Event}
use Rattle.odb_device.specs.World.{World}
use Rattle.odb_system.specs.Held.{IsAsked}
use Rattle.odb_system.specs.Kept.{Stepped}
use Rattle.odb_system.proofs.Running.{did, only_log, durable_did}
use Rattle.odb_system.proofs.Stepping.{stepped}
use Rattle.odb_system.proofs.Turns.{stepped_control, only_control, durable_control}
use Rattle.odb_system.proofs.system.System.step.Goals as goal

pub returns-in-Session-clause-step : goal.returns-in-Session-clause-step
returns-in-Session-clause-step g c = λ m stands rests.
    let old : World = g.H.Outside.world c.args.host.now in
    let new : World = g.H.Outside.world c.ask.new.host in
    let asked = subst IsAsked c.in-Session.is c.requires.asked in
    subst (λ (event : Event). Stepped m event c.ask.result c.ask.new.self old new) (sym c.in-Session.is)
    (stepped m c.args.self.now c.ask.new.self old new stands rests c.requires.durable c.in-Session.session c.in-Session.statement c.ask.result asked.0 c.ask.ensures.runs)

pub returns-in-Session-clause-only : goal.returns-in-Session-clause-only
returns-in-Session-clause-only g c =
    let old : World = g.H.Outside.world c.args.host.now in
    let new : World = g.H.Outside.world c.ask.new.host in
    only_log c.args.self.now c.ask.new.self old new c.requires.durable (did c.args.self.now (c.in-Session.session - 1) c.in-Session.statement c.ask.result c.ask.new.self old new c.ask.ensures.runs)

pub returns-in-Session-clause-durable : goal.returns-in-Session-clause-durable
returns-in-Session-clause-durable g c =
    let old : World = g.H.Outside.world c.args.host.now in
    let new : World = g.H.Outside.world c.ask.new.host in
    durable_did c.args.self.now c.ask.new.self old new c.requires.durable (did c.args.self.now (c.in-Session.session - 1) c.in-Session.statement c.ask.result c.ask.new.self old new c.ask.ensures.runs)

pub returns-in-Control-clause-step : goal.returns-in-Control-clause-step
returns-in-Control-clause-step g c = λ m stands rests.
    let old : World = g.H.Outside.world c.args.host.now in
    let new : World = g.H.Outside.world c.control.new.host in
    subst (λ (event : Event). Stepped m event c.control.result c.control.new.self old new) (sym c.in-Control.is)
    (stepped_control m c.args.self.now c.control.new.self old new stands rests c.requires.durable c.in-Control.line c.control.result c.control.ensures.controls)

pub returns-in-Control-clause-only : goal.returns-in-Control-clause-only
returns-in-Control-clause-only g c =
    only_control c.args.self.now c.control.new.self c.in-Control.line c.control.result (g.H.Outside.world c.args.host.now) (g.H.Outside.world c.control.new.host) c.control.ensures.controls

pub returns-in-Control-clause-durable : goal.returns-in-Control-clause-durable
returns-in-Control-clause-durable g c =
    durable_control c.args.self.now c.control.new.self c.in-Control.line c.control.result (g.H.Outside.world c.args.host.now) (g.H.Outside.world c.control.new.host) c.requires.durable c.control.ensures.controls
