use Rattle.std.proofs.Common.{refl, sym, subst}
use Rattle.odb_device.specs.World.{World}
use Rattle.odb_model.specs.declared.control.Control.{Control}
use Rattle.odb_system.specs.Held.{HeldControls}
use Rattle.odb_system.proofs.Turns.{other_line}
use Rattle.odb_system.proofs.system.System.control.Goals as goal

pub returns-in-Turn : goal.returns-in-Turn
returns-in-Turn g c =
    record {
      controls = subst (λ (l : Control). HeldControls c.args.self.now l c.turn.result c.turn.new.self (g.H.Outside.world c.args.host.now) (g.H.Outside.world c.turn.new.host)) (sym c.in-Turn.is) c.turn.ensures.turns;
    }

pub returns-in-State : goal.returns-in-State
returns-in-State g c =
    record {
      controls = subst (λ (l : Control). HeldControls c.args.self.now l c.state.result c.args.self.now (g.H.Outside.world c.args.host.now) (g.H.Outside.world c.args.host.now)) (sym c.in-State.is) (c.state.ensures, (refl, refl));
    }

pub returns-in_default : goal.returns-in_default
returns-in_default g c = record { controls = other_line c.args.self.now c.args.line (g.H.Outside.world c.args.host.now) c.in_default.not-Turn c.in_default.not-State }
