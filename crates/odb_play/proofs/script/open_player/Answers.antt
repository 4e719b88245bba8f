use Rattle.odb_model.specs.declared.status.Status.TheVariants.{NoMemory}
use Rattle.odb_play.proofs.Starting.{refused_behind}
use Rattle.odb_play.proofs.script.open_player.Goals as goal

pub returns-in_default-clause-refused : goal.returns-in_default-clause-refused
returns-in_default-clause-refused g c =
    refused_behind NoMemory (g.H.Outside.world c.args.host.now) (g.H.Outside.world c.open_system.new.host) c.open_system.ensures.run c.open_system.ensures.bytes c.in_ok-system.ensures.closed (λ same. absurd (cc same))

pub returns-in_default-vec-clause-refused : goal.returns-in_default-vec-clause-refused
returns-in_default-vec-clause-refused g c =
    refused_behind NoMemory (g.H.Outside.world c.args.host.now) (g.H.Outside.world c.open_system.new.host) c.open_system.ensures.run c.open_system.ensures.bytes c.in_ok-system.ensures.closed (λ same. absurd (cc same))
