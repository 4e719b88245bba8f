use Rattle.std.proofs.Common.{sym, subst}
use Rattle.odb_model.specs.declared.status.Status.{Status}
use Rattle.odb_play.specs.Played.{EndsWith}
use Rattle.odb_play.proofs.Ends.{ends_with}
use Rattle.odb_play.proofs.script.end.Goals as goal

pub returns-in-Err-clause-finished : goal.returns-in-Err-clause-finished
returns-in-Err-clause-finished g c = λ m input answers at.
    subst (λ (status : Status). EndsWith m input answers status (g.H.Outside.world c.args.host.now) (g.H.Outside.world c.finish.new.host)) (sym c.status.ensures)
    (ends_with (Unit {0}) m input answers c.in-Err.stop (g.H.Outside.world c.args.host.now) (g.H.Outside.world c.finish.new.host) (c.in-Err.ensures.bytes m input answers at))
