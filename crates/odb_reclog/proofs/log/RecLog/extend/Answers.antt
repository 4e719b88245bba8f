use Rattle.std.proofs.Common.{sym, subst}
use Rattle.odb_reclog.specs.Standing.{Log, StandsFor}
use Rattle.odb_reclog.proofs.Standing.{stands_extended}
use Rattle.odb_reclog.proofs.log.RecLog.extend.Goals as goal

pub returns-clause-stands : goal.returns-clause-stands
returns-clause-stands c = λ records tail bytes stands long zeros.
    let end = c.args.end in
    let later = c.requires.range in
    subst (λ (l : Log). StandsFor (record l { end = end }) records tail bytes) (sym c.self.view_is)
    (stands_extended c.args.self.now end records tail bytes later.0 later.1 stands long zeros)
