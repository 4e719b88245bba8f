use Rattle.odb_reclog.proofs.Standing.{stands_begun}
use Rattle.odb_reclog.proofs.log.RecLog.begin.Goals as goal

pub returns-clause-stands : goal.returns-clause-stands
returns-clause-stands c = λ bytes long zeros.
    let region = c.requires.region in
    stands_begun c.args.file c.args.start c.args.end c.args.first bytes region.0 region.1 c.requires.first long zeros
