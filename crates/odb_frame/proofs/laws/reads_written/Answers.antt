use Rattle.odb_frame.proofs.Firsts.{back, too_long, told_apart}
use Rattle.odb_frame.proofs.laws.reads_written.Goals as goal

pub returns-clause-back : goal.returns-clause-back
returns-clause-back c = back

pub returns-clause-long : goal.returns-clause-long
returns-clause-long c = too_long

pub returns-clause-apart : goal.returns-clause-apart
returns-clause-apart c = told_apart
