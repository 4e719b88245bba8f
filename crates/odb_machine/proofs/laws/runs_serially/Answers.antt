use Rattle.odb_machine.proofs.Runs.{answered_first, all_serial}
use Rattle.odb_machine.proofs.laws.runs_serially.Goals as goal

pub returns-clause-first : goal.returns-clause-first
returns-clause-first c = answered_first

pub returns-clause-serial : goal.returns-clause-serial
returns-clause-serial c = all_serial
