use Rattle.odb_bank.proofs.Gathering.{run_record_is, run_record_all}
use Rattle.odb_bank.proofs.laws.gathers_run.Goals as goal

pub returns-clause-record : goal.returns-clause-record
returns-clause-record c = run_record_is

pub returns-clause-all : goal.returns-clause-all
returns-clause-all c = run_record_all
