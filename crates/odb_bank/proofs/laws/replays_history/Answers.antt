use Rattle.odb_bank.proofs.Replaying.{state_replays, changed_replays, changed_above, goes_on}
use Rattle.odb_bank.proofs.laws.replays_history.Goals as goal

pub returns-clause-state : goal.returns-clause-state
returns-clause-state c = state_replays

pub returns-clause-longer : goal.returns-clause-longer
returns-clause-longer c = goes_on

pub returns-clause-changed : goal.returns-clause-changed
returns-clause-changed c = λ bank h key a more s ordered its. changed_replays bank h key ordered its s a more

pub returns-clause-above : goal.returns-clause-above
returns-clause-above c = λ bank h key a s ordered its. changed_above bank h key ordered its s a
