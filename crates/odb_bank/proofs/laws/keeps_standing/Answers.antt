use Rattle.odb_bank.proofs.Steps.{stands_same, stands_opening, stands_opened, stands_closing, stands_longer}
use Rattle.odb_bank.proofs.laws.keeps_standing.Goals as goal

pub returns-clause-bodies : goal.returns-clause-bodies
returns-clause-bodies c = stands_same

pub returns-clause-gates : goal.returns-clause-gates
returns-clause-gates c = λ h a reached mark less more view adds low between stands. stands_opening h a reached less more adds mark view low between stands

pub returns-clause-reached : goal.returns-clause-reached
returns-clause-reached c = stands_opened

pub returns-clause-stale : goal.returns-clause-stale
returns-clause-stale c = stands_closing

pub returns-clause-longer : goal.returns-clause-longer
returns-clause-longer c = stands_longer
