use Rattle.odb_play.proofs.Fronts.{front_asks_nothing, front_refused, asked_short}
use Rattle.odb_play.proofs.front.reads_fronts.Goals as goal

pub returns-clause-front : goal.returns-clause-front
returns-clause-front c = front_asks_nothing

pub returns-clause-refused : goal.returns-clause-refused
returns-clause-refused c = front_refused

pub returns-clause-short : goal.returns-clause-short
returns-clause-short c = asked_short
