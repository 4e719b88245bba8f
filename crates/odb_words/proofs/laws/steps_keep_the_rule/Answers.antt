use Rattle.odb_words.proofs.Appends.{appends_at}
use Rattle.odb_words.proofs.Makes.{begins, makes}
use Rattle.odb_words.proofs.Moves.{looks, notes, lends_pen, lends_right, meets, hears}
use Rattle.odb_words.proofs.laws.steps_keep_the_rule.Goals as goal

pub returns-clause-starts : goal.returns-clause-starts
returns-clause-starts c = begins

pub returns-clause-load : goal.returns-clause-load
returns-clause-load c = looks

pub returns-clause-append : goal.returns-clause-append
returns-clause-append c = appends_at

pub returns-clause-split : goal.returns-clause-split
returns-clause-split c = λ key id v live late. (notes key id v live late, lends_pen key id v live late, lends_right key id v live late)

pub returns-clause-make : goal.returns-clause-make
returns-clause-make c = makes

pub returns-clause-join : goal.returns-clause-join
returns-clause-join c = meets

pub returns-clause-hear : goal.returns-clause-hear
returns-clause-hear c = hears
