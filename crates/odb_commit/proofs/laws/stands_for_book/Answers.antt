use Rattle.odb_commit.proofs.Following.{begins, reserves, sealed, faulted, doubted, turned_on, broken}
use Rattle.odb_commit.proofs.laws.stands_for_book.Goals as goal

pub returns-clause-begins : goal.returns-clause-begins
returns-clause-begins c = begins

pub returns-clause-reserves : goal.returns-clause-reserves
returns-clause-reserves c = reserves

pub returns-clause-sealed : goal.returns-clause-sealed
returns-clause-sealed c = sealed

pub returns-clause-faulted : goal.returns-clause-faulted
returns-clause-faulted c = faulted

pub returns-clause-doubted : goal.returns-clause-doubted
returns-clause-doubted c = doubted

pub returns-clause-turned : goal.returns-clause-turned
returns-clause-turned c = turned_on

pub returns-clause-broken : goal.returns-clause-broken
returns-clause-broken c = broken
