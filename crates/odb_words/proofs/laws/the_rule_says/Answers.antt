use Rattle.odb_words.proofs.Told.{one_of_each, one_pen, one_right, view_rules, book_alone, one_opening, lists_numbered}
use Rattle.odb_words.proofs.laws.the_rule_says.Goals as goal

pub returns-clause-each : goal.returns-clause-each
returns-clause-each c = one_of_each

pub returns-clause-pen : goal.returns-clause-pen
returns-clause-pen c = one_pen

pub returns-clause-right : goal.returns-clause-right
returns-clause-right c = one_right

pub returns-clause-view : goal.returns-clause-view
returns-clause-view c = view_rules

pub returns-clause-book : goal.returns-clause-book
returns-clause-book c = book_alone

pub returns-clause-opened : goal.returns-clause-opened
returns-clause-opened c = one_opening

pub returns-clause-numbered : goal.returns-clause-numbered
returns-clause-numbered c = lists_numbered
