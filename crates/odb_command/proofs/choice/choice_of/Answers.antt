use Rattle.std.proofs.Common.{None, refl}
use Rattle.odb_command.proofs.Choices.{none_without, found_of_parts, none_of_parts}
use Rattle.odb_command.proofs.choice.choice_of.Goals as goal

pub returns-in-Some-clause-found : goal.returns-in-Some-clause-found
returns-in-Some-clause-found c = found_of_parts c.args.word.now c.in-Some.parts c.choice_from.result c.in-Some.ensures.cases c.choice_from.ensures.found

pub returns-in-Some-clause-none : goal.returns-in-Some-clause-none
returns-in-Some-clause-none c = none_of_parts c.args.word.now c.in-Some.parts c.choice_from.result c.in-Some.ensures.cases c.choice_from.ensures.none

pub returns-in-None-clause-none : goal.returns-in-None-clause-none
returns-in-None-clause-none c = none_without c.args.word.now None c.in-None.ensures.cases refl
