use Rattle.std.proofs.Common.{Some, None, codes}
use Rattle.clap.specs.Matches.{found_of}
use Rattle.clap.specs.Walk.{all_of, rows_of}
use Rattle.odb_command.proofs.Choices.{texts_of}
use Rattle.odb_command.proofs.Matches.{all_in_rows, choices_found, choices_none, none_chosen}
use Rattle.odb_command.proofs.read.choices_in.Goals as goal

pub returns-in-Some-clause-found : goal.returns-in-Some-clause-found
returns-in-Some-clause-found c =
    choices_found (all_of (codes "choice") (rows_of (found_of c.args.matches.now))) (Some (texts_of c.in-Some.words.now)) c.choices_of.result
    (all_in_rows (found_of c.args.matches.now) (codes "choice") (Some (texts_of c.in-Some.words.now)) c.in-Some.ensures) c.choices_of.ensures.found

pub returns-in-Some-clause-usage : goal.returns-in-Some-clause-usage
returns-in-Some-clause-usage c = λ e.
    choices_none (all_of (codes "choice") (rows_of (found_of c.args.matches.now))) (Some (texts_of c.in-Some.words.now))
    (all_in_rows (found_of c.args.matches.now) (codes "choice") (Some (texts_of c.in-Some.words.now)) c.in-Some.ensures) (c.choices_of.ensures.usage e)

pub returns-in-None-clause-found : goal.returns-in-None-clause-found
returns-in-None-clause-found c =
    none_chosen (all_of (codes "choice") (rows_of (found_of c.args.matches.now))) c.empty.result
    (all_in_rows (found_of c.args.matches.now) (codes "choice") None c.in-None.ensures) c.empty.ensures
