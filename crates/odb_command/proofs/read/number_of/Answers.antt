use Rattle.std.proofs.Common.{Some, None}
use Rattle.clap.specs.Matches.{found_of}
use Rattle.clap.specs.Walk.{first_of, rows_of}
use Rattle.odb_command.proofs.Matches.{first_in_rows, number_some, number_none, number_missing}
use Rattle.odb_command.proofs.read.number_of.Goals as goal

pub returns-in-Some-clause-found : goal.returns-in-Some-clause-found
returns-in-Some-clause-found c =
    number_some (first_of c.args.id.now (rows_of (found_of c.args.matches.now))) c.in-Some.word.now c.args.least c.args.most c.number_in.result
    (first_in_rows (found_of c.args.matches.now) c.args.id.now (Some c.in-Some.word.now) c.in-Some.ensures) c.number_in.ensures.found

pub returns-in-Some-clause-none : goal.returns-in-Some-clause-none
returns-in-Some-clause-none c =
    number_none (first_of c.args.id.now (rows_of (found_of c.args.matches.now))) c.in-Some.word.now c.args.least c.args.most c.number_in.result
    (first_in_rows (found_of c.args.matches.now) c.args.id.now (Some c.in-Some.word.now) c.in-Some.ensures) c.number_in.ensures.none

pub returns-in-None-clause-none : goal.returns-in-None-clause-none
returns-in-None-clause-none c =
    number_missing (first_of c.args.id.now (rows_of (found_of c.args.matches.now))) c.args.least c.args.most (first_in_rows (found_of c.args.matches.now) c.args.id.now None c.in-None.ensures)
