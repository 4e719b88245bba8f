use Rattle.std.proofs.Common.{Some, None}
use Rattle.clap.specs.Matches.{found_of}
use Rattle.clap.specs.Walk.{first_of, rows_of}
use Rattle.odb_command.proofs.Matches.{first_in_rows, flag_some, flag_none}
use Rattle.odb_command.proofs.read.is_given.Goals as goal

pub returns-in-Some : goal.returns-in-Some
returns-in-Some c =
    flag_some (first_of c.args.id.now (rows_of (found_of c.args.matches.now))) c.in-Some.value.now c.eq.result
    (first_in_rows (found_of c.args.matches.now) c.args.id.now (Some c.in-Some.value.now) c.in-Some.ensures) c.eq.ensures

pub returns-in-None : goal.returns-in-None
returns-in-None c =
    flag_none (first_of c.args.id.now (rows_of (found_of c.args.matches.now))) (first_in_rows (found_of c.args.matches.now) c.args.id.now None c.in-None.ensures)
