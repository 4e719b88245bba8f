use Rattle.odb_parse.proofs.Between.{file_none}
use Rattle.odb_parse.proofs.control.file_between.Goals as goal

pub returns-clause-none : goal.returns-clause-none
returns-clause-none c =
    let found = c.in_ok-number.ensures.found in
    rw c.ok.ensures.value (file_none c.args.line.now c.args.before.now c.args.after.now c.in_ok-number.number c.try_from.result found.0 found.1 c.try_from.ensures)
