use Rattle.std.proofs.Common.{◌∙◌, sym, arith}
use Rattle.odb_command.proofs.Numbers.{none_inside}
use Rattle.odb_command.proofs.number.number_in.Goals as goal
use Rattle.odb_command.proofs.number.number_in.Goals.{else-from-number-via-then-from-number+else-number-from, else-from-number-via-else-from-number}

pub returns-else-from-number-clause-none : goal.returns-else-from-number-clause-none
returns-else-from-number-clause-none c =
    let found = c.in-Some.ensures.found in
    none_inside c.args.word.now c.args.least c.args.most c.in-Some.number (omega arith) found.0 (sym c.as_bytes.ensures.value ∙ found.1)
    (λ low high. elim c.else-from-number.branch [
      | else-from-number-via-then-from-number+else-number-from w ↦ omega arith
      | else-from-number-via-else-from-number w ↦ omega arith
    ])
