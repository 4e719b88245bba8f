use Rattle.std.proofs.Common.{arith, ◌<◌, ◌++◌, subst}
use Rattle.odb_model.specs.Meaning.{different, most_writes}
use Rattle.odb_model.specs.Transaction.{table_keys}
use Rattle.odb_exec.specs.declared.changes.Changes.{Changes}
use Rattle.odb_exec.specs.Written.{keys_written}
use Rattle.odb_exec.specs.Changes.{StandsFor}
use Rattle.odb_exec.proofs.Counts.{written-grows}
use Rattle.odb_exec.proofs.changes.Changes.with.Goals as goal

pub returns-in-TooMany : goal.returns-in-TooMany
returns-in-TooMany c = λ writes stands un.
    let ks = keys_written c.args.written.now.items in
    let over : most_writes < different (ks ++ table_keys writes) = subst (λ (x : Changes). StandsFor ks writes x) c.in-TooMany.is stands in
    omega (arith, over, written-grows ks writes c.args.write)
