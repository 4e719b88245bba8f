use Rattle.std.proofs.Common.{List, None, is_some, ap, ◌∙◌}
use Rattle.odb_values.specs.declared.value.Value.{Value}
use Rattle.odb_values.specs.declared.edge.Edge.TheVariants.{Free}
use Rattle.odb_rowsource.specs.RowSource.{next_in}
use Rattle.odb_catalog.proofs.Passing.{any-row}
use Rattle.odb_catalog.proofs.lookup.has_row.Goals as goal

pub returns-clause-there : goal.returns-clause-there
returns-clause-there g c =
    c.is_some.ensures ∙ ap is_some c.in_ok-next.ensures.row
    ∙ ap (λ (p : List Value). is_some (next_in (record { table = c.args.table; prefix = p; low = Free; high = Free }) None (g.R.RowSource.state c.args.rows.now))) c.empty.ensures
    ∙ any-row c.args.table (g.R.RowSource.state c.args.rows.now)
