use Rattle.std.proofs.Common.{sym, subst}
use Rattle.odb_eval.specs.declared.source.Source.{Source}
use Rattle.odb_eval.specs.Bound.{IsColumnOf}
use Rattle.odb_eval.proofs.Binds.{is_column}
use Rattle.odb_eval.proofs.source.Source.of_column.Goals as goal

pub returns-clause-column : goal.returns-clause-column
returns-clause-column c = subst (λ (s : Source). IsColumnOf c.args.table.now c.args.name.now s) (sym c.column_source.ensures) (is_column c.args.table.now c.args.name.now)
