use Rattle.std.proofs.Common.{◌≤◌, List, length, sym, subst}
use Rattle.odb_values.specs.declared.value.Value.{Value}
use Rattle.odb_plain.proofs.Outside.{row-few}
use Rattle.odb_plain.proofs.fitting.row_refusal.Goals as goal

pub row_fits-requires-clause-row : goal.row_fits-requires-clause-row
row_fits-requires-clause-row c =
    subst (λ (r : List Value). length r ≤ 15) (sym c.requires.row) (row-few c.args.table.now c.args.values.now c.columns-columns.ensures.table)
