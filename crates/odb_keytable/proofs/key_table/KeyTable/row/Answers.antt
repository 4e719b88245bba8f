use Rattle.std.proofs.Common.{ap, sym, ◌∙◌, List}
use Rattle.std.specs.Map.{lookup}
use Rattle.std.specs.BTreeMap.{is_at}
use Rattle.odb_values.specs.declared.value.Value.{Value}
use Rattle.odb_model.specs.State.{State}
use Rattle.odb_rowsource.specs.RowSource.{row_at}
use Rattle.odb_keytable.specs.declared.spot.Spot.TheVariants.{At}
use Rattle.odb_keytable.specs.Spot.{spot_cmp}
use Rattle.odb_keytable.proofs.RowPlaces.{state_of-row}
use Rattle.odb_keytable.proofs.key_table.KeyTable.row.Goals as goal

pub returns : goal.returns
returns c =
    let es = c.self.inside.rows.entries in
    c.get.ensures.value
    ∙ ap (λ (key : List Value). lookup (is_at (spot_cmp (At c.args.table key))) es) c.in_ok-copy.ensures
    ∙ sym (state_of-row es c.args.table c.args.key.now c.self.invariant)
    ∙ ap (λ (s : State). row_at c.args.table c.args.key.now s) c.self.view_is
