use Rattle.std.proofs.Common.{ap, sym, ◌∙◌}
use Rattle.std.specs.Ordering.{eq_by_cmp}
use Rattle.odb_model.specs.declared.table_key.TableKey.{TableKey}
use Rattle.odb_model.specs.State.{table_key_cmp}
use Rattle.odb_rowsource.specs.Intentions.{is_before, where_passes}
use Rattle.odb_rowsource.proofs.Splits.{Splits-point}
use Rattle.odb_rowsource.proofs.Intended.{at-found}
use Rattle.odb_rowsource.proofs.intentions.found_among.Goals as goal

pub returns : goal.returns
returns c =
    let at : TableKey = record { table = c.args.table; key = c.args.key.now } in
    let items = c.args.items.now in
    c.where_for.ensures
    ∙ ap (where_passes (λ i. eq_by_cmp table_key_cmp at i.table_key)) c.item.ensures.value
    ∙ sym (at-found at items c.place_among-place.result c.requires (Splits-point (is_before at) items c.place_among-place.result c.place_among-place.ensures.splits))
