use Rattle.std.proofs.Common.{ap, sym, ◌∙◌, Option, List}
use Rattle.std.specs.Option.{option_copied}
use Rattle.odb_values.specs.declared.value.Value.{Value}
use Rattle.odb_model.specs.State.{is_in}
use Rattle.odb_rowsource.specs.Intentions.{is_passed, where_passes}
use Rattle.odb_rowsource.proofs.Splits.{Splits-point}
use Rattle.odb_rowsource.proofs.Intended.{next-found}
use Rattle.odb_rowsource.proofs.intentions.next_among.Goals as goal

pub returns : goal.returns
returns c =
    let range = c.args.range.now in
    let after : Option (List Value) = option_copied c.args.after in
    let items = c.args.items.now in
    c.where_inside.ensures
    ∙ ap (where_passes (λ i. is_in range i.table_key)) c.item.ensures.value
    ∙ sym (next-found range after items c.first_from-place.result c.requires (Splits-point (is_passed range after) items c.first_from-place.result c.first_from-place.ensures))
