use Rattle.std.proofs.Common.{ℕ, ap, sym, ◌∙◌}
use Rattle.std.specs.List.{slice_get}
use Rattle.odb_model.specs.declared.table_key.TableKey.{TableKey}
use Rattle.odb_rowsource.specs.Intentions.{comes_before}
use Rattle.odb_rowsource.proofs.Intended.{all_before}
use Rattle.odb_rowsource.proofs.intentions.place_to_put.Goals as goal

pub returns-then-comes_before-clause-splits : goal.returns-then-comes_before-clause-splits
returns-then-comes_before-clause-splits c =
    let at : TableKey = record { table = c.args.table; key = c.args.key.now } in
    all_before at c.args.items.now c.requires (ap (λ (n : ℕ). comes_before at (slice_get c.args.items.now n)) (sym c.saturating_sub.ensures) ∙ ap (comes_before at) (sym c.item.ensures.value) ∙ sym c.comes_before.ensures ∙ c.if-comes_before.true)
