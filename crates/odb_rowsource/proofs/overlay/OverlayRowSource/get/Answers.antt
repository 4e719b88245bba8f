use Rattle.std.proofs.Common.{◌≡◌, ◌∙◌, subst, List, Option}
use Rattle.std.specs.Prelude.{IfOk}
use Rattle.odb_values.specs.declared.value.Value.{Value}
use Rattle.odb_model.specs.declared.table_key.TableKey.{TableKey}
use Rattle.odb_rowsource.proofs.Laid.{row-owned, row-unowned}
use Rattle.odb_rowsource.proofs.overlay.OverlayRowSource.get.Goals as goal

pub returns-in_ok-row_of-in-Some-clause-row : goal.returns-in_ok-row_of-in-Some-clause-row
returns-in_ok-row_of-in-Some-clause-row g c =
    let at : TableKey = record { table = c.args.table; key = c.args.key.now } in
    c.in_ok-row_of-in-Some.ensures
    ∙ row-owned (g.R.RowSource.state c.args.self.now.base) c.args.self.now.own.now.items at c.in-Some.intention.now c.in-Some.ensures.ascending c.in-Some.ensures.found

pub returns-in-None-clause-row : goal.returns-in-None-clause-row
returns-in-None-clause-row g c =
    let at : TableKey = record { table = c.args.table; key = c.args.key.now } in
    subst (λ (o : Option (List Value)). IfOk c.get-in-None.result (λ row. row ≡ o))
    (row-unowned (g.R.RowSource.state c.args.self.now.base) c.args.self.now.own.now.items at c.in-None.ensures.ascending c.in-None.ensures.found)
    c.get-in-None.ensures.row
