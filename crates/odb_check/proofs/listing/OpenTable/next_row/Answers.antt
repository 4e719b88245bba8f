use Rattle.std.proofs.Common.{◌≡◌, ◌∙◌, List, sym, ap, ap₂, refl, string_bytes}
use Rattle.odb_values.specs.declared.value.Value.{Value}
use Rattle.odb_model.specs.Table.{in_columns}
use Rattle.odb_check.specs.Told.{row_line}
use Rattle.odb_model.specs.State.{State}
use Rattle.odb_rowsource.specs.RowSource.{next_in}
use Rattle.odb_check.specs.Left.{whole}
use Rattle.odb_check.proofs.Walks.{given}
use Rattle.odb_check.proofs.Listings.{open_told, open_done}
use Rattle.odb_check.proofs.listing.OpenTable.next_row.Goals as goal

pub returns-in_default-clause-told : goal.returns-in_default-clause-told
returns-in_default-clause-told g c =
    let s : State = g.R.RowSource.state c.args.rows.now in
    let t = c.args.self.now.table in
    let next : c.in_ok-row.field-0 ≡ next_in (whole t.number) c.args.self.now.last s =
    given c.whole-range.result (whole t.number) _ c.args.self.now.last s s c.in_ok-row.field-0 c.in_ok-row.ensures.row (c.whole-range.ensures ∙ ap whole c.number.ensures) c.as_ref.ensures.value refl in
    open_done s t c.args.self.now.last (sym c.in_default.is ∙ next)

pub returns-clause-told : goal.returns-clause-told
returns-clause-told g c =
    let s : State = g.R.RowSource.state c.args.rows.now in
    let t = c.args.self.now.table in
    let next : c.in_ok-row.field-0 ≡ next_in (whole t.number) c.args.self.now.last s =
    given c.whole-range.result (whole t.number) _ c.args.self.now.last s s c.in_ok-row.field-0 c.in_ok-row.ensures.row (c.whole-range.ensures ∙ ap whole c.number.ensures) c.as_ref.ensures.value refl in
    open_told s t c.args.self.now.last c.in-Some.row (string_bytes c.in_ok-line.line) (sym c.in-Some.is ∙ next)
    (c.in_ok-line.ensures ∙ ap₂ (λ (k r : List Value). row_line (in_columns t k r)) c.as_slice.ensures.value c.as_slice-2.ensures)
