use Rattle.std.proofs.Common.{◌≡◌, ◌∙◌, ◌||◌, false, List, ap, sym, map}
use Rattle.std.specs.List.{list_any}
use Rattle.odb_values.specs.Value.{is_null}
use Rattle.odb_model.specs.declared.statement.Term.{Term}
use Rattle.odb_model.specs.Truth.{operand_value}
use Rattle.odb_plain.proofs.Summing.{any-null}
use Rattle.odb_plain.proofs.sums.has_null.Goals as goal

pub returns-else-is_null : goal.returns-else-is_null
returns-else-is_null c =
    let columns = c.args.table.now.columns in
    let values = c.args.values.now in
    let e = c.args.expression.now in
    let first : is_null (operand_value columns values e.first) ≡ false = ap is_null (sym c.operand_value.ensures) ∙ sym c.is_null.ensures ∙ c.if-is_null.false in
    c.is_some_null.ensures
    ∙ ap (λ (ts : List Term). list_any (λ term. is_null (operand_value columns values term.operand)) ts) c.as_slice.ensures
    ∙ any-null (operand_value columns values) (λ (term : Term). term.operand) e.rest
    ∙ ap (λ b. b || list_any is_null (map (operand_value columns values) (map (λ (term : Term). term.operand) e.rest))) (sym first)
