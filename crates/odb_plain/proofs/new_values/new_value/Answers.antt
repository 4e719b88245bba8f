use Rattle.std.proofs.Common.{◌≡◌, ◌∙◌, ℕ, List, Option, Some, ap, sym}
use Rattle.std.specs.Option.{option_copied}
use Rattle.std.specs.List.{find}
use Rattle.std.proofs.lemmas.Result.{IfOk-weaker}
use Rattle.odb_values.specs.declared.value.Value.{Value}
use Rattle.odb_model.specs.declared.statement.Assignment.{Assignment}
use Rattle.odb_model.specs.Table.{is_named}
use Rattle.odb_model.specs.Sums.{value_of}
use Rattle.odb_model.specs.Meaning.{value_or, new_value}
use Rattle.odb_plain.proofs.new_values.new_value.Goals as goal

pub returns-in-Some : goal.returns-in-Some
returns-in-Some c =
    let columns = c.args.table.now.columns in
    let values = c.args.values.now in
    let sets = c.args.sets.now in
    let set = c.in-Some.set.now in
    let found : find (λ (a : Assignment). is_named a.column c.args.column.now.name) sets ≡ Some set =
    ap (λ (nm : List ℕ). find (λ (a : Assignment). is_named a.column nm) sets) (sym c.name.ensures) ∙ sym c.set_of.ensures ∙ ap option_copied c.in-Some.is in
    IfOk-weaker c.value_of.result (λ (n : Option Value). n ≡ value_of columns values set.value) (λ (n : Option Value). n ≡ new_value columns sets values (c.args.column.now, c.args.value.now))
    (λ n e. e ∙ sym (ap (λ (o : Option Assignment). value_or columns values c.args.value.now o) found)) c.value_of.ensures
