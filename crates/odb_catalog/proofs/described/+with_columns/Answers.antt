use Rattle.std.proofs.Common.{◌≡◌, ◌∷◌, ◌++◌, List, length, take, drop, ◌-◌, Some, option_map, sym, ap, ◌∙◌}
use Rattle.std.proofs.lemmas.Result.{IfOk-weaker}
use Rattle.odb_values.specs.declared.value.Value.{Value}
use Rattle.odb_model.specs.Dictionary.{Described, columns_in}
use Rattle.odb_catalog.specs.Rows.{natural_of, column_by}
use Rattle.odb_catalog.proofs.Rows.{four_first, behind_four, columns_more}
use Rattle.odb_catalog.proofs.described.+with_columns.Goals as goal

pub returns-in_ok-push-in-len4-up : goal.returns-in_ok-push-in-len4-up
returns-in_ok-push-in-len4-up t c =
    let values = c.args.values.now in
    let a = c.name-item.result in
    let b = c.kind-item.result in
    let f = c.flag-item.result in
    let d = c.place-item.result in
    let split : values ≡ a ∷ b ∷ f ∷ d ∷ drop 4 values = four_first values a b f d c.in-len4-up.len_at_least c.name-item.is c.kind-item.is c.flag-item.is c.place-item.is in
    let told : column_by a c.natural_of-kind.result c.natural_of-flag.result c.natural_of.result ≡ Some c.in-Some.column = sym c.in_ok-column-in-len4-up.ensures ∙ c.in-Some.is in
    let found : column_by a (natural_of b) (natural_of f) (natural_of d) ≡ Some c.in-Some.column =
    ap (λ o. column_by a o (natural_of f) (natural_of d)) (sym c.natural_of-kind.ensures)
    ∙ ap (λ o. column_by a c.natural_of-kind.result o (natural_of d)) (sym c.natural_of-flag.ensures)
    ∙ ap (column_by a c.natural_of-kind.result c.natural_of-flag.result) (sym c.natural_of.ensures)
    ∙ told in
    let rest : List Value = take (length values - 4) (drop 4 values) in
    IfOk-weaker c.with_columns.result (λ found. option_map (λ all. all.items) found ≡ option_map (λ more. c.push.new.self.items ++ more) (columns_in rest))
    (λ found. option_map (λ all. all.items) found ≡ option_map (λ more. c.args.columns.items ++ more) (columns_in values))
    (λ all e. e ∙ ap (λ (vs : List Value). option_map (λ more. c.push.new.self.items ++ more) (columns_in vs)) (behind_four values)
    ∙ ap (λ (old : List Described). option_map (λ more. old ++ more) (columns_in (drop 4 values))) c.in_ok-push-in-len4-up.ensures.items
    ∙ columns_more c.args.columns.items c.in-Some.column values a b f d split found) c.with_columns.ensures
