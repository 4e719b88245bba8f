use Rattle.std.proofs.Common.{◌≡◌, ℕ, List, map, sym, ap, subst, ◌∙◌, true, rules, arith}
use Rattle.std.proofs.lemmas.Grind.{common_steps}
use Rattle.odb_model.specs.Table.{Column, IsTable}
use Rattle.odb_model.specs.Dictionary.{Described, key_in}
use Rattle.odb_catalog.specs.Rows.{is_table}
use Rattle.odb_catalog.proofs.Rows.{made_is}
use Rattle.odb_catalog.proofs.reading.table_by.Goals as goal

pub new-requires : goal.new-requires
new-requires c =
    let all : List Described = c.args.columns.items in
    let made : is_table c.args.number c.args.bank c.args.count all ≡ true = first_of (search rules, grind (arith, common_steps)) in
    let key : c.from_vec-2.result ≡ key_in (map (λ d. d.key_place) all) =
    c.from_vec-2.ensures ∙ c.in_ok-key.ensures ∙ ap (λ (ds : List Described). key_in (map (λ d. d.key_place) ds)) c.as_slice-2.ensures.value in
    let columns : c.from_vec.result ≡ map (λ d. d.column) all = c.from_vec.ensures ∙ c.in_ok-columns.ensures in
    subst (λ (cs : List Column). IsTable (record { number = c.args.number; bank = c.args.bank; columns = cs; key = c.from_vec-2.result })) (sym columns)
    (subst (λ (ks : List ℕ). IsTable (record { number = c.args.number; bank = c.args.bank; columns = map (λ d. d.column) all; key = ks })) (sym key)
    (made_is c.args.number c.args.bank c.args.count all made))
