use Rattle.std.proofs.Common.{◌≡◌, List, [], ◌∷◌, Some, ap, sym, subst, ◌∙◌, IsTrue}
use Rattle.std.proofs.lemmas.List.Elements.{recursion_from_All}
use Rattle.odb_values.specs.declared.value.Value.{Value}
use Rattle.odb_model.specs.declared.statement.ColumnText.{ColumnText}
use Rattle.odb_model.specs.declared.write.Write.{Write}
use Rattle.odb_model.specs.Dictionary.{has_name_form}
use Rattle.odb_model.specs.Definitions.{creation_writes, dictionary_write, table_row}
use Rattle.odb_model.specs.Storable.{IsStorableList}
use Rattle.odb_catalog.proofs.Widths.{creation_storable}
use Rattle.odb_catalog.proofs.planning.creation_writes.Goals as goal

pub returns-clause-storable : goal.returns-clause-storable
returns-clause-storable c =
    let first : c.in_ok-dictionary_write.field-0 ≡ dictionary_write 2 c.args.name.now (Some (table_row c.args.number c.args.bank c.args.columns.now c.args.key.now)) =
    c.in_ok-dictionary_write.ensures ∙ ap (λ (r : List Value). dictionary_write 2 c.args.name.now (Some r)) c.in_ok-row.ensures in
    let same : c.from_vec.result ≡ creation_writes c.args.number c.args.bank c.args.name.now c.args.columns.now c.args.key.now =
    c.from_vec.ensures ∙ c.in_ok-writes.ensures.items ∙ ap (λ (w : Write). w ∷ c.in_ok-number_write.field-0 ∷ []) first
    ∙ ap (λ (w : Write). dictionary_write 2 c.args.name.now (Some (table_row c.args.number c.args.bank c.args.columns.now c.args.key.now)) ∷ w ∷ []) c.in_ok-number_write.ensures in
    subst IsStorableList (sym same)
    (creation_storable c.args.number c.args.bank c.args.name.now c.args.columns.now c.args.key.now c.requires.text.form
    (recursion_from_All (λ (x : ColumnText). IsTrue (has_name_form x.name)) c.args.columns.now c.requires.text.forms) c.requires.few)
