use Rattle.std.proofs.Common.{◌≡◌, [], ◌∷◌, Some, None, codes, false, ap, sym, subst, ◌∙◌}
use Rattle.odb_model.specs.declared.write.Write.{Write}
use Rattle.odb_model.specs.State.{State}
use Rattle.odb_model.specs.Table.{is_named}
use Rattle.odb_model.specs.Dictionary.{table_of}
use Rattle.odb_model.specs.Definitions.{dictionary_write}
use Rattle.odb_model.specs.Storable.{IsStorableList}
use Rattle.odb_catalog.proofs.Planned.{form_of}
use Rattle.odb_catalog.proofs.Widths.{drop_storable}
use Rattle.odb_catalog.proofs.planning.plan_drop.Goals as goal

pub returns-clause-storable : goal.returns-clause-storable
returns-clause-storable g c =
    let s : State = g.R.RowSource.state c.args.rows.now in
    let found : table_of s c.args.name.now ≡ Some c.in-Some.table = sym c.in_ok-table.ensures.table ∙ c.in-Some.is in
    let other : is_named c.args.name.now (codes "KV") ≡ false = sym c.is_kv.ensures ∙ c.if-is_kv.false in
    let same : c.from_vec.result ≡ dictionary_write 2 c.args.name.now None ∷ [] =
    c.from_vec.ensures ∙ c.in_ok-writes.ensures.items ∙ ap (λ (w : Write). w ∷ []) c.in_ok-dictionary_write.ensures in
    subst IsStorableList (sym same) (drop_storable c.args.name.now (form_of s c.args.name.now c.in-Some.table found other))
