use Rattle.std.proofs.Common.{◌≡◌, ◌∷◌, [], ◌∙◌, List, Some, None, refl, ap, sym, subst, arith}
use Rattle.odb_values.specs.declared.value.Value.{Value}
use Rattle.odb_model.specs.Table.{key_of}
use Rattle.odb_model.specs.Meaning.{Meaning, writes_of}
use Rattle.odb_exec.specs.declared.rows.RowChange.{RowChange}
use Rattle.odb_exec.specs.Rows.{IsChangeOf, tuple_refusal}
use Rattle.odb_exec.specs.Written.{keys_written}
use Rattle.odb_exec.specs.Effect.{IsEffectOf}
use Rattle.odb_exec.proofs.Tuples.{puts}
use Rattle.odb_exec.proofs.Inserting.{IsInserted, inserted-none, inserted-one, inserted-refused, inserted-all, stands-all}
use Rattle.odb_exec.proofs.insert.insert_one.Goals as goal

pub returns-in-Refused-clause-effect : goal.returns-in-Refused-clause-effect
returns-in-Refused-clause-effect g c =
    let t = c.args.table.now in
    let s = g.R.RowSource.state c.args.rows.now in
    let ks = keys_written c.args.written.now.items in
    let v : List Value = c.args.tuple.now in
    let told = subst (λ (x : RowChange). IsChangeOf (tuple_refusal c.args.format t s [] c.as_slice.result.now) (writes_of t c.as_slice.result.now) x) c.in-Refused.is c.in_ok-reply.ensures.change in
    let refuses : tuple_refusal c.args.format t s [] v ≡ Some c.in-Refused.reply =
    ap (λ (x : List Value). tuple_refusal c.args.format t s [] x) (sym c.as_slice.ensures) ∙ told in
    subst (λ (m : Meaning). IsEffectOf m c.without_writes.result)
    (sym (inserted-refused t c.args.format s ks (v ∷ []) 0 v (omega arith) refl [] c.new-none.result (inserted-none t c.args.format s ks (v ∷ []) [] c.new-none.result refl c.new-none.ensures) c.in-Refused.reply refuses))
    c.without_writes.ensures

pub returns-in_ok-changes-in-Put-clause-effect : goal.returns-in_ok-changes-in-Put-clause-effect
returns-in_ok-changes-in-Put-clause-effect g c =
    let t = c.args.table.now in
    let s = g.R.RowSource.state c.args.rows.now in
    let ks = keys_written c.args.written.now.items in
    let v : List Value = c.args.tuple.now in
    let told = subst (λ (x : RowChange). IsChangeOf (tuple_refusal c.args.format t s [] c.as_slice.result.now) (writes_of t c.as_slice.result.now) x) c.in-Put.is c.in_ok-reply.ensures.change in
    let agreed : tuple_refusal c.args.format t s [] v ≡ None =
    ap (λ (x : List Value). tuple_refusal c.args.format t s [] x) (sym c.as_slice.ensures) ∙ told.0 in
    let one : writes_of t v ≡ c.in-Put.write ∷ [] = ap (writes_of t) (sym c.as_slice.ensures) ∙ told.1 in
    let all : IsInserted t c.args.format s ks (v ∷ []) 1 (key_of t v ∷ []) c.in_ok-changes-in-Put.changes =
    inserted-one t c.args.format s ks (v ∷ []) 0 v (omega arith) refl [] c.new-none.result (inserted-none t c.args.format s ks (v ∷ []) [] c.new-none.result refl c.new-none.ensures)
    (key_of t v ∷ []) c.in_ok-changes-in-Put.changes c.in-Put.write agreed one (λ q. refl) c.in_ok-changes-in-Put.ensures in
    subst (λ (m : Meaning). IsEffectOf m c.into_effect.result) (sym (inserted-all t c.args.format s ks (v ∷ []) (key_of t v ∷ []) c.in_ok-changes-in-Put.changes all))
    (c.into_effect.ensures ks (puts t (v ∷ [])) (stands-all t c.args.format s ks (v ∷ []) (key_of t v ∷ []) c.in_ok-changes-in-Put.changes all))
