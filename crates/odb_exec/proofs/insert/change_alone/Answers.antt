use Rattle.std.proofs.Common.{◌≡◌, ◌∙◌, List, None, ap, sym, subst}
use Rattle.odb_values.specs.declared.value.Value.{Value}
use Rattle.odb_values.specs.Key.{IsKey}
use Rattle.odb_model.specs.Table.{key_of}
use Rattle.odb_model.specs.Fitting.{row_refusal}
use Rattle.odb_model.proofs.KeysKept.{accepted_key}
use Rattle.odb_exec.proofs.insert.change_alone.Goals as goal

pub key_with-key-requires : goal.key_with-key-requires
key_with-key-requires g c =
    let t = c.args.table.now in
    let values = c.args.values.now in
    let none : row_refusal c.args.format t (key_of t values) values ≡ None =
    ap (λ (k : List Value). row_refusal c.args.format t k values) (sym (c.as_slice.ensures ∙ c.in_ok-key.ensures.key)) ∙ sym c.row_refusal.ensures ∙ c.in_default.is in
    subst IsKey (sym c.in_ok-key.ensures.key) (accepted_key c.args.format t values c.in_ok-key.ensures.table none)
