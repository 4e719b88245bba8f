use Rattle.std.proofs.Common.{◌≡◌, ◌∙◌, ℕ, List, length, ap, sym}
use Rattle.std.specs.List.{flat_map}
use Rattle.std.proofs.lemmas.Result.{IfOk-weaker}
use Rattle.odb_values.specs.declared.value.Value.{Value}
use Rattle.odb_model.specs.declared.table_key.TableKey.{TableKey}
use Rattle.odb_model.specs.Binding.{first_refusal}
use Rattle.odb_model.specs.Transaction.{table_keys}
use Rattle.odb_model.specs.Meaning.{Meaning, kept_rows, update_refusal, update_writes, updated, refused_or, done}
use Rattle.odb_plain.proofs.update.updated.Goals as goal

pub returns : goal.returns
returns c =
    let t = c.args.table.now in
    let sets = c.args.sets.now in
    let written = table_keys c.args.write_set.now in
    let format = c.args.format in
    let rows : List (TableKey × List Value) = c.as_slice.result.now in
    let refusal = first_refusal (update_refusal format t sets) rows in
    let writes = flat_map (update_writes t sets) rows in
    let same : rows ≡ kept_rows t c.args.filter.now c.args.rows.now = c.as_slice.ensures.value ∙ c.in_ok-kept.ensures in
    let count : c.len.result ≡ length rows = c.len.ensures ∙ sym c.as_slice.ensures.len in
    IfOk-weaker c.effect_of.result (λ (e : Meaning). e ≡ refused_or refusal (done written c.len.result writes))
    (λ (e : Meaning). e ≡ updated t sets (kept_rows t c.args.filter.now c.args.rows.now) written format)
    (λ e is. is ∙ ap (λ (n : ℕ). refused_or refusal (done written n writes)) count ∙ ap (λ (l : List (TableKey × List Value)). updated t sets l written format) same)
    (c.effect_of.ensures refusal writes c.in_ok-changes.ensures)
