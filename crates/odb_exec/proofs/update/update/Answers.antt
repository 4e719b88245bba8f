use Rattle.std.proofs.Common.{◌++◌, ◌∙◌, ap, sym, subst, arith, List, length, Option, None}
use Rattle.std.specs.Option.{option_copied}
use Rattle.std.specs.List.{flat_map}
use Rattle.odb_values.specs.declared.value.Value.{Value}
use Rattle.odb_model.specs.Meaning.{Meaning, new_row_refusal, new_row_writes, new_values, update_writes, update_refusal}
use Rattle.odb_model.specs.Table.{in_columns}
use Rattle.odb_rowsource.specs.RowSource.{entry_of}
use Rattle.odb_exec.specs.Walk.{rows_left, key_shown}
use Rattle.odb_exec.specs.Written.{keys_written}
use Rattle.odb_rowsource.proofs.Above.{Entry}
use Rattle.odb_exec.proofs.Walks.{step-some, step-none}
use Rattle.odb_exec.proofs.Passing.{passed-one, passed-all}
use Rattle.odb_exec.proofs.Updating.{IsUpdated, updated-one, updated-refused, updated-all, values-are, write-own}
use Rattle.odb_exec.proofs.Updates.{columns-are}
use Rattle.odb_exec.specs.declared.rows.RowChange.{RowChange}
use Rattle.odb_exec.specs.Rows.{IsChangeOf}
use Rattle.odb_exec.specs.Columns.{columns_after, AreColumnsAfter}
use Rattle.odb_exec.specs.Effect.{IsEffectOf}
use Rattle.odb_exec.proofs.update.update.Goals as goal

pub loop-last-smaller : goal.loop-last-smaller
loop-last-smaller g c =
    let s = g.R.RowSource.state c.args.rows.now in
    let step = step-some c.args.range.now c.args.filter.now g.R.Shown.ShownRow.keyed (option_copied c.key_shown.result) (key_shown g.R.Shown.ShownRow.keyed c.loop-last.last) (g.R.RowSource.state c.loop-last.rows) s c.in_ok-row.field-0
    c.in_ok-row.ensures.row c.key_shown.ensures c.loop-last.invariant.state c.in-Some.row c.in-Some.is in
    omega (arith, ap length step)

pub loop-last-preserved : goal.loop-last-preserved
loop-last-preserved g c =
    let s = g.R.RowSource.state c.args.rows.now in
    let step = step-some c.args.range.now c.args.filter.now g.R.Shown.ShownRow.keyed (option_copied c.key_shown.result) (key_shown g.R.Shown.ShownRow.keyed c.loop-last.last) (g.R.RowSource.state c.loop-last.rows) s c.in_ok-row.field-0
    c.in_ok-row.ensures.row c.key_shown.ensures c.loop-last.invariant.state c.in-Some.row c.in-Some.is in
    let t = c.args.table.now in
    let assigned = c.args.assigned.now in
    let sets = c.args.sets.now in
    let ks = keys_written c.args.written.now.items in
    let x : Entry = entry_of c.args.range.now.table (g.R.Shown.ShownRow.keyed c.in-Some.row) in
    let are : AreColumnsAfter t assigned sets c.as_slice.result.now = subst (AreColumnsAfter t assigned sets) (sym (c.as_slice.ensures ∙ c.in_ok-columns.ensures)) (columns-are t assigned sets c.requires) in
    let row = g.R.Shown.ShownRow.keyed c.in-Some.row in
    let values = c.in_ok-values.ensures ∙ ap (λ (k : List Value). columns_after sets c.as_slice.result.now k c.row.result.now) c.key-key.ensures
    ∙ ap (λ (r : List Value). columns_after sets c.as_slice.result.now row.key r) c.row.ensures
    ∙ values-are t assigned c.args.format ks sets c.as_slice.result.now are row.key row.row in
    let changes : List Value → Option (List Value) → Type 0 = λ key vs. IsChangeOf (new_row_refusal c.args.format t (record { table = c.args.range.now.table; key = key }) vs)
    (new_row_writes t (record { table = c.args.range.now.table; key = key }) vs) c.in_ok-reply.field-0 in
    let change = subst (λ (key : List Value). changes key (new_values t assigned (in_columns t row.key row.row))) c.key-key.ensures
    (subst (λ (vs : Option (List Value)). changes c.key-key.result.now vs) values c.in_ok-reply.ensures) in
    let told = subst (λ (o : RowChange). IsChangeOf (update_refusal c.args.format t assigned x) (update_writes t assigned x) o) c.in-Put.is change in
    record {
      state = c.next_kept.ensures.state ∙ c.loop-last.invariant.state;
      counts = λ file. omega (arith, c.loop-last.invariant.counts file, c.next_kept.ensures.counts file);
      changes = passed-one (IsUpdated t assigned c.args.format ks c.loop-last.changes) (IsUpdated t assigned c.args.format ks c.in_ok-changes-in-Put.changes)
          (rows_left c.args.range.now c.args.filter.now None s) _ _ x c.loop-last.invariant.changes step
          (updated-one t assigned c.args.format ks c.args.range.now c.args.filter.now s c.loop-last.changes c.in_ok-changes-in-Put.changes x _ c.in-Put.write told.0 told.1
          (write-own t assigned c.args.format ks x c.in-Put.write told.1) c.in_ok-changes-in-Put.ensures);
    }

pub returns-clause-effect : goal.returns-clause-effect
returns-clause-effect g c =
    let s = g.R.RowSource.state c.args.rows.now in
    let none = step-none c.args.range.now c.args.filter.now g.R.Shown.ShownRow.keyed (option_copied c.key_shown.result) (key_shown g.R.Shown.ShownRow.keyed c.loop-last.last) (g.R.RowSource.state c.loop-last.rows) s c.in_ok-row.field-0
    c.in_ok-row.ensures.row c.key_shown.ensures c.loop-last.invariant.state c.in_default.is in
    let t = c.args.table.now in
    let assigned = c.args.assigned.now in
    let ks = keys_written c.args.written.now.items in
    let all = rows_left c.args.range.now c.args.filter.now None s in
    let is = passed-all (IsUpdated t assigned c.args.format ks c.loop-last.changes) all _ c.loop-last.invariant.changes none in
    subst (λ (m : Meaning). IsEffectOf m c.into_effect.result) (sym (updated-all t assigned c.args.format ks c.loop-last.changes all is))
    (c.into_effect.ensures ks (flat_map (update_writes t assigned) all) is.changed)

pub returns-in-Refused-clause-effect : goal.returns-in-Refused-clause-effect
returns-in-Refused-clause-effect g c =
    let s = g.R.RowSource.state c.args.rows.now in
    let step = step-some c.args.range.now c.args.filter.now g.R.Shown.ShownRow.keyed (option_copied c.key_shown.result) (key_shown g.R.Shown.ShownRow.keyed c.loop-last.last) (g.R.RowSource.state c.loop-last.rows) s c.in_ok-row.field-0
    c.in_ok-row.ensures.row c.key_shown.ensures c.loop-last.invariant.state c.in-Some.row c.in-Some.is in
    let t = c.args.table.now in
    let assigned = c.args.assigned.now in
    let sets = c.args.sets.now in
    let ks = keys_written c.args.written.now.items in
    let x : Entry = entry_of c.args.range.now.table (g.R.Shown.ShownRow.keyed c.in-Some.row) in
    let are : AreColumnsAfter t assigned sets c.as_slice.result.now = subst (AreColumnsAfter t assigned sets) (sym (c.as_slice.ensures ∙ c.in_ok-columns.ensures)) (columns-are t assigned sets c.requires) in
    let row = g.R.Shown.ShownRow.keyed c.in-Some.row in
    let values = c.in_ok-values.ensures ∙ ap (λ (k : List Value). columns_after sets c.as_slice.result.now k c.row.result.now) c.key-key.ensures
    ∙ ap (λ (r : List Value). columns_after sets c.as_slice.result.now row.key r) c.row.ensures
    ∙ values-are t assigned c.args.format ks sets c.as_slice.result.now are row.key row.row in
    let changes : List Value → Option (List Value) → Type 0 = λ key vs. IsChangeOf (new_row_refusal c.args.format t (record { table = c.args.range.now.table; key = key }) vs)
    (new_row_writes t (record { table = c.args.range.now.table; key = key }) vs) c.in_ok-reply.field-0 in
    let change = subst (λ (key : List Value). changes key (new_values t assigned (in_columns t row.key row.row))) c.key-key.ensures
    (subst (λ (vs : Option (List Value)). changes c.key-key.result.now vs) values c.in_ok-reply.ensures) in
    let told = subst (λ (o : RowChange). IsChangeOf (update_refusal c.args.format t assigned x) (update_writes t assigned x) o) c.in-Refused.is change in
    let all = rows_left c.args.range.now c.args.filter.now None s in
    let parts = c.loop-last.invariant.changes in
    subst (λ (m : Meaning). IsEffectOf m c.without_writes.result)
    (sym (updated-refused t assigned c.args.format ks parts.0 _ x c.loop-last.changes c.in-Refused.reply all (parts.1 ∙ ap (λ (l : List Entry). parts.0 ++ l) step) parts.2 told))
    c.without_writes.ensures
