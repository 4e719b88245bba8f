use Rattle.std.proofs.Common.{◌∙◌, ap, arith, List, length, map}
use Rattle.std.specs.Option.{option_copied}
use Rattle.odb_values.specs.declared.value.Value.{Value}
use Rattle.odb_eval.specs.Bound.{source_value}
use Rattle.odb_rowsource.specs.RowSource.{entry_of}
use Rattle.odb_rowsource.proofs.Above.{Entry}
use Rattle.odb_exec.specs.Walk.{key_shown}
use Rattle.odb_exec.proofs.Walks.{step-some, step-none}
use Rattle.odb_exec.proofs.Values.{values-more, values-all}
use Rattle.odb_exec.proofs.select.values_kept.Goals as goal

pub loop-last-smaller : goal.loop-last-smaller
loop-last-smaller g c =
    let s = g.R.RowSource.state c.args.rows.now in
    let step = step-some c.args.range.now c.args.filter.now g.R.Shown.ShownRow.keyed (option_copied c.key_shown.result) (key_shown g.R.Shown.ShownRow.keyed c.loop-last.last) (g.R.RowSource.state c.loop-last.rows) s c.in_ok-row.field-0
    c.in_ok-row.ensures.row c.key_shown.ensures c.loop-last.invariant.state c.in-Some.row c.in-Some.is in
    omega (arith, ap length step)

pub loop-last-preserved : goal.loop-last-preserved
loop-last-preserved g c =
    let s = g.R.RowSource.state c.args.rows.now in
    let step = step-some c.args.range.now c.args.filter.now g.R.Shown.ShownRow.keyed (option_copied c.key_shown.result) (key_shown g.R.Shown.ShownRow.keyed c.loop-last.last) (g.R.RowSource.state c.loop-last.rows) s c.in_ok-row.field-0
    c.in_ok-row.ensures.row c.key_shown.ensures c.loop-last.invariant.state c.in-Some.row c.in-Some.is in
    record {
      state = c.next_kept.ensures.state ∙ c.loop-last.invariant.state;
      counts = λ file. omega (arith, c.loop-last.invariant.counts file, c.next_kept.ensures.counts file);
      told = values-more (λ (e : Entry). map (source_value e.0.key e.1) c.args.sources.now) c.loop-last.told.items _ _ _ (entry_of c.args.range.now.table (g.R.Shown.ShownRow.keyed c.in-Some.row)) _
          c.in_ok-values_of.field-0 c.in_ok-push.ensures.items (c.in_ok-values_of.ensures ∙ ap (λ (k : List Value). map (source_value k c.row.result.now) c.args.sources.now) c.key.ensures
          ∙ ap (λ (r : List Value). map (source_value (g.R.Shown.ShownRow.keyed c.in-Some.row).key r) c.args.sources.now) c.row.ensures) step c.loop-last.invariant.told;
    }

pub returns-clause-told : goal.returns-clause-told
returns-clause-told g c =
    let s = g.R.RowSource.state c.args.rows.now in
    let none = step-none c.args.range.now c.args.filter.now g.R.Shown.ShownRow.keyed (option_copied c.key_shown.result) (key_shown g.R.Shown.ShownRow.keyed c.loop-last.last) (g.R.RowSource.state c.loop-last.rows) s c.in_ok-row.field-0
    c.in_ok-row.ensures.row c.key_shown.ensures c.loop-last.invariant.state c.in_default.is in
    c.from_vec.ensures ∙ values-all (λ (e : Entry). map (source_value e.0.key e.1) c.args.sources.now) c.loop-last.told.items _ _ none c.loop-last.invariant.told
