use Rattle.std.proofs.Common.{[], ◌∷◌, ◌++◌, ◌∙◌, ap, sym, subst, arith, List, length, map, None}
use Rattle.std.specs.Option.{option_copied}
use Rattle.odb_values.specs.declared.value.Value.{Value}
use Rattle.odb_eval.specs.Bound.{source_value}
use Rattle.odb_rowsource.specs.RowSource.{entry_of}
use Rattle.odb_exec.specs.Walk.{rows_left, key_shown}
use Rattle.odb_rowsource.proofs.Above.{Entry}
use Rattle.odb_exec.proofs.Walks.{step-some, step-none}
use Rattle.odb_exec.proofs.Passing.{passed-one, passed-all}
use Rattle.odb_exec.specs.Total.{IsTotalOf}
use Rattle.odb_exec.proofs.Values.{map-one}
use Rattle.odb_exec.proofs.select.sum_kept.Goals as goal

pub loop-last-smaller : goal.loop-last-smaller
loop-last-smaller g c =
    let s = g.R.RowSource.state c.args.rows.now in
    let step = step-some c.args.range.now c.args.filter.now g.R.Shown.ShownRow.keyed (option_copied c.key_shown.result) (key_shown g.R.Shown.ShownRow.keyed c.loop-last.last) (g.R.RowSource.state c.loop-last.rows) s c.in_ok-row.field-0
    c.in_ok-row.ensures.row c.key_shown.ensures c.loop-last.invariant.state c.in-Some.row c.in-Some.is in
    omega (arith, ap length step)

pub loop-last-preserved : goal.loop-last-preserved
loop-last-preserved g c =
    let s = g.R.RowSource.state c.args.rows.now in
    let step = step-some c.args.range.now c.args.filter.now g.R.Shown.ShownRow.keyed (option_copied c.key_shown.result) (key_shown g.R.Shown.ShownRow.keyed c.loop-last.last) (g.R.RowSource.state c.loop-last.rows) s c.in_ok-row.field-0
    c.in_ok-row.ensures.row c.key_shown.ensures c.loop-last.invariant.state c.in-Some.row c.in-Some.is in
    let source = c.args.source.now in
    let G : Entry → Value = λ e. source_value e.0.key e.1 source in
    let x : Entry = entry_of c.args.range.now.table (g.R.Shown.ShownRow.keyed c.in-Some.row) in
    let value = c.value.ensures ∙ ap (λ (k : List Value). source_value k c.as_slice-in-Some.result.now source) (c.as_slice.ensures.value ∙ c.key.ensures)
    ∙ ap (λ (r : List Value). source_value (g.R.Shown.ShownRow.keyed c.in-Some.row).key r source) (c.as_slice-in-Some.ensures ∙ c.row.ensures) in
    record {
      state = c.next_kept.ensures.state ∙ c.loop-last.invariant.state;
      counts = λ file. omega (arith, c.loop-last.invariant.counts file, c.next_kept.ensures.counts file);
      total = passed-one (λ passed. IsTotalOf (map G passed) c.loop-last.total) (λ passed. IsTotalOf (map G passed) c.in_ok-total.total)
          (rows_left c.args.range.now c.args.filter.now None s) _ _ x c.loop-last.invariant.total step
          (λ passed here is. subst (λ (values : List Value). IsTotalOf values c.in_ok-total.total)
          (ap (λ (v : Value). map G passed ++ v ∷ []) value ∙ sym (map-one G passed x)) (c.in_ok-total.ensures (map G passed) is));
    }

pub returns-clause-sum : goal.returns-clause-sum
returns-clause-sum g c =
    let s = g.R.RowSource.state c.args.rows.now in
    let none = step-none c.args.range.now c.args.filter.now g.R.Shown.ShownRow.keyed (option_copied c.key_shown.result) (key_shown g.R.Shown.ShownRow.keyed c.loop-last.last) (g.R.RowSource.state c.loop-last.rows) s c.in_ok-row.field-0
    c.in_ok-row.ensures.row c.key_shown.ensures c.loop-last.invariant.state c.in_default.is in
    let G : Entry → Value = λ e. source_value e.0.key e.1 c.args.source.now in
    let all = rows_left c.args.range.now c.args.filter.now None s in
    c.into_value.ensures (map G all) (passed-all (λ passed. IsTotalOf (map G passed) c.loop-last.total) all _ c.loop-last.invariant.total none)
