use Rattle.std.proofs.Common.{◌≡◌, ◌∙◌, ap, sym, arith, List, Option, Some, None}
use Rattle.std.specs.Option.{option_copied, option_or}
use Rattle.std.specs.Prelude.{option_map}
use Rattle.odb_eval.specs.Bound.{keeps}
use Rattle.odb_exec.specs.Walk.{key_shown}
use Rattle.odb_values.specs.declared.value.Value.{Value}
use Rattle.odb_rowsource.specs.RowSource.{next_in}
use Rattle.odb_rowsource.proofs.Above.{above-fewer}
use Rattle.odb_exec.proofs.Walks.{left-none, left-kept, left-passed}
use Rattle.odb_exec.proofs.walk.next_kept.Goals as goal

pub returns-in_default-clause-row : goal.returns-in_default-clause-row
returns-in_default-clause-row g c =
    let last : Option (List Value) = option_or (key_shown g.R.Shown.ShownRow.keyed c.loop-passed.passed) (option_copied c.args.after) in
    let none : None ≡ next_in c.args.range.now last (g.R.RowSource.state c.args.rows.now) =
    ap (option_map g.R.Shown.ShownRow.keyed) (sym c.in_default.is) ∙ c.in_ok-row.ensures.row
    ∙ ap (λ (k : Option (List Value)). next_in c.args.range.now k (g.R.RowSource.state c.loop-passed.rows)) c.later.ensures
    ∙ ap (next_in c.args.range.now last) c.loop-passed.invariant.state in
    sym c.loop-passed.invariant.left ∙ left-none c.args.range.now (g.R.RowSource.state c.args.rows.now) c.args.filter.now last none

pub returns-then-keeps-clause-row : goal.returns-then-keeps-clause-row
returns-then-keeps-clause-row g c =
    let last : Option (List Value) = option_or (key_shown g.R.Shown.ShownRow.keyed c.loop-passed.passed) (option_copied c.args.after) in
    let some : Some (g.R.Shown.ShownRow.keyed c.in-Some.row) ≡ next_in c.args.range.now last (g.R.RowSource.state c.args.rows.now) =
    ap (option_map g.R.Shown.ShownRow.keyed) (sym c.in-Some.is) ∙ c.in_ok-row.ensures.row
    ∙ ap (λ (k : Option (List Value)). next_in c.args.range.now k (g.R.RowSource.state c.loop-passed.rows)) c.later.ensures
    ∙ ap (next_in c.args.range.now last) c.loop-passed.invariant.state in
    let here : keeps (g.R.Shown.ShownRow.keyed c.in-Some.row).key (g.R.Shown.ShownRow.keyed c.in-Some.row).row c.args.filter.now ≡ c.keeps.result =
    ap (λ (k : List Value). keeps k (g.R.Shown.ShownRow.keyed c.in-Some.row).row c.args.filter.now) (sym c.key.ensures)
    ∙ ap (λ (r : List Value). keeps c.key.result.now r c.args.filter.now) (sym c.row.ensures) ∙ sym c.keeps.ensures in
    sym c.loop-passed.invariant.left
    ∙ left-kept c.args.range.now (g.R.RowSource.state c.args.rows.now) c.args.filter.now last (g.R.Shown.ShownRow.keyed c.in-Some.row) some (here ∙ c.if-keeps.true)

pub loop-passed-smaller : goal.loop-passed-smaller
loop-passed-smaller g c =
    let last : Option (List Value) = option_or (key_shown g.R.Shown.ShownRow.keyed c.loop-passed.passed) (option_copied c.args.after) in
    let some : Some (g.R.Shown.ShownRow.keyed c.in-Some.row) ≡ next_in c.args.range.now last (g.R.RowSource.state c.args.rows.now) =
    ap (option_map g.R.Shown.ShownRow.keyed) (sym c.in-Some.is) ∙ c.in_ok-row.ensures.row
    ∙ ap (λ (k : Option (List Value)). next_in c.args.range.now k (g.R.RowSource.state c.loop-passed.rows)) c.later.ensures
    ∙ ap (next_in c.args.range.now last) c.loop-passed.invariant.state in
    above-fewer c.args.range.now (g.R.RowSource.state c.args.rows.now) last (g.R.Shown.ShownRow.keyed c.in-Some.row) some

pub loop-passed-preserved : goal.loop-passed-preserved
loop-passed-preserved g c =
    let last : Option (List Value) = option_or (key_shown g.R.Shown.ShownRow.keyed c.loop-passed.passed) (option_copied c.args.after) in
    let some : Some (g.R.Shown.ShownRow.keyed c.in-Some.row) ≡ next_in c.args.range.now last (g.R.RowSource.state c.args.rows.now) =
    ap (option_map g.R.Shown.ShownRow.keyed) (sym c.in-Some.is) ∙ c.in_ok-row.ensures.row
    ∙ ap (λ (k : Option (List Value)). next_in c.args.range.now k (g.R.RowSource.state c.loop-passed.rows)) c.later.ensures
    ∙ ap (next_in c.args.range.now last) c.loop-passed.invariant.state in
    let here : keeps (g.R.Shown.ShownRow.keyed c.in-Some.row).key (g.R.Shown.ShownRow.keyed c.in-Some.row).row c.args.filter.now ≡ c.keeps.result =
    ap (λ (k : List Value). keeps k (g.R.Shown.ShownRow.keyed c.in-Some.row).row c.args.filter.now) (sym c.key.ensures)
    ∙ ap (λ (r : List Value). keeps c.key.result.now r c.args.filter.now) (sym c.row.ensures) ∙ sym c.keeps.ensures in
    record {
      state = c.show.ensures.state ∙ c.loop-passed.invariant.state;
      counts = λ file. omega (arith, c.loop-passed.invariant.counts file, c.show.ensures.counts file);
      left = sym (left-passed c.args.range.now (g.R.RowSource.state c.args.rows.now) c.args.filter.now last (g.R.Shown.ShownRow.keyed c.in-Some.row) some (here ∙ c.if-keeps.false))
          ∙ c.loop-passed.invariant.left;
    }
