use Rattle.std.proofs.Common.{◌≡◌, ◌∙◌, ap, arith, length, None}
use Rattle.std.specs.Option.{option_copied}
use Rattle.odb_exec.specs.Walk.{rows_left, key_shown}
use Rattle.odb_exec.proofs.Walks.{step-some, step-none}
use Rattle.std.proofs.Common.{pos}
use Rattle.std.proofs.lemmas.Int.{ints}
use Rattle.odb_values.specs.declared.value.Value.TheVariants.{Int}
use Rattle.odb_exec.proofs.select.count_kept.Goals as goal

pub loop-last-smaller : goal.loop-last-smaller
loop-last-smaller g c =
    let s = g.R.RowSource.state c.args.rows.now in
    let step = step-some c.args.range.now c.args.filter.now g.R.Shown.ShownRow.keyed (option_copied c.key_shown.result) (key_shown g.R.Shown.ShownRow.keyed c.loop-last.last) (g.R.RowSource.state c.loop-last.rows) s c.in_ok-row.field-0
    c.in_ok-row.ensures.row c.key_shown.ensures c.loop-last.invariant.state c.in-Some.row c.in-Some.is in
    omega (arith, ap length step)

pub loop-last-preserved : goal.loop-last-preserved
loop-last-preserved g c =
    let s = g.R.RowSource.state c.args.rows.now in
    let step = step-some c.args.range.now c.args.filter.now g.R.Shown.ShownRow.keyed (option_copied c.key_shown.result) (key_shown g.R.Shown.ShownRow.keyed c.loop-last.last) (g.R.RowSource.state c.loop-last.rows) s c.in_ok-row.field-0
    c.in_ok-row.ensures.row c.key_shown.ensures c.loop-last.invariant.state c.in-Some.row c.in-Some.is in
    record {
      state = c.next_kept.ensures.state ∙ c.loop-last.invariant.state;
      counts = λ file. omega (arith, c.loop-last.invariant.counts file, c.next_kept.ensures.counts file);
      count = omega (arith, ints, ap length step, c.in_ok-count.ensures, c.loop-last.invariant.count);
    }

pub returns-clause-count : goal.returns-clause-count
returns-clause-count g c =
    let s = g.R.RowSource.state c.args.rows.now in
    let none = step-none c.args.range.now c.args.filter.now g.R.Shown.ShownRow.keyed (option_copied c.key_shown.result) (key_shown g.R.Shown.ShownRow.keyed c.loop-last.last) (g.R.RowSource.state c.loop-last.rows) s c.in_ok-row.field-0
    c.in_ok-row.ensures.row c.key_shown.ensures c.loop-last.invariant.state c.in_default.is in
    let count : c.loop-last.count ≡ pos (length (rows_left c.args.range.now c.args.filter.now None s)) = omega (arith, ints, ap length none, c.loop-last.invariant.count) in
    cc (ap Int count, c.loop-last.count-is)
