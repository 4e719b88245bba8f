use Rattle.std.proofs.Common.{◌≡◌, refl, sym, ◌∙◌, arith}
use Rattle.odb_model.specs.State.{State}
use Rattle.odb_rowsource.specs.RowSource.{next_in}
use Rattle.odb_rowsource.proofs.Above.{above-fewer}
use Rattle.odb_check.specs.Left.{whole}
use Rattle.odb_check.proofs.Walks.{given, count_begins, count_goes_on, count_ends}
use Rattle.odb_check.proofs.found.count_rows.Goals as goal

pub loop-last-init : goal.loop-last-init
loop-last-init g c = record { state = refl; counts = λ file. omega arith; counted = count_begins c.args.table (g.R.RowSource.state c.args.rows.now) }

pub loop-last-smaller : goal.loop-last-smaller
loop-last-smaller g c =
    let s : State = g.R.RowSource.state c.args.rows.now in
    let next : c.in_ok-row.field-0 ≡ next_in (whole c.args.table) c.loop-last.last s =
    given c.whole-range.result (whole c.args.table) _ c.loop-last.last (g.R.RowSource.state c.loop-last.rows) s c.in_ok-row.field-0 c.in_ok-row.ensures.row c.whole-range.ensures c.as_ref.ensures.value c.loop-last.invariant.state in
    above-fewer (whole c.args.table) s c.loop-last.last c.in-Some.row (sym c.in-Some.is ∙ next)

pub loop-last-preserved : goal.loop-last-preserved
loop-last-preserved g c =
    let s : State = g.R.RowSource.state c.args.rows.now in
    let next : c.in_ok-row.field-0 ≡ next_in (whole c.args.table) c.loop-last.last s =
    given c.whole-range.result (whole c.args.table) _ c.loop-last.last (g.R.RowSource.state c.loop-last.rows) s c.in_ok-row.field-0 c.in_ok-row.ensures.row c.whole-range.ensures c.as_ref.ensures.value c.loop-last.invariant.state in
    record {
      state = c.next.ensures.state ∙ c.loop-last.invariant.state;
      counts = λ file. omega (arith, c.loop-last.invariant.counts file, c.next.ensures.counts file);
      counted = count_goes_on c.loop-last.count c.saturating_add-count.result c.args.table c.loop-last.last s c.in-Some.row (sym c.in-Some.is ∙ next) c.saturating_add-count.ensures c.loop-last.invariant.counted;
    }

pub returns-clause-count : goal.returns-clause-count
returns-clause-count g c =
    let s : State = g.R.RowSource.state c.args.rows.now in
    let next : c.in_ok-row.field-0 ≡ next_in (whole c.args.table) c.loop-last.last s =
    given c.whole-range.result (whole c.args.table) _ c.loop-last.last (g.R.RowSource.state c.loop-last.rows) s c.in_ok-row.field-0 c.in_ok-row.ensures.row c.whole-range.ensures c.as_ref.ensures.value c.loop-last.invariant.state in
    count_ends c.loop-last.count c.args.table c.loop-last.last s (sym c.in_default.is ∙ next) c.loop-last.invariant.counted
