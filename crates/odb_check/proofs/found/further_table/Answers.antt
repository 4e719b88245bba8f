use Rattle.std.proofs.Common.{◌≡◌, Some, None, refl, sym, ◌∙◌, arith}
use Rattle.odb_model.specs.State.{State}
use Rattle.odb_rowsource.specs.RowSource.{next_in}
use Rattle.odb_rowsource.proofs.Above.{above-fewer}
use Rattle.odb_check.specs.Tables.{table_rows}
use Rattle.odb_check.proofs.Walks.{given, told_later, told_here, told_none, found_first}
use Rattle.odb_check.proofs.found.further_table.Goals as goal

pub loop-range-init : goal.loop-range-init
loop-range-init g c = record { state = refl; counts = λ file. omega arith; left = refl }

pub loop-range-smaller : goal.loop-range-smaller
loop-range-smaller g c =
    let s : State = g.R.RowSource.state c.args.rows.now in
    let next : c.in_ok-row.field-0 ≡ next_in table_rows c.loop-range.last s =
    given c.in_ok-range.range table_rows _ c.loop-range.last (g.R.RowSource.state c.loop-range.rows) s c.in_ok-row.field-0 c.in_ok-row.ensures.row c.in_ok-range.ensures c.as_ref.ensures.value c.loop-range.invariant.state in
    above-fewer table_rows s c.loop-range.last c.in-Some.row (sym c.in-Some.is ∙ next)

pub loop-range-preserved : goal.loop-range-preserved
loop-range-preserved g c =
    let s : State = g.R.RowSource.state c.args.rows.now in
    let next : c.in_ok-row.field-0 ≡ next_in table_rows c.loop-range.last s =
    given c.in_ok-range.range table_rows _ c.loop-range.last (g.R.RowSource.state c.loop-range.rows) s c.in_ok-row.field-0 c.in_ok-row.ensures.row c.in_ok-range.ensures c.as_ref.ensures.value c.loop-range.invariant.state in
    record {
      state = c.next.ensures.state ∙ c.loop-range.invariant.state;
      counts = λ file. omega (arith, c.loop-range.invariant.counts file, c.next.ensures.counts file);
      left = told_later s c.loop-range.last c.in-Some.row c.in_ok-found.field-0 (sym c.in-Some.is ∙ next) c.in_ok-found.ensures c.in_default-2.is ∙ c.loop-range.invariant.left;
    }

pub returns-in-Some-2-clause-found : goal.returns-in-Some-2-clause-found
returns-in-Some-2-clause-found g c =
    let s : State = g.R.RowSource.state c.args.rows.now in
    let next : c.in_ok-row.field-0 ≡ next_in table_rows c.loop-range.last s =
    given c.in_ok-range.range table_rows _ c.loop-range.last (g.R.RowSource.state c.loop-range.rows) s c.in_ok-row.field-0 c.in_ok-row.ensures.row c.in_ok-range.ensures c.as_ref.ensures.value c.loop-range.invariant.state in
    found_first s c.args.last c.loop-range.last (Some c.in-Some-2.found) c.loop-range.invariant.left
    (told_here s c.loop-range.last c.in-Some.row c.in_ok-found.field-0 c.in-Some-2.found (sym c.in-Some.is ∙ next) c.in_ok-found.ensures c.in-Some-2.is)

pub returns-clause-found : goal.returns-clause-found
returns-clause-found g c =
    let s : State = g.R.RowSource.state c.args.rows.now in
    let next : c.in_ok-row.field-0 ≡ next_in table_rows c.loop-range.last s =
    given c.in_ok-range.range table_rows _ c.loop-range.last (g.R.RowSource.state c.loop-range.rows) s c.in_ok-row.field-0 c.in_ok-row.ensures.row c.in_ok-range.ensures c.as_ref.ensures.value c.loop-range.invariant.state in
    found_first s c.args.last c.loop-range.last None c.loop-range.invariant.left (told_none s c.loop-range.last (sym c.in_default.is ∙ next))
