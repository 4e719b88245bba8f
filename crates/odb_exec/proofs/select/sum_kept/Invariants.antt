use Rattle.std.proofs.Common.{◌≡◌, length, map, None}
use Rattle.odb_rowsource.specs.RowSource.{NoneFell}
use Rattle.odb_eval.specs.Bound.{source_value}
use Rattle.odb_exec.specs.Walk.{rows_left, key_shown}
use Rattle.odb_exec.specs.Total.{IsTotalOf}
use Rattle.odb_exec.proofs.Passing.{Passed}
use Rattle.odb_exec.proofs.select.sum_kept.Given as goal

-- the sum is that of the rows passed
abbrev pub invariant-loop-last : goal.invariant-loop-last
invariant-loop-last g l = record {
  state : g.R.RowSource.state l.rows ≡ g.R.RowSource.state l.fn.rows;
  counts : NoneFell (g.R.RowSource.faults l.fn.rows) (g.R.RowSource.faults l.rows);
  total : Passed (λ passed. IsTotalOf (map (λ e. source_value e.0.key e.1 l.source) passed) l.total)
      (rows_left l.range l.filter None (g.R.RowSource.state l.fn.rows)) (rows_left l.range l.filter (key_shown g.R.Shown.ShownRow.keyed l.last) (g.R.RowSource.state l.fn.rows));
}

abbrev pub decreases-loop-last : goal.decreases-loop-last
decreases-loop-last g l = length (rows_left l.range l.filter (key_shown g.R.Shown.ShownRow.keyed l.last) (g.R.RowSource.state l.fn.rows))
