use Rattle.std.proofs.Common.{◌≡◌, pos, ◌+ℤ◌, length, None}
use Rattle.odb_rowsource.specs.RowSource.{NoneFell}
use Rattle.odb_exec.specs.Walk.{rows_left, key_shown}
use Rattle.odb_exec.proofs.select.count_kept.Given as goal

-- those counted and those that are left are all
abbrev pub invariant-loop-last : goal.invariant-loop-last
invariant-loop-last g l = record {
  state : g.R.RowSource.state l.rows ≡ g.R.RowSource.state l.fn.rows;
  counts : NoneFell (g.R.RowSource.faults l.fn.rows) (g.R.RowSource.faults l.rows);
  count : l.count +ℤ pos (length (rows_left l.range l.filter (key_shown g.R.Shown.ShownRow.keyed l.last) (g.R.RowSource.state l.fn.rows)))
      ≡ pos (length (rows_left l.range l.filter None (g.R.RowSource.state l.fn.rows)));
}

abbrev pub decreases-loop-last : goal.decreases-loop-last
decreases-loop-last g l = length (rows_left l.range l.filter (key_shown g.R.Shown.ShownRow.keyed l.last) (g.R.RowSource.state l.fn.rows))
