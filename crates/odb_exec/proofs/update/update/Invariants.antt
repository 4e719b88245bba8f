use Rattle.std.proofs.Common.{◌≡◌, length, None}
use Rattle.odb_rowsource.specs.RowSource.{NoneFell}
use Rattle.odb_exec.specs.Walk.{rows_left, key_shown}
use Rattle.odb_exec.specs.Written.{keys_written}
use Rattle.odb_exec.proofs.Passing.{Passed}
use Rattle.odb_exec.proofs.Updating.{IsUpdated}
use Rattle.odb_exec.proofs.update.update.Given as goal

-- the changes are those of the rows passed, of which none is refused
abbrev pub invariant-loop-last : goal.invariant-loop-last
invariant-loop-last g l = record {
  state : g.R.RowSource.state l.rows ≡ g.R.RowSource.state l.fn.rows;
  counts : NoneFell (g.R.RowSource.faults l.fn.rows) (g.R.RowSource.faults l.rows);
  changes : Passed (IsUpdated l.table l.assigned l.format (keys_written l.written.items) l.changes)
      (rows_left l.range l.filter None (g.R.RowSource.state l.fn.rows)) (rows_left l.range l.filter (key_shown g.R.Shown.ShownRow.keyed l.last) (g.R.RowSource.state l.fn.rows));
}

abbrev pub decreases-loop-last : goal.decreases-loop-last
decreases-loop-last g l = length (rows_left l.range l.filter (key_shown g.R.Shown.ShownRow.keyed l.last) (g.R.RowSource.state l.fn.rows))
