use Rattle.std.proofs.Common.{◌≡◌, length, None}
use Rattle.std.specs.List.{flat_map}
use Rattle.odb_model.specs.Meaning.{delete_writes}
use Rattle.odb_rowsource.specs.RowSource.{NoneFell}
use Rattle.odb_exec.specs.Walk.{rows_left, key_shown}
use Rattle.odb_exec.specs.Written.{keys_written}
use Rattle.odb_exec.specs.Changes.{StandsFor}
use Rattle.odb_exec.proofs.Passing.{Passed}
use Rattle.odb_exec.proofs.delete.delete.Given as goal

-- the changes are those of the rows passed
abbrev pub invariant-loop-last : goal.invariant-loop-last
invariant-loop-last g l = record {
  state : g.R.RowSource.state l.rows ≡ g.R.RowSource.state l.fn.rows;
  counts : NoneFell (g.R.RowSource.faults l.fn.rows) (g.R.RowSource.faults l.rows);
  changes : Passed (λ passed. StandsFor (keys_written l.written.items) (flat_map (delete_writes l.table) passed) l.changes)
      (rows_left l.range l.filter None (g.R.RowSource.state l.fn.rows)) (rows_left l.range l.filter (key_shown g.R.Shown.ShownRow.keyed l.last) (g.R.RowSource.state l.fn.rows));
}

abbrev pub decreases-loop-last : goal.decreases-loop-last
decreases-loop-last g l = length (rows_left l.range l.filter (key_shown g.R.Shown.ShownRow.keyed l.last) (g.R.RowSource.state l.fn.rows))
