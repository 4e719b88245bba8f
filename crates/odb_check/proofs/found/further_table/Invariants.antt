use Rattle.std.proofs.Common.{◌≡◌, length}
use Rattle.odb_rowsource.specs.RowSource.{NoneFell, rows_above}
use Rattle.odb_check.specs.Tables.{table_rows, tables_told}
use Rattle.odb_check.proofs.found.further_table.Given as goal

-- the tables that are left are those that were at first
abbrev pub invariant-loop-range : goal.invariant-loop-range
invariant-loop-range g l = record {
  state : g.R.RowSource.state l.rows ≡ g.R.RowSource.state l.fn.rows;
  counts : NoneFell (g.R.RowSource.faults l.fn.rows) (g.R.RowSource.faults l.rows);
  left : tables_told (rows_above table_rows l.last (g.R.RowSource.state l.fn.rows)) ≡ tables_told (rows_above table_rows l.fn.last (g.R.RowSource.state l.fn.rows));
}

abbrev pub decreases-loop-range : goal.decreases-loop-range
decreases-loop-range g l = length (rows_above table_rows l.last (g.R.RowSource.state l.fn.rows))
