use Rattle.std.proofs.Common.{◌≡◌, length}
use Rattle.odb_rowsource.specs.RowSource.{NoneFell, rows_above}
use Rattle.odb_check.specs.Left.{whole}
use Rattle.odb_check.proofs.Walks.{IsCounted}
use Rattle.odb_check.proofs.found.count_rows.Given as goal

-- the rows that are passed are counted
abbrev pub invariant-loop-last : goal.invariant-loop-last
invariant-loop-last g l = record {
  state : g.R.RowSource.state l.rows ≡ g.R.RowSource.state l.fn.rows;
  counts : NoneFell (g.R.RowSource.faults l.fn.rows) (g.R.RowSource.faults l.rows);
  counted : IsCounted l.count l.fn.table l.last (g.R.RowSource.state l.fn.rows);
}

abbrev pub decreases-loop-last : goal.decreases-loop-last
decreases-loop-last g l = length (rows_above (whole l.fn.table) l.last (g.R.RowSource.state l.fn.rows))
