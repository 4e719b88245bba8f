use Rattle.std.proofs.Common.{◌≡◌}
use Rattle.odb_rowsource.specs.RowSource.{NoneFell}
use Rattle.odb_exec.specs.Written.{keys_written}
use Rattle.odb_exec.proofs.Inserting.{IsInserted}
use Rattle.odb_exec.proofs.insert.insert_all.Given as goal

-- the tuples so far are put
abbrev pub invariant-loop-tuple : goal.invariant-loop-tuple
invariant-loop-tuple g l = record {
  state : g.R.RowSource.state l.rows ≡ g.R.RowSource.state l.fn.rows;
  counts : NoneFell (g.R.RowSource.faults l.fn.rows) (g.R.RowSource.faults l.rows);
  inserted : IsInserted l.table l.format (g.R.RowSource.state l.fn.rows) (keys_written l.written.items) l.tuples l.tuple-index l.earlier.keys l.changes;
}
