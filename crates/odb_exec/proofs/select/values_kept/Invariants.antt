use Rattle.std.proofs.Common.{◌≡◌, ◌++◌, length, map, None}
use Rattle.odb_rowsource.specs.RowSource.{NoneFell}
use Rattle.odb_eval.specs.Bound.{source_value}
use Rattle.odb_exec.specs.Walk.{rows_left, key_shown}
use Rattle.odb_exec.proofs.select.values_kept.Given as goal

-- what is told, and what is to be told of the rows that are left, is all
abbrev pub invariant-loop-last : goal.invariant-loop-last
invariant-loop-last g l = record {
  state : g.R.RowSource.state l.rows ≡ g.R.RowSource.state l.fn.rows;
  counts : NoneFell (g.R.RowSource.faults l.fn.rows) (g.R.RowSource.faults l.rows);
  told : l.told.items ++ map (λ e. map (source_value e.0.key e.1) l.sources) (rows_left l.range l.filter (key_shown g.R.Shown.ShownRow.keyed l.last) (g.R.RowSource.state l.fn.rows))
      ≡ map (λ e. map (source_value e.0.key e.1) l.sources) (rows_left l.range l.filter None (g.R.RowSource.state l.fn.rows));
}

abbrev pub decreases-loop-last : goal.decreases-loop-last
decreases-loop-last g l = length (rows_left l.range l.filter (key_shown g.R.Shown.ShownRow.keyed l.last) (g.R.RowSource.state l.fn.rows))
