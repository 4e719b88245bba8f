use Rattle.std.proofs.Common.{◌≡◌, length}
use Rattle.std.specs.Option.{option_copied, option_or}
use Rattle.odb_rowsource.specs.RowSource.{NoneFell, rows_above}
use Rattle.odb_exec.specs.Walk.{rows_left, key_shown}
use Rattle.odb_exec.proofs.walk.next_kept.Given as goal

-- the rows that are left behind the last one passed are those that were left
abbrev pub invariant-loop-passed : goal.invariant-loop-passed
invariant-loop-passed g l = record {
  state : g.R.RowSource.state l.rows ≡ g.R.RowSource.state l.fn.rows;
  counts : NoneFell (g.R.RowSource.faults l.fn.rows) (g.R.RowSource.faults l.rows);
  left : rows_left l.range l.filter (option_or (key_shown g.R.Shown.ShownRow.keyed l.passed) (option_copied l.fn.after)) (g.R.RowSource.state l.fn.rows)
      ≡ rows_left l.range l.filter (option_copied l.fn.after) (g.R.RowSource.state l.fn.rows);
}

abbrev pub decreases-loop-passed : goal.decreases-loop-passed
decreases-loop-passed g l = length (rows_above l.range (option_or (key_shown g.R.Shown.ShownRow.keyed l.passed) (option_copied l.fn.after)) (g.R.RowSource.state l.fn.rows))
