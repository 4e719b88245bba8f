use Rattle.std.proofs.Common.{◌≡◌, ◌++◌, drop}
use Rattle.std.specs.Prelude.{option_map}
use Rattle.odb_exec.specs.Columns.{columns_after}
use Rattle.odb_exec.proofs.columns.columns_after.Given as goal

-- the values so far, and behind them those of the columns that are left, are all
abbrev pub invariant-loop-column : goal.invariant-loop-column
invariant-loop-column l =
    option_map (λ vs. l.values.items ++ vs) (columns_after l.sets (drop l.column-index l.columns) l.key l.row)
    ≡ columns_after l.sets l.columns l.key l.row
