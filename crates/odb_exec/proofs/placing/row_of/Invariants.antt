use Rattle.std.proofs.Common.{◌≡◌, ◌-◌, ◌++◌, length, map}
use Rattle.std.specs.List.{filter, range_with_len}
use Rattle.odb_model.specs.Table.{value_at, row_of}
use Rattle.odb_exec.specs.Outside.{is_outside}
use Rattle.odb_exec.proofs.placing.row_of.Given as goal

-- the values so far, and behind them those of the places that are left, are the row
abbrev pub invariant-loop-place : goal.invariant-loop-place
invariant-loop-place l =
    l.row.items ++ map (value_at l.values) (filter (is_outside l.table) (range_with_len l.place (length l.table.columns - l.place)))
    ≡ row_of l.table l.values
