use Rattle.std.proofs.Common.{◌≡◌, map}
use Rattle.std.specs.List.{range_with_len}
use Rattle.odb_exec.specs.Columns.{new_column}
use Rattle.odb_exec.proofs.columns.new_columns.Given as goal

-- the columns of the places so far
abbrev pub invariant-loop-place : goal.invariant-loop-place
invariant-loop-place l = l.columns.items ≡ map (new_column l.table l.assigned) (range_with_len 0 l.place)
