use Rattle.std.proofs.Common.{◌≡◌, map}
use Rattle.std.specs.List.{range_with_len}
use Rattle.odb_model.specs.Table.{stored_value}
use Rattle.odb_plain.proofs.columns.in_columns.Given as goal

-- the values of the places so far
abbrev pub invariant-loop-place : goal.invariant-loop-place
invariant-loop-place l = l.values.items ≡ map (stored_value l.table l.key l.row) (range_with_len 0 l.place)
