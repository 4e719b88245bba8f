use Rattle.std.proofs.Common.{◌≡◌, map, take}
use Rattle.odb_model.specs.Table.{column_value}
use Rattle.odb_plain.proofs.told.all_named.Given as goal

-- what is given so far
abbrev pub invariant-loop-row : goal.invariant-loop-row
invariant-loop-row l = l.given.items ≡ map (λ values. map (column_value l.table.columns values) l.names) (take l.row-index l.rows)
