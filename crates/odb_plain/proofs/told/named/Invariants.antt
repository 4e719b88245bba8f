use Rattle.std.proofs.Common.{◌≡◌, map, take}
use Rattle.odb_model.specs.Table.{column_value}
use Rattle.odb_plain.proofs.told.named.Given as goal

-- what is given so far
abbrev pub invariant-loop-name : goal.invariant-loop-name
invariant-loop-name l = l.given.items ≡ map (column_value l.table.columns l.values) (take l.name-index l.names)
