use Rattle.std.proofs.Common.{◌≡◌, map, take}
use Rattle.odb_model.specs.Meaning.{values_of}
use Rattle.odb_plain.proofs.kept.kept_values.Given as goal

-- the values of the rows so far
abbrev pub invariant-loop-row : goal.invariant-loop-row
invariant-loop-row l = l.values.items ≡ map (values_of l.table) (take l.row-index l.row-items)
