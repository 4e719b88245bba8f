use Rattle.std.proofs.Common.{◌≡◌, map, take}
use Rattle.odb_model.specs.Table.{value_at}
use Rattle.odb_plain.proofs.columns.key_of.Given as goal

-- the values of the places so far
abbrev pub invariant-loop-place : goal.invariant-loop-place
invariant-loop-place l = l.key.items ≡ map (value_at l.values) (take l.place-index l.place-items)
