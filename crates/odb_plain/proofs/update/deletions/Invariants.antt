use Rattle.std.proofs.Common.{◌≡◌, take}
use Rattle.std.specs.List.{flat_map}
use Rattle.odb_model.specs.Meaning.{delete_writes}
use Rattle.odb_plain.proofs.update.deletions.Given as goal

-- the writes of the rows so far
abbrev pub invariant-loop-row : goal.invariant-loop-row
invariant-loop-row l = l.writes.items ≡ flat_map (delete_writes l.table) (take l.row-index l.rows)
