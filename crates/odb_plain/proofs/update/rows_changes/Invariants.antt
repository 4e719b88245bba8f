use Rattle.std.proofs.Common.{◌≡◌, take, drop}
use Rattle.std.specs.List.{flat_map}
use Rattle.odb_model.specs.Binding.{first_refusal}
use Rattle.odb_model.specs.Meaning.{update_refusal, update_writes}
use Rattle.odb_plain.proofs.update.rows_changes.Given as goal

-- the first refusal is that of the rows that are left, and the writes are those of the others
abbrev pub invariant-loop-row : goal.invariant-loop-row
invariant-loop-row l = record {
  refusal : first_refusal (update_refusal l.format l.table l.sets) (drop l.row-index l.rows) ≡ first_refusal (update_refusal l.format l.table l.sets) l.rows;
  made : l.writes.items ≡ flat_map (update_writes l.table l.sets) (take l.row-index l.rows);
}
