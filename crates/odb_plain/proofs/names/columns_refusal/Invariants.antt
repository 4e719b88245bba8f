use Rattle.std.proofs.Common.{◌≡◌, drop}
use Rattle.odb_model.specs.Binding.{first_refusal, column_refusal}
use Rattle.odb_plain.proofs.names.columns_refusal.Given as goal

-- the first refusal is that of the names that are left
abbrev pub invariant-loop-name : goal.invariant-loop-name
invariant-loop-name l =
    first_refusal (column_refusal l.table.columns) (drop l.name-index l.names) ≡ first_refusal (column_refusal l.table.columns) l.names
