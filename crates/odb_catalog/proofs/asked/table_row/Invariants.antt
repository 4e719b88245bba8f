use Rattle.std.proofs.Common.{◌≡◌, pos, ◌∷◌, length, take}
use Rattle.std.specs.List.{flat_map}
use Rattle.odb_values.specs.declared.value.Value.TheVariants.{Int}
use Rattle.odb_model.specs.Definitions.{column_values}
use Rattle.odb_catalog.proofs.asked.table_row.Given as goal

-- the columns so far
abbrev pub invariant-loop-column : goal.invariant-loop-column
invariant-loop-column l =
    l.values.items ≡ Int (pos l.fn.number) ∷ Int (pos l.fn.bank) ∷ Int (pos (length l.columns)) ∷ flat_map (column_values l.key) (take l.column-index l.columns)
