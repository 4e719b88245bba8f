-- Which row comes first where intentions are laid over a source.
use Rattle.std.specs.Prelude.{Option, None, Some, option_map, if◌then◌else◌}
use Rattle.std.specs.Ordering.{is_lt}
use Rattle.odb_values.specs.Value.{values_cmp}
use Rattle.odb_model.specs.declared.intention.Intention.{Intention}
use Rattle.odb_rowsource.specs.declared.row_source.KeyedRow.{KeyedRow}
use Rattle.odb_rowsource.specs.declared.overlay.OverlaidRow.{OverlaidRow}
use Rattle.odb_rowsource.specs.declared.overlay.OverlaidRow.TheVariants.{Base, Own}

-- the row that is intended, with its key; none where it is deleted
abbrev pub intended_row : Intention → Option KeyedRow
intended_row i = option_map (λ row. record { key = i.table_key.key; row = row }) i.row

-- of the next row of a source and the next intention the one with the lesser key, which is the
-- intention's where both are for one key
abbrev pub first_of : Option KeyedRow → Intention → Option KeyedRow
first_of None i = intended_row i
first_of (Some found) i =
    if is_lt (values_cmp found.key i.table_key.key) then Some found else intended_row i

-- the row that an overlay shows, with its key, where it is told of the rows below
abbrev pub overlaid : {T : Type 0} → (T → KeyedRow) → OverlaidRow T → KeyedRow
overlaid keyed (Base row) = keyed row
overlaid keyed (Own row) = record { key = row.key.now; row = row.row.now }
