-- The state that a table stands for.
use Rattle.std.specs.Prelude.{Bool, ◌&&◌, List, map, IsTrue, Option, None, Some, if◌then◌else◌}
use Rattle.std.specs.Borrow.{Bor}
use Rattle.std.specs.List.{list_all}
use Rattle.std.specs.FinMap.{from_entries}
use Rattle.odb_values.specs.declared.value.Value.{Value}
use Rattle.odb_values.specs.declared.range.Range.{Range}
use Rattle.odb_model.specs.declared.table_key.TableKey.{TableKey}
use Rattle.odb_rowsource.specs.declared.row_source.KeyedRow.{KeyedRow}
use Rattle.odb_model.specs.State.{State, is_in}
use Rattle.odb_keytable.specs.declared.spot.Spot.{Spot}
use Rattle.odb_keytable.specs.Spot.{is_row, table_key_at}

-- an entry of the map with its table key
abbrev pub row_entry : Spot × List Value → TableKey × List Value
row_entry e = (table_key_at e.0, e.1)

abbrev pub rows_at : List (Spot × List Value) → List (TableKey × List Value)
rows_at es = map row_entry es

abbrev pub state_of : List (Spot × List Value) → State
state_of es = from_entries (rows_at es)

-- each spot is a row's place
abbrev pub AreRows : List (Spot × List Value) → Type 0
AreRows es = IsTrue (list_all (λ e. is_row e.0) es)

-- whether an entry is a row of a range
abbrev pub is_inside_row : Range → Spot × List Value → Bool
is_inside_row range e = is_row e.0 && is_in range (table_key_at e.0)

-- an entry, where there is one and it passes a test
abbrev pub where_passes :
    (Spot × List Value → Bool) → Option (Spot × List Value) → Option (Spot × List Value)
where_passes test None = None
where_passes test (Some e) = if test e then Some e else None

-- what is lent of an entry
abbrev pub lent_entry : Bor Spot × Bor (List Value) → Spot × List Value
lent_entry p = (p.0.now, p.1.now)

-- what is lent of a row with its key
abbrev pub lent_row : Bor (List Value) × Bor (List Value) → KeyedRow
lent_row p = record { key = p.0.now; row = p.1.now }
