-- What a source of rows tells and answers.
use Rattle.std.specs.Prelude.{ℕ, ◌≤◌, Bool, true, List, map, Option, None, Some, option_map}
use Rattle.std.specs.List.{find, filter}
use Rattle.std.specs.Ordering.{is_lt}
use Rattle.std.specs.FinMap.{get, entries}
use Rattle.odb_values.specs.declared.value.Value.{Value}
use Rattle.odb_values.specs.declared.range.Range.{Range}
use Rattle.odb_values.specs.Value.{values_cmp}
use Rattle.odb_device.specs.Counts.{Rose}
use Rattle.odb_model.specs.declared.table_key.TableKey.{TableKey}
use Rattle.odb_rowsource.specs.declared.row_source.KeyedRow.{KeyedRow}
use Rattle.odb_rowsource.specs.declared.row_source.RowError.{RowError}
use Rattle.odb_rowsource.specs.declared.row_source.RowError.TheVariants.{NoMemory, Fault}
use Rattle.odb_model.specs.State.{State, part_in}

-- the row that a state has at a table and a key
abbrev pub row_at : ℕ → List Value → State → Option (List Value)
row_at table key s = get s (record { table = table; key = key })

-- whether a key lies above the one given; where none is given each key does
abbrev pub is_above : Option (List Value) → List Value → Bool
is_above None key = true
is_above (Some last) key = is_lt (values_cmp last key)

abbrev pub keyed_row : TableKey × List Value → KeyedRow
keyed_row e = record { key = e.0.key; row = e.1 }

-- of the rows inside a range, which stand in key order, the first one above `after`
abbrev pub next_in : Range → Option (List Value) → State → Option KeyedRow
next_in range after s =
    option_map keyed_row (find (λ e. is_above after e.0.key) (entries (part_in range s)))

-- all rows of a range with their keys, in key order
abbrev pub rows_in : Range → State → List KeyedRow
rows_in range s = map keyed_row (entries (part_in range s))

-- a row of this table, with its table key
abbrev pub entry_of : ℕ → KeyedRow → TableKey × List Value
entry_of table r = (record { table = table; key = r.key }, r.row)

-- the rows of a range whose keys are above `after`, in key order; all where that is None
abbrev pub rows_above : Range → Option (List Value) → State → List (TableKey × List Value)
rows_above range after s = filter (λ e. is_above after e.0.key) (entries (part_in range s))

-- no file's count of faults fell
abbrev pub NoneFell : (ℕ → ℕ) → (ℕ → ℕ) → Type 0
NoneFell old new = (file : ℕ) → old file ≤ new file

-- a fault of a file comes only where that file's count rose
abbrev pub HasCause : (ℕ → ℕ) → (ℕ → ℕ) → RowError → Type 0
HasCause old new NoMemory = Unit {0}
HasCause old new (Fault file) = Rose (old file) (new file)
