-- The values that an UPDATE leaves of a row, with names bound to places.
use Rattle.std.specs.Prelude.{◌≡◌, ℕ, ◌+◌, List, [], ◌∷◌, map, Option, Some, None, slice_get, unwrap_or, option_map, if◌then◌else◌}
use Rattle.std.specs.Option.{option_and_then}
use Rattle.std.specs.List.{zip}
use Rattle.odb_values.specs.declared.value.Value.{Value}
use Rattle.odb_model.specs.declared.statement.Assignment.{Assignment}
use Rattle.odb_model.specs.Table.{Table, is_named, in_columns}
use Rattle.odb_model.specs.Meaning.{new_value, all_some}
use Rattle.odb_eval.specs.Bound.{source_value, place_source, bound_value}
use Rattle.odb_plan.specs.declared.binding.Set.{Set}
use Rattle.odb_exec.specs.declared.columns.NewColumn.{NewColumn}
use Rattle.odb_exec.specs.declared.columns.NewColumn.TheVariants as column

-- what an assignment leaves of a column: its value is set, or taken from where it lies
abbrev pub column_by : Table → ℕ → Option ℕ → NewColumn
column_by t place None = column.Kept (place_source t place)
column_by t place (Some at) = column.Set at

-- the name of the column at a place
abbrev pub name_at : Table → ℕ → List ℕ
name_at t place = unwrap_or (option_map (λ c. c.name) (slice_get t.columns place)) []

-- the place of the first assignment to the column of this name, from 0
abbrev pub set_place : List Assignment → List ℕ → Option ℕ
set_place [] name = None
set_place (a ∷ assigned) name =
    if is_named a.column name then Some 0
    else option_map (λ place. place + 1) (set_place assigned name)

-- what these assignments leave of the column at a place
abbrev pub new_column : Table → List Assignment → ℕ → NewColumn
new_column t assigned place = column_by t place (set_place assigned (name_at t place))

-- the value of one column; None is an overflow
abbrev pub column_after : List Set → List Value → List Value → NewColumn → Option Value
column_after sets key row (column.Kept source) = Some (source_value key row source)
column_after sets key row (column.Set at) =
    option_and_then (λ set. bound_value key row set.value) (slice_get sets at)

-- the values of all columns; None is an overflow
abbrev pub columns_after : List Set → List NewColumn → List Value → List Value → Option (List Value)
columns_after sets columns key row = all_some (map (column_after sets key row) columns)

-- each column gets what the UPDATE leaves of it
abbrev pub AreColumnsAfter : Table → List Assignment → List Set → List NewColumn → Type 0
AreColumnsAfter t assigned sets columns = (key row : List Value)
    → map (column_after sets key row) columns
    ≡ map (new_value t.columns assigned (in_columns t key row))
    (zip t.columns (in_columns t key row))
