-- The rows of a range that a WHERE keeps, as a walk meets them.
use Rattle.std.specs.Prelude.{◌≡◌, ℕ, Bool, List, [], ◌∷◌, filter, Option, Some, None, option_map}
use Rattle.odb_values.specs.declared.value.Value.{Value}
use Rattle.odb_values.specs.declared.range.Range.{Range}
use Rattle.odb_model.specs.declared.table_key.TableKey.{TableKey}
use Rattle.odb_model.specs.State.{State}
use Rattle.odb_rowsource.specs.declared.row_source.KeyedRow.{KeyedRow}
use Rattle.odb_rowsource.specs.RowSource.{entry_of, rows_above}
use Rattle.odb_eval.specs.declared.filter.Filter.{Filter}
use Rattle.odb_eval.specs.Bound.{keeps}

abbrev pub is_kept : Option Filter → TableKey × List Value → Bool
is_kept f e = keeps e.0.key e.1 f

-- of the rows of a range whose keys are above `after` those that a bound WHERE keeps
abbrev pub rows_left :
    Range → Option Filter → Option (List Value) → State → List (TableKey × List Value)
rows_left range f after s = filter (is_kept f) (rows_above range after s)

-- the first of the rows that are left, behind which those above it are; or None where none is left
abbrev pub IsFirstLeft :
    Range → Option Filter → Option (List Value) → State → Option KeyedRow → Type 0
IsFirstLeft range f after s None = rows_left range f after s ≡ []
IsFirstLeft range f after s (Some r) =
    rows_left range f after s ≡ entry_of range.table r ∷ rows_left range f (Some r.key) s

-- the key of a row, where there is one
abbrev pub key_shown : {T : Type 0} → (T → KeyedRow) → Option T → Option (List Value)
key_shown keyed row = option_map (λ r. (keyed r).key) row
