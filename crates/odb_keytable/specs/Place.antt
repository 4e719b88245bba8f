-- Where a walk over the rows of a state stands.
use Rattle.std.specs.Prelude.{◌≡◌, ℕ, Bool, false, ◌&&◌, not, List, filter, Option, None, Some}
use Rattle.std.specs.Ordering.{is_lt, eq_by_cmp}
use Rattle.std.specs.FinMap.{entries}
use Rattle.odb_values.specs.declared.value.Value.{Value}
use Rattle.odb_values.specs.declared.range.Range.{Range}
use Rattle.odb_model.specs.declared.table_key.TableKey.{TableKey}
use Rattle.odb_model.specs.State.{State, table_key_cmp}
use Rattle.odb_rowsource.specs.Stand.{stand, is_behind, is_from}
use Rattle.odb_keytable.specs.declared.spot.Spot.{Spot}
use Rattle.odb_keytable.specs.Table.{rows_at, AreRows}

-- the rows of a state that are neither before a range nor at or before the key `after` of its table
abbrev pub rows_from : Range → Option (List Value) → State → List (TableKey × List Value)
rows_from range after s = filter (λ e. is_from range after e.0) (entries s)

-- the rows of a state behind a table key
abbrev pub rows_behind : ℕ → List Value → State → List (TableKey × List Value)
rows_behind table key s = filter (λ e. is_behind table (Some key) e.0) (entries s)

-- these entries are the rows from where the next one of a range may be
pub record IsLeft
    (range : Range) (after : Option (List Value)) (s : State) (rest : List (Spot × List Value)) :
    Type 0 where
  pub rows : AreRows rest
  pub left : rows_at rest ≡ rows_from range after s

-- these entries are the rows behind a table key
pub record IsPlace
    (s : State) (table : ℕ) (key : List Value) (rest : List (Spot × List Value)) :
    Type 0 where
  pub rows : AreRows rest
  pub behind : rows_at rest ≡ rows_behind table key s

-- whether `after` is this key of a range's table, and not before the range
abbrev pub goes_on : ℕ → List Value → Range → Option (List Value) → Bool
goes_on table key range None = false
goes_on table key range (Some last) =
    eq_by_cmp table_key_cmp
    (record { table = range.table; key = last }) (record { table = table; key = key })
    && not (is_lt (stand range (record { table = range.table; key = last })))
