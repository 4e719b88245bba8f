-- The record of a key among those that memory keeps.
use Rattle.std.specs.Prelude.{Bool, false, ◌&&◌, if◌then◌else◌, List, [], ◌∷◌, Option, Some, None}
use Rattle.std.specs.Ordering.{is_eq}
use Rattle.odb_values.specs.declared.range.Range.{Range}
use Rattle.odb_values.specs.declared.value.Value.{Value}
use Rattle.odb_rowsource.specs.Stand.{stand, is_behind}
use Rattle.odb_bank.specs.declared.kept.Kept.{Kept}
use Rattle.odb_bank.specs.Choosing.{is_better}
use Rattle.odb_bank.specs.Closing.{is_open}
use Rattle.odb_bank.specs.History.{Key, is_key}

-- whether it is open on the disk and of the key
abbrev pub is_for : Key → Kept → Bool
is_for key it = is_open it.gate && is_key it.at key

-- the better one of a record so far and this one, where that is of the key
abbrev pub better_of : Key → Option Kept → Kept → Option Kept
better_of key None it = if is_for key it then Some it else None
better_of key (Some so_far) it =
    if is_for key it && is_better so_far it then Some it else Some so_far

-- the best one of a list
abbrev pub best_in : Key → Option Kept → List Kept → Option Kept
best_in key so_far [] = so_far
best_in key so_far (it ∷ slots) = best_in key (better_of key so_far it) slots

abbrev pub has_row_of : Option Kept → Bool
has_row_of None = false
has_row_of (Some it) = it.has_row

-- whether the key has a row
abbrev pub has_row_in : List Kept → Key → Bool
has_row_in slots key = has_row_of (best_in key None slots)

-- whether a record's key is in the range, behind the other one, and has a row
abbrev pub is_reached : List Kept → Range → Option (List Value) → Kept → Bool
is_reached slots range after it = is_eq (stand range it.at)
    && is_behind range.table after it.at && has_row_in slots it.at
