-- States and histories. A state maps keys of tables to rows; a history is the list of committed
-- entries.
use Rattle.std.specs.Prelude.{◌≡◌, ℕ, ◌+◌, Bool, ◌==◌, List, [], ◌∷◌, IsTrue, Option, Some, None}
use Rattle.std.specs.List.{list_any}
use Rattle.std.specs.declared.cmp.Ordering.{Ordering}
use Rattle.std.specs.Ordering.{nat_cmp, ordering_then}
use Rattle.std.specs.FinMap.{FinMap, empty, get, insert, remove, retain_keys, entries}
use Rattle.odb_values.specs.declared.value.Value.{Value}
use Rattle.odb_values.specs.declared.range.Range.{Range}
use Rattle.odb_values.specs.Value.{values_cmp}
use Rattle.odb_values.specs.Range.{in_range}
use Rattle.odb_model.specs.declared.table_key.TableKey.{TableKey}
use Rattle.odb_model.specs.declared.write.Write.{Write}
use Rattle.odb_model.specs.declared.entry.Entry.{Entry}

-- by table, then by key
abbrev pub table_key_cmp : TableKey → TableKey → Ordering
table_key_cmp a b = ordering_then (nat_cmp a.table b.table) (values_cmp a.key b.key)

-- a finite map from table keys to rows
abbrev pub State : Type 0
State = FinMap table_key_cmp (List Value)

-- which row a write puts or deletes
abbrev pub table_key_of : Write → TableKey
table_key_of w = record { table = w.table; key = w.key }

-- the state with a row put at a table key, or with the row there deleted
abbrev pub changed : State → TableKey → Option (List Value) → State
changed s at None = remove s at
changed s at (Some row) = insert s at row

-- the state after writes, the first of them first
abbrev pub after_writes : State → List Write → State
after_writes s [] = s
after_writes s (w ∷ ws) = after_writes (changed s (table_key_of w) w.row) ws

abbrev pub replay_from : State → List Entry → State
replay_from s [] = s
replay_from s (e ∷ h) = replay_from (after_writes s e.writes) h

-- the state that a history makes of the empty one
abbrev pub replay : List Entry → State
replay h = replay_from empty h

abbrev pub IsNumberedFrom : ℕ → List Entry → Type 0
IsNumberedFrom n [] = Unit {0}
IsNumberedFrom n (e ∷ h) = (e.number ≡ n) × IsNumberedFrom (n + 1) h

-- the n-th entry of a history has the number n
abbrev pub IsHistory : List Entry → Type 0
IsHistory h = IsNumberedFrom 1 h

abbrev pub is_in : Range → TableKey → Bool
is_in range at = in_range range at.table at.key

abbrev pub is_in_any : List Range → TableKey → Bool
is_in_any ranges at = list_any (λ range. is_in range at) ranges

-- both states have the same at every table key of these ranges
abbrev pub AgreeOn : List Range → State → State → Type 0
AgreeOn ranges s t = (at : TableKey) → IsTrue (is_in_any ranges at) → get s at ≡ get t at

-- all rows of a table with their table keys, in key order
abbrev pub rows_of : ℕ → State → List (TableKey × List Value)
rows_of table s = entries (retain_keys s (λ at. table == at.table))

-- the part of a state inside a range
abbrev pub part_in : Range → State → State
part_in range s = retain_keys s (is_in range)

-- whether some write is to a key of the range
abbrev pub writes_in : Range → List Write → Bool
writes_in range writes = list_any (λ w. is_in range (table_key_of w)) writes
