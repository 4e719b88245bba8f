-- A transaction's intentions, kept in the order of their table keys and laid over rows.
use Rattle.std.specs.Prelude.{◌≡◌, ◌≤◌, Bool, false, ◌&&◌, List, [], ◌∷◌, map, length, Option, Some, None, option_map, unwrap_or, is_some, IsTrue, not, if◌then◌else◌}
use Rattle.std.specs.List.{find}
use Rattle.std.specs.List.Sorted.{IsStrictlySortedBy}
use Rattle.std.specs.Ordering.{eq_by_cmp, is_lt, match_ordering}
use Rattle.std.specs.FinMap.{get}
use Rattle.odb_values.specs.declared.value.Value.{Value}
use Rattle.odb_values.specs.declared.range.Range.{Range}
use Rattle.odb_model.specs.declared.write.Write.{Write}
use Rattle.odb_model.specs.declared.table_key.TableKey.{TableKey}
use Rattle.odb_model.specs.declared.intention.Intention.{Intention}
use Rattle.odb_model.specs.State.{State, table_key_cmp, table_key_of, after_writes, is_in}
use Rattle.odb_model.specs.Meaning.{most_writes}
use Rattle.odb_model.specs.Intentions.{writes_to, intended_write}
use Rattle.odb_rowsource.specs.RowSource.{is_above}
use Rattle.odb_rowsource.specs.Stand.{is_from}

-- the state with the intended rows laid over it
abbrev pub laid_over : State → List Intention → State
laid_over s intentions = after_writes s (map intended_write intentions)

-- each table key is below those behind it
abbrev pub AreAscending : List Intention → Type 0
AreAscending intentions = IsStrictlySortedBy table_key_cmp (map (λ i. i.table_key) intentions)

-- what the intentions of a transaction meet: they ascend, and there are at most as many as the keys
-- that a transaction may write
pub record AreIntentions (intentions : List Intention) : Type 0 where
  pub ascending : AreAscending intentions
  pub few : length intentions ≤ most_writes

-- what is intended for a table key
abbrev pub intention_at : TableKey → List Intention → Option Intention
intention_at at intentions = find (λ i. eq_by_cmp table_key_cmp at i.table_key) intentions

-- the row at a table key: as it is intended, or the other one where nothing is
abbrev pub row_over : TableKey → List Intention → Option (List Value) → Option (List Value)
row_over at intentions other =
    unwrap_or (option_map (λ i. i.row) (intention_at at intentions)) other

-- of the intentions in a range the first one above `after`
abbrev pub next_intention : Range → Option (List Value) → List Intention → Option Intention
next_intention range after intentions =
    find (λ i. is_in range i.table_key && is_above after i.table_key.key) intentions

-- the intention of a write, with whether a row was there before the transaction wrote it first
abbrev pub intention_of_write : Write → Bool → Intention
intention_of_write w was_there =
    record { table_key = table_key_of w; bank = w.bank; row = w.row; was_there = was_there }

-- the intentions with one write more: at its place in the order, or in the place of the intention
-- for that table key, of which stays whether a row was there before the first write
abbrev pub put : List Intention → Write → Bool → List Intention
put [] w was_there = intention_of_write w was_there ∷ []
put (i ∷ intentions) w was_there =
    match_ordering (table_key_cmp (table_key_of w) i.table_key)
    (intention_of_write w was_there ∷ i ∷ intentions)
    (intention_of_write w i.was_there ∷ intentions)
    (i ∷ put intentions w was_there)

-- the intentions with these writes more, the first of them first, on rows of which this is told
abbrev pub put_all : List Intention → List Write → (TableKey → Bool) → List Intention
put_all intentions [] was_there = intentions
put_all intentions (w ∷ ws) was_there =
    put_all (put intentions w (was_there (table_key_of w))) ws was_there

-- of each table key that these writes are to it tells whether a row is there
abbrev pub Tells : (TableKey → Bool) → List Write → State → Type 0
Tells was_there writes s =
    (at : TableKey) → IsTrue (writes_to at writes) → was_there at ≡ is_some (get s at)

-- whether an intention comes before a table key
abbrev pub is_before : TableKey → Intention → Bool
is_before at i = is_lt (table_key_cmp i.table_key at)

-- whether there is an intention and it comes before a table key
abbrev pub comes_before : TableKey → Option Intention → Bool
comes_before at None = false
comes_before at (Some i) = is_before at i

-- whether an intention comes before a range, or at or before the key `after` of its table
abbrev pub is_passed : Range → Option (List Value) → Intention → Bool
is_passed range after i = not (is_from range after i.table_key)

-- an intention, where there is one and it passes a test
abbrev pub where_passes : (Intention → Bool) → Option Intention → Option Intention
where_passes test None = None
where_passes test (Some i) = if test i then Some i else None

-- what an intention tells of its row, where there is one and it is for this table key
abbrev pub told_at : TableKey → Option Intention → Option Bool
told_at at found =
    option_map (λ i. i.was_there)
    (where_passes (λ i. eq_by_cmp table_key_cmp at i.table_key) found)
