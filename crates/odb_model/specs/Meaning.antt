-- What a statement means on a state: its reply and its writes, over the whole list of the table's
-- rows.
use Rattle.std.specs.Prelude.{ℕ, pos, nat_lt, List, [], ◌∷◌, ◌++◌, length, map, filter, find, is_some, Option, Some, None, option_map, if◌then◌else◌}
use Rattle.std.specs.Option.{option_or}
use Rattle.std.specs.List.{zip, flat_map}
use Rattle.std.specs.FinMap.{FinMap, empty, get, insert, entries}
use Rattle.odb_values.specs.declared.value.Value.{Value}
use Rattle.odb_values.specs.declared.value.Value.TheVariants.{Int}
use Rattle.odb_model.specs.declared.write.Write.{Write}
use Rattle.odb_model.specs.declared.reply.Reply.{Reply}
use Rattle.odb_model.specs.declared.reply.Reply.TheVariants.{Okay, Rows, Done, NotYet, NoTable, Overflow, Duplicate, TooManyWrites}
use Rattle.odb_model.specs.declared.statement.What.{What}
use Rattle.odb_model.specs.declared.statement.What.TheVariants.{All, Columns, Count, Sum}
use Rattle.odb_model.specs.declared.statement.Assignment.{Assignment}
use Rattle.odb_model.specs.declared.predicate.Predicate.{Predicate}
use Rattle.odb_model.specs.declared.statement.Statement.{Statement}
use Rattle.odb_model.specs.declared.statement.Statement.TheVariants.{Start, Commit, Rollback, Select, Insert, Update, Delete}
use Rattle.odb_model.specs.declared.table_key.TableKey.{TableKey}
use Rattle.odb_model.specs.State.{State, table_key_cmp, table_key_of, changed, rows_of}
use Rattle.odb_model.specs.Table.{Column, Table, is_named, in_columns, column_value, key_of, row_of}
use Rattle.odb_model.specs.Dictionary.{table_of}
use Rattle.odb_model.specs.Binding.{binding_refusal, first_refusal, refuse_if}
use Rattle.odb_model.specs.Sums.{value_of, total_of}
use Rattle.odb_model.specs.Fitting.{row_refusal}
use Rattle.odb_model.specs.Truth.{matches}

pub record Meaning : Type 0 where
  pub reply : Reply
  pub writes : List Write

-- a refused statement has no writes
abbrev pub refused : Reply → Meaning
refused reply = record { reply = reply; writes = [] }

abbrev pub refused_or : Option Reply → Meaning → Meaning
refused_or None meaning = meaning
refused_or (Some reply) meaning = refused reply

-- the values of a row in column order
abbrev pub values_of : Table → TableKey × List Value → List Value
values_of t e = in_columns t e.0.key e.1

-- the rows of the table at which the filter is True, with their table keys, in key order
abbrev pub kept_rows : Table → Option Predicate → State → List (TableKey × List Value)
kept_rows t filter_of s =
    filter (λ e. matches t.columns filter_of (values_of t e)) (rows_of t.number s)

-- the same, each row as its values in column order
abbrev pub kept_values : Table → Option Predicate → State → List (List Value)
kept_values t filter_of s = map (values_of t) (kept_rows t filter_of s)

-- a row of one value
abbrev single : Value → Reply
single v = Rows ((v ∷ []) ∷ [])

abbrev pub single_or_overflow : Option Value → Reply
single_or_overflow None = Overflow
single_or_overflow (Some v) = single v

-- what a SELECT tells of the rows that it keeps
abbrev pub told : List Column → What → List (List Value) → Reply
told columns All rows = Rows rows
told columns (Columns names) rows =
    Rows (map (λ values. map (column_value columns values) names) rows)
told columns Count rows = single (Int (pos (length rows)))
told columns (Sum name) rows =
    single_or_overflow (total_of (map (λ values. column_value columns values name) rows))

abbrev pub selected : Table → What → List (List Value) → Meaning
selected t what rows = record { reply = told t.columns what rows; writes = [] }

-- the write to a table key of this table: the row that is put there, or None where it is deleted
abbrev pub write_at : Table → TableKey → Option (List Value) → Write
write_at t at row = record { bank = t.bank; table = at.table; key = at.key; row = row }

-- the table key of a row that is given in column order
abbrev pub place_of : Table → List Value → TableKey
place_of t values = record { table = t.number; key = key_of t values }

-- the write that puts a row, given in column order, into its table
abbrev pub put_of : Table → List Value → Write
put_of t values = write_at t (place_of t values) (Some (row_of t values))

-- the writes of a tuple
abbrev pub writes_of : Table → List Value → List Write
writes_of t values = put_of t values ∷ []

-- a finite set of table keys
abbrev pub KeySet : Type 0
KeySet = FinMap table_key_cmp (Unit {0})

abbrev pub all_of : KeySet → List TableKey → KeySet
all_of found [] = found
all_of found (at ∷ keys) = all_of (insert found at tt) keys

-- how many different table keys there are among these
abbrev pub different : List TableKey → ℕ
different keys = length (entries (all_of empty keys))

-- the most keys that a transaction may write
abbrev pub most_writes : ℕ
most_writes = 4096

-- so many rows are changed by these writes, unless the transaction would have written too many keys
abbrev pub done : List TableKey → ℕ → List Write → Meaning
done written count writes =
    if nat_lt most_writes (different (written ++ map table_key_of writes))
    then refused TooManyWrites
    else record { reply = Done count; writes = writes }

-- the key is there already
abbrev pub duplicate_refusal : State → Write → Option Reply
duplicate_refusal s w = refuse_if (is_some (get s (table_key_of w))) Duplicate

-- the state with a write made
abbrev pub with_write : State → Write → State
with_write s w = changed s (table_key_of w) w.row

-- The first refusal of tuples, in their order: a row doesn't fit, or its key is there or in an earlier
-- tuple
abbrev pub tuples_refusal : ℕ → Table → State → List (List Value) → Option Reply
tuples_refusal format t s [] = None
tuples_refusal format t s (values ∷ tuples) =
    option_or (row_refusal format t (key_of t values) values)
    (option_or (duplicate_refusal s (put_of t values))
    (tuples_refusal format t (with_write s (put_of t values)) tuples))

abbrev pub inserted : Table → List (List Value) → State → List TableKey → ℕ → Meaning
inserted t tuples s written format =
    refused_or (tuples_refusal format t s tuples)
    (done written (length tuples) (flat_map (writes_of t) tuples))

-- the value of a column that an UPDATE leaves of a row; None is an overflow
abbrev pub value_or : List Column → List Value → Value → Option Assignment → Option Value
value_or columns values v None = Some v
value_or columns values v (Some a) = value_of columns values a.value

abbrev pub new_value : List Column → List Assignment → List Value → Column × Value → Option Value
new_value columns sets values item =
    value_or columns values item.1 (find (λ a. is_named a.column item.0.name) sets)

abbrev pub all_some : {A : Type 0} → List (Option A) → Option (List A)
all_some [] = Some []
all_some (None ∷ xs) = None
all_some (Some x ∷ xs) = option_map (λ ys. x ∷ ys) (all_some xs)

-- the values that an UPDATE leaves of a row's, both in column order; None is an overflow
abbrev pub new_values : Table → List Assignment → List Value → Option (List Value)
new_values t sets values = all_some (map (new_value t.columns sets values) (zip t.columns values))

abbrev pub new_row_refusal : ℕ → Table → TableKey → Option (List Value) → Option Reply
new_row_refusal format t at None = Some Overflow
new_row_refusal format t at (Some values) = row_refusal format t at.key values

abbrev pub update_refusal :
    ℕ → Table → List Assignment → TableKey × List Value → Option Reply
update_refusal format t sets e =
    new_row_refusal format t e.0 (new_values t sets (values_of t e))

abbrev pub new_row_writes : Table → TableKey → Option (List Value) → List Write
new_row_writes t at None = []
new_row_writes t at (Some values) = write_at t at (Some (row_of t values)) ∷ []

-- the writes that an UPDATE makes to a row
abbrev pub update_writes : Table → List Assignment → TableKey × List Value → List Write
update_writes t sets e = new_row_writes t e.0 (new_values t sets (values_of t e))

-- the rows are gone through in key order, and the first refusal comes
abbrev pub updated :
    Table → List Assignment → List (TableKey × List Value) → List TableKey → ℕ → Meaning
updated t sets rows written format =
    refused_or (first_refusal (update_refusal format t sets) rows)
    (done written (length rows) (flat_map (update_writes t sets) rows))

-- the writes that delete a row
abbrev pub delete_writes : Table → TableKey × List Value → List Write
delete_writes t e = write_at t e.0 None ∷ []

abbrev pub deleted : Table → List (TableKey × List Value) → List TableKey → Meaning
deleted t rows written = done written (length rows) (flat_map (delete_writes t) rows)

-- what a statement that binds does with the rows of its table
abbrev pub executed : Table → Statement → State → List TableKey → ℕ → Meaning
executed t (Select what table filter_of) s written format =
    selected t what (kept_values t filter_of s)
executed t (Insert table tuples) s written format = inserted t tuples s written format
executed t (Update table sets filter_of) s written format =
    updated t sets (kept_rows t filter_of s) written format
executed t (Delete table filter_of) s written format =
    deleted t (kept_rows t filter_of s) written
executed t other s written format = refused NotYet

abbrev pub on_table : Option Table → Statement → State → List TableKey → ℕ → Meaning
on_table None st s written format = refused NoTable
on_table (Some t) st s written format =
    refused_or (binding_refusal t st) (executed t st s written format)

-- The reply and the writes of a statement on rows, in a database of this format. `written` has the
-- table keys that the transaction has written so far. START, COMMIT and ROLLBACK mean nothing on
-- rows: the machine answers them. The others aren't built
abbrev pub meaning : Statement → State → List TableKey → ℕ → Meaning
meaning Start s written format = refused Okay
meaning Commit s written format = refused Okay
meaning Rollback s written format = refused Okay
meaning (Select what table filter_of) s written format =
    on_table (table_of s table) (Select what table filter_of) s written format
meaning (Insert table tuples) s written format =
    on_table (table_of s table) (Insert table tuples) s written format
meaning (Update table sets filter_of) s written format =
    on_table (table_of s table) (Update table sets filter_of) s written format
meaning (Delete table filter_of) s written format =
    on_table (table_of s table) (Delete table filter_of) s written format
meaning other s written format = refused NotYet
