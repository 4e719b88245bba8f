-- Which ranges a statement reads, taken from its text and the dictionary alone.
use Rattle.std.specs.Prelude.{ℕ, not, List, [], ◌∷◌, map, filter, Option, Some, None}
use Rattle.std.specs.List.{list_any}
use Rattle.odb_values.specs.declared.value.Value.{Value}
use Rattle.odb_values.specs.declared.edge.Edge.TheVariants.{Free}
use Rattle.odb_values.specs.declared.range.Range.{Range}
use Rattle.odb_values.specs.Value.{is_null}
use Rattle.odb_model.specs.declared.reply.Reply.{Reply}
use Rattle.odb_model.specs.declared.statement.Statement.{Statement}
use Rattle.odb_model.specs.declared.statement.Statement.TheVariants.{Select, Insert, Update, Delete}
use Rattle.odb_model.specs.State.{State}
use Rattle.odb_model.specs.Table.{Table, key_of}
use Rattle.odb_model.specs.Dictionary.{table_of, dictionary_key}
use Rattle.odb_model.specs.Binding.{binding_refusal}
use Rattle.odb_model.specs.Where.{range_of}

-- What is asked of a state, so that a statement depends on the ranges that it reads alone. Nothing
-- yet, so every state is lawful: once there are indexes, it will say that the keys of each index are
-- those of its table's rows
abbrev pub IsLawful : State → Type 0
IsLawful s = Unit {0}

-- a point: the range whose prefix is a whole key
abbrev pub point : ℕ → List Value → Range
point table key = record { table = table; prefix = key; low = Free; high = Free }

-- the row of the dictionary that tells of a table
abbrev pub dictionary_row : List ℕ → Range
dictionary_row name = point 6 (dictionary_key name)

-- the keys of tuples, without those that hold Null
abbrev pub full_keys : Table → List (List Value) → List (List Value)
full_keys t tuples = filter (λ key. not (list_any is_null key)) (map (key_of t) tuples)

-- what a statement that binds reads of its table
abbrev pub table_reads : Table → Statement → List Range
table_reads t (Select what table filter_of) = range_of t filter_of ∷ []
table_reads t (Insert table tuples) = map (point t.number) (full_keys t tuples)
table_reads t (Update table sets filter_of) = range_of t filter_of ∷ []
table_reads t (Delete table filter_of) = range_of t filter_of ∷ []
table_reads t other = []

abbrev pub unless_refused : Option Reply → List Range → List Range
unless_refused None ranges = ranges
unless_refused (Some reply) ranges = []

abbrev pub reads_on : Option Table → Statement → List Range
reads_on None st = []
reads_on (Some t) st = unless_refused (binding_refusal t st) (table_reads t st)

-- Each statement on rows reads the dictionary's row of its table, also where it is refused. Where it
-- binds, a SELECT, UPDATE or DELETE reads the range of its WHERE, and an INSERT the point of each
-- tuple's key that has no Null
abbrev pub reads : Statement → State → List Range
reads (Select what table filter_of) s =
    dictionary_row table ∷ reads_on (table_of s table) (Select what table filter_of)
reads (Insert table tuples) s =
    dictionary_row table ∷ reads_on (table_of s table) (Insert table tuples)
reads (Update table sets filter_of) s =
    dictionary_row table ∷ reads_on (table_of s table) (Update table sets filter_of)
reads (Delete table filter_of) s =
    dictionary_row table ∷ reads_on (table_of s table) (Delete table filter_of)
reads other s = []
