-- What a definition writes into the dictionary, or what it is refused for. CREATE TABLE and DROP TABLE
-- are built. The rules and the order of the refusals are this project's own.
use Rattle.std.specs.Prelude.{ℕ, ◌+◌, ◌-◌, ◌^◌, pos, Bool, true, false, ◌||◌, ◌==◌, nat_lt, not, List, [], ◌∷◌, length, map, flat_map, codes, is_some, Option, Some, None, option_map, if◌then◌else◌}
use Rattle.std.specs.Option.{option_or, option_map_or}
use Rattle.std.specs.List.{list_any, list_all, filter_map}
use Rattle.odb_values.specs.declared.value.Value.{Value}
use Rattle.odb_values.specs.declared.value.Value.TheVariants.{Int, Text}
use Rattle.odb_model.specs.declared.write.Write.{Write}
use Rattle.odb_model.specs.declared.reply.Reply.{Reply}
use Rattle.odb_model.specs.declared.reply.Reply.TheVariants.{NotYet, NoTable, NoBank, NameTaken, NotEmpty, NoNumberLeft, Fixed, NoColumn, ColumnCount, TooLong}
use Rattle.odb_model.specs.declared.statement.ColumnText.{ColumnText}
use Rattle.odb_model.specs.declared.statement.Statement.{Statement}
use Rattle.odb_model.specs.declared.statement.Statement.TheVariants.{CreateTable, DropTable}
use Rattle.odb_model.specs.Lexeme.{Lexeme}
use Rattle.odb_model.specs.Grammar.{Spells}
use Rattle.odb_model.specs.State.{State, rows_of}
use Rattle.odb_model.specs.Table.{Column, Table, is_named, column_place}
use Rattle.odb_model.specs.Dictionary.{names_differ, table_of}
use Rattle.odb_model.specs.Binding.{refuse_if}
use Rattle.odb_model.specs.Databanks.{Databank, dictionary_table, table_kind, number_kind, sysdb, row_key, databank_named, next_number}

-- some text spells the statement
abbrev pub IsSpelled : Statement → Type 0
IsSpelled st = (lexemes : List Lexeme) × Spells lexemes st

-- what a definition comes to: it is refused, or these are its writes
pub data Planned : Type 0 where
  Refused : Reply → Planned
  Plans : List Write → Planned

-- a row of the dictionary, a table of SYSDB, that is put, or taken away
abbrev pub dictionary_write : ℕ → List ℕ → Option (List Value) → Write
dictionary_write kind name row = record {
  bank = sysdb.number;
  table = dictionary_table;
  key = row_key kind name;
  row = row;
}

-- a number is used: the next one is the one above it
abbrev pub number_write : ℕ → Write
number_write used =
    dictionary_write number_kind (codes "NEXT") (Some (Int (pos (used + 1)) ∷ []))

-- the number that is never given: where it is the next one, all others are used
abbrev pub numbers_end : ℕ
numbers_end = 2 ^ 32 - 1

abbrev pub text_names : List ColumnText → List (List ℕ)
text_names columns = map (λ c. c.name) columns

abbrev pub is_among : List (List ℕ) → List ℕ → Bool
is_among names name = list_any (is_named name) names

-- a VARCHAR of other than 1 to 200 characters
abbrev pub is_out_of_range : Option ℕ → Bool
is_out_of_range None = false
is_out_of_range (Some n) = nat_lt n 1 || nat_lt 200 n

-- INTEGER is 0, VARCHAR(n) is n
abbrev pub asked_kind : Option ℕ → ℕ
asked_kind None = 0
asked_kind (Some n) = n

-- the place of the first of these names that is this one, from 0
abbrev pub name_place : List (List ℕ) → List ℕ → Option ℕ
name_place [] name = None
name_place (other ∷ names) name =
    if is_named name other then Some 0
    else option_map (λ place. place + 1) (name_place names name)

-- the place of a column in the primary key, from 1, or 0
abbrev pub key_place : List (List ℕ) → List ℕ → ℕ
key_place key name = option_map_or (λ place. place + 1) (name_place key name) 0

-- a column in the row of its table: its name, its kind, 1 where NOT NULL is said of it, else 0, and
-- its place in the primary key
abbrev pub column_values : List (List ℕ) → ColumnText → List Value
column_values key c =
    Text c.name ∷ Int (pos (asked_kind c.length)) ∷ Int (pos (if c.not_null then 1 else 0))
    ∷ Int (pos (key_place key c.name)) ∷ []

-- the row of a table: its number, its databank's number, the count of its columns, and the columns
abbrev pub table_row : ℕ → ℕ → List ColumnText → List (List ℕ) → List Value
table_row number bank columns key =
    Int (pos number) ∷ Int (pos bank) ∷ Int (pos (length columns))
    ∷ flat_map (column_values key) columns

-- What refuses a CREATE TABLE in a databank that is there, in this order: a table has the name, or
-- two columns have one name; there are more than 15 columns, or one is twice in the key; a VARCHAR is
-- of other than 1 to 200 characters; a column of the key isn't there; no number is left
abbrev pub creation_refusal :
    State → List ℕ → List ColumnText → List (List ℕ) → Option Reply
creation_refusal s name columns key =
    option_or (refuse_if (is_some (table_of s name) || not (names_differ (text_names columns))) NameTaken)
    (option_or (refuse_if (nat_lt 15 (length columns) || not (names_differ key)) ColumnCount)
    (option_or (refuse_if (list_any (λ c. is_out_of_range c.length) columns) TooLong)
    (option_or (refuse_if (not (list_all (is_among (text_names columns)) key)) NoColumn)
    (refuse_if (next_number s == numbers_end) NoNumberLeft))))

abbrev pub plan_unless : Option Reply → List Write → Planned
plan_unless None writes = Plans writes
plan_unless (Some reply) writes = Refused reply

-- CREATE TABLE takes this number, for the table
abbrev pub creation_writes :
    ℕ → ℕ → List ℕ → List ColumnText → List (List ℕ) → List Write
creation_writes number bank name columns key =
    dictionary_write table_kind name (Some (table_row number bank columns key)) ∷ number_write number ∷ []

-- in a databank that is there, and isn't SYSDB
abbrev pub created_in :
    State → Option Databank → List ℕ → List ColumnText → List (List ℕ) → Planned
created_in s None name columns key = Refused NoBank
created_in s (Some b) name columns key =
    if b.number == sysdb.number then Refused Fixed
    else plan_unless (creation_refusal s name columns key)
    (creation_writes (next_number s) b.number name columns key)

-- a committed row is there
abbrev pub has_row : State → Table → Bool
has_row s t = nat_lt 0 (length (rows_of t.number s))

-- What refuses a DROP TABLE of a table that is there, in this order: it is KV; it holds a row
abbrev pub drop_refusal : State → List ℕ → Table → Option Reply
drop_refusal s name t =
    option_or (refuse_if (is_named name (codes "KV")) Fixed) (refuse_if (has_row s t) NotEmpty)

abbrev pub dropped : State → Option Table → List ℕ → Planned
dropped s None name = Refused NoTable
dropped s (Some t) name =
    plan_unless (drop_refusal s name t) (dictionary_write table_kind name None ∷ [])

-- whether a statement is a definition that is built. Any other is answered NOTYET by its text alone
abbrev pub is_definition : Statement → Bool
is_definition (CreateTable name columns key bank) = true
is_definition (DropTable name) = true
is_definition other = false

-- what a definition comes to on a state
abbrev pub planned : Statement → State → Planned
planned (CreateTable name columns key bank) s =
    created_in s (databank_named s bank) name columns key
planned (DropTable name) s = dropped s (table_of s name) name
planned other s = Refused NotYet

-- a column as it is asked for; the columns of the key are NOT NULL without saying so
abbrev pub asked_column : List (List ℕ) → ColumnText → Column
asked_column key c = record {
  name = c.name;
  kind = asked_kind c.length;
  not_null = c.not_null || is_among key c.name;
}

abbrev pub asked_columns : List (List ℕ) → List ColumnText → List Column
asked_columns key columns = map (asked_column key) columns

-- the table that a CREATE TABLE asks for, with these numbers
abbrev pub asked_table : ℕ → ℕ → List ColumnText → List (List ℕ) → Table
asked_table number bank columns key = record {
  number = number;
  bank = bank;
  columns = asked_columns key columns;
  key = filter_map (column_place (asked_columns key columns)) key;
}
