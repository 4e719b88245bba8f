-- Which tables the dictionary of a state tells of. The dictionary is table 6. The row of a table
-- stands there at the key (2, the table's name), and KV is fixed. The forms are this project's own.
use Rattle.std.specs.Prelude.{ℕ, ◌^◌, pos, Bool, true, false, ◌&&◌, ◌||◌, ◌==◌, nat_lt, nat_le, not, List, [], ◌∷◌, length, map, filter, codes, Option, Some, None, is_some, option_map, option_and_then, if◌then◌else◌}
use Rattle.std.specs.List.{list_all, list_any, filter_map, range_with_len}
use Rattle.std.specs.FinMap.{get}
use Rattle.odb_values.specs.declared.value.Value.{Value}
use Rattle.odb_values.specs.declared.value.Value.TheVariants.{Int, Text}
use Rattle.odb_model.specs.declared.table_key.TableKey.{TableKey}
use Rattle.odb_model.specs.State.{State}
use Rattle.odb_model.specs.Table.{Column, Table, kv, is_named, place_in}

-- the key of the row that tells of a table: 2 is the kind of a table's row
abbrev pub dictionary_key : List ℕ → List Value
dictionary_key name = Int (pos 2) ∷ Text name ∷ []

abbrev pub in_dictionary : List ℕ → TableKey
in_dictionary name = record { table = 6; key = dictionary_key name }

-- a letter in capitals: A (65) to Z (90)
abbrev pub is_capital : ℕ → Bool
is_capital b = nat_le 65 b && nat_le b 90

-- a letter in capitals, a digit (48 to 57) or an underline (95)
abbrev pub is_name_byte : ℕ → Bool
is_name_byte b = is_capital b || (nat_le 48 b && nat_le b 57) || (b == 95)

-- a name in capitals: a letter, and then letters, digits and underlines, at most 32 bytes
abbrev pub has_name_form : List ℕ → Bool
has_name_form [] = false
has_name_form (b ∷ bytes) = is_capital b && list_all is_name_byte bytes && nat_lt (length bytes) 32

-- a number of the dictionary: at least this one, and below 2^32
abbrev pub is_number_from : ℕ → ℕ → Bool
is_number_from least n = nat_le least n && nat_lt n (2 ^ 32)

-- a column as a row of the dictionary tells it, with its place in the primary key from 1, or 0
pub record Described : Type 0 where
  pub column : Column
  pub key_place : ℕ

-- NOT NULL is said of it, or it is in the primary key
abbrev pub described : List ℕ → ℕ → ℕ → ℕ → Described
described name kind flag place = record {
  column = record { name = name; kind = kind; not_null = (flag == 1) || nat_lt 0 place };
  key_place = place;
}

-- the columns in a row of the dictionary: of each its name, its kind (0 is INTEGER, n up to 200 is
-- VARCHAR(n)), 1 for NOT NULL or 0, and its place in the primary key
abbrev pub columns_in : List Value → Option (List Described)
columns_in [] = Some []
columns_in (Text name ∷ Int (pos kind) ∷ Int (pos flag) ∷ Int (pos place) ∷ rest) =
    if has_name_form name && nat_le kind 200 && nat_le flag 1
    then option_map (λ columns. described name kind flag place ∷ columns) (columns_in rest)
    else None
columns_in other = None

abbrev pub names_differ : List (List ℕ) → Bool
names_differ [] = true
names_differ (name ∷ names) = not (list_any (is_named name) names) && names_differ names

-- how many columns are in the primary key
abbrev pub key_length : List ℕ → ℕ
key_length places = length (filter (nat_lt 0) places)

-- the places in the key other than 0 are 1 to some k of at least 1, each once: they are k, and each
-- of 1 to k is among them
abbrev pub is_key : List ℕ → Bool
is_key places =
    nat_lt 0 (key_length places)
    && list_all (λ n. is_some (place_in places n)) (range_with_len 1 (key_length places))

-- the places of the key's columns in the table, from 0, in key order
abbrev pub key_in : List ℕ → List ℕ
key_in places = filter_map (place_in places) (range_with_len 1 (key_length places))

-- 1 to 15 columns of different names, with a key
abbrev pub are_columns : List Described → Bool
are_columns columns =
    nat_le 1 (length columns) && nat_le (length columns) 15
    && names_differ (map (λ d. d.column.name) columns) && is_key (map (λ d. d.key_place) columns)

abbrev pub table_by : ℕ → ℕ → ℕ → List Described → Option Table
table_by number bank count columns =
    if is_number_from 16 number && is_number_from 2 bank && (count == length columns)
    && are_columns columns
    then Some (record {
      number = number;
      bank = bank;
      columns = map (λ d. d.column) columns;
      key = key_in (map (λ d. d.key_place) columns);
    })
    else None

-- the table that a row of the dictionary tells of: its number, its databank, the count of its
-- columns, and the columns. A row without this form counts as absent
abbrev pub table_in_row : List Value → Option Table
table_in_row (Int (pos number) ∷ Int (pos bank) ∷ Int (pos count) ∷ columns) =
    option_and_then (table_by number bank count) (columns_in columns)
table_in_row other = None

-- the table of this name. A row for KV counts as absent
abbrev pub table_of : State → List ℕ → Option Table
table_of s name =
    if is_named name (codes "KV") then Some kv
    else if has_name_form name then option_and_then table_in_row (get s (in_dictionary name))
    else None
