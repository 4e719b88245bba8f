-- The rows of the dictionary, value by value.
use Rattle.std.specs.Prelude.{◌≡◌, ℕ, ℤ, pos, negsuc, Bool, ◌&&◌, ◌==◌, length, nat_le, List, ◌∷◌, Option, Some, None, option_map, if◌then◌else◌}
use Rattle.std.specs.Option.{option_and_then}
use Rattle.std.specs.FinMap.{get}
use Rattle.odb_values.specs.declared.value.Value.{Value}
use Rattle.odb_values.specs.declared.value.Value.TheVariants.{Null, Int, Text}
use Rattle.odb_model.specs.State.{State}
use Rattle.odb_model.specs.Table.{Table}
use Rattle.odb_model.specs.Dictionary.{Described, has_name_form, described, is_number_from, are_columns, columns_in, table_by, in_dictionary, table_of}

-- a number that isn't below 0
abbrev pub natural : ℤ → Option ℕ
natural (pos n) = Some n
natural (negsuc n) = None

-- the number of a value that has one
abbrev pub natural_of : Value → Option ℕ
natural_of Null = None
natural_of (Int z) = natural z
natural_of (Text t) = None

-- the column of these numbers, where they are those of one
abbrev pub column_of : List ℕ → Option ℕ → Option ℕ → Option ℕ → Option Described
column_of name (Some kind) (Some flag) (Some place) =
    if has_name_form name && nat_le kind 200 && nat_le flag 1
    then Some (described name kind flag place)
    else None
column_of name kind flag place = None

-- the column that four values of a row tell of
abbrev pub column_by : Value → Option ℕ → Option ℕ → Option ℕ → Option Described
column_by Null kind flag place = None
column_by (Int z) kind flag place = None
column_by (Text name) kind flag place = column_of name kind flag place

-- the columns of a row, behind the first
abbrev pub with_column : Option Described → Option (List Described) → Option (List Described)
with_column None rest = None
with_column (Some d) rest = option_map (λ columns. d ∷ columns) rest

-- these numbers and columns are those of a table
abbrev pub is_table : ℕ → ℕ → ℕ → List Described → Bool
is_table number bank count columns =
    is_number_from 16 number && is_number_from 2 bank && (count == length columns)
    && are_columns columns

-- the table of a row that begins with these numbers
abbrev pub table_from : Option ℕ → Option ℕ → Option ℕ → List Value → Option Table
table_from (Some number) (Some bank) (Some count) columns =
    option_and_then (table_by number bank count) (columns_in columns)
table_from number bank count columns = None

-- the table of this name, where the dictionary has this row for it
abbrev pub IsTableOf : List ℕ → Option (List Value) → Option Table → Type 0
IsTableOf name row t = (s : State) → get s (in_dictionary name) ≡ row → t ≡ table_of s name

-- a number that the dictionary may give
abbrev pub number_from : Option ℕ → Option ℕ
number_from None = None
number_from (Some n) = if is_number_from 16 n then Some n else None
