-- What `check` tells of a state, line by line, each with its LF.
use Rattle.std.specs.Prelude.{ℕ, ◌-◌, ◌^◌, min, Bool, List, [], ◌∷◌, ◌++◌, length, map, flat_map, codes, if◌then◌else◌}
use Rattle.std.specs.Fmt.{decimal}
use Rattle.odb_values.specs.declared.value.Value.{Value}
use Rattle.odb_model.specs.declared.numbers.TheConstants.{LF}
use Rattle.odb_model.specs.declared.table_key.TableKey.{TableKey}
use Rattle.odb_model.specs.State.{State, rows_of}
use Rattle.odb_model.specs.Table.{Table}
use Rattle.odb_model.specs.Meaning.{values_of}
use Rattle.odb_model.specs.Print.{values_text}
use Rattle.odb_check.specs.Tables.{Named, tables}

abbrev pub number_line : ℕ → List ℕ
number_line number = codes "NUMBER " ++ decimal number ++ LF ∷ []

-- a table's name, and how many rows it has
abbrev pub table_line : List ℕ → ℕ → List ℕ
table_line name count = codes "TABLE " ++ name ++ codes " " ++ decimal count ++ LF ∷ []

abbrev pub row_line : List Value → List ℕ
row_line values = codes "ROW " ++ values_text values ++ LF ∷ []

-- rows of a table, each with all columns in column order
abbrev pub row_lines : Table → List (TableKey × List Value) → List (List ℕ)
row_lines t rows = map (λ e. row_line (values_of t e)) rows

-- a count that has come to the end of its type stands still
abbrev pub capped : ℕ → ℕ
capped n = min n (2 ^ 64 - 1)

-- a table, and behind it each of its rows where rows are told
abbrev pub table_lines : Bool → State → Named → List (List ℕ)
table_lines with_rows s t =
    table_line t.name (capped (length (rows_of t.table.number s)))
    ∷ (if with_rows then row_lines t.table (rows_of t.table.number s) else [])

-- the number of the history and each table
abbrev pub check_lines : Bool → ℕ → State → List (List ℕ)
check_lines with_rows number s = number_line number ∷ flat_map (table_lines with_rows s) (tables s)
