-- What a listing has still to tell.
use Rattle.std.specs.Prelude.{◌≡◌, ℕ, Bool, true, false, List, [], ◌∷◌, ◌++◌, flat_map, Option, Some, None, String, string_bytes}
use Rattle.odb_values.specs.declared.value.Value.{Value}
use Rattle.odb_values.specs.declared.edge.Edge.TheVariants.{Free}
use Rattle.odb_values.specs.declared.range.Range.{Range}
use Rattle.odb_model.specs.State.{State}
use Rattle.odb_rowsource.specs.RowSource.{rows_above}
use Rattle.odb_check.specs.declared.listing.Listing.{Listing}
use Rattle.odb_check.specs.declared.listing.OpenTable.{OpenTable}
use Rattle.odb_check.specs.Tables.{Named, named_kv, table_rows, tables_told, with_kv}
use Rattle.odb_check.specs.Told.{number_line, row_lines, table_lines}

-- all rows of a table
abbrev pub whole : ℕ → Range
whole table = record { table = table; prefix = []; low = Free; high = Free }

abbrev pub number_left : Option ℕ → List (List ℕ)
number_left None = []
number_left (Some number) = number_line number ∷ []

-- the rows of the table that is being told
abbrev pub rows_left : State → Option OpenTable → List (List ℕ)
rows_left s None = []
rows_left s (Some open_table) =
    row_lines open_table.table (rows_above (whole open_table.table.number) open_table.last s)

-- the tables behind a row of the dictionary, and KV among them where it isn't told yet
abbrev pub tables_left : State → Option (List Value) → Bool → List Named
tables_left s after true = tables_told (rows_above table_rows after s)
tables_left s after false = with_kv (tables_told (rows_above table_rows after s))

-- the lines of the tables that are left
abbrev pub table_lines_left : State → Listing → List (List ℕ)
table_lines_left s listing =
    flat_map (table_lines listing.with_rows s) (tables_left s listing.after listing.is_kv_told)

-- the lines that are left
abbrev pub lines_left : State → Listing → List (List ℕ)
lines_left s listing =
    number_left listing.number ++ rows_left s listing.table ++ table_lines_left s listing

-- The line is the first of those that were left, and the others are left; None where none was
abbrev pub Tells : {A : Type 0} → List (List ℕ) → Option (String A) → List (List ℕ) → Type 0
Tells old None new = (old ≡ []) × (new ≡ [])
Tells old (Some line) new = old ≡ string_bytes line ∷ new

-- the line of the next row of the table that is being told; None where no row of it is left, and then
-- no table is being told
abbrev pub TellsRow : {A : Type 0} → State → Listing → Option (String A) → Listing → Type 0
TellsRow s old None new = (rows_left s old.table ≡ []) × (new ≡ record old { table = None })
TellsRow s old (Some line) new =
    (rows_left s old.table ≡ string_bytes line ∷ rows_left s new.table)
    × (new ≡ record old { table = new.table })

-- the line of the next table, whose rows come next; None where no table is left
abbrev pub TellsTable : {A : Type 0} → State → Listing → Option (String A) → Listing → Type 0
TellsTable s old None new = (table_lines_left s old ≡ []) × (new ≡ old)
TellsTable s old (Some line) new =
    (table_lines_left s old ≡ string_bytes line ∷ rows_left s new.table ++ table_lines_left s new)
    × (new.number ≡ old.number)

-- the line of a table, whose rows come next
abbrev pub Opens : {A : Type 0} → State → Named → Listing → String A → Listing → Type 0
Opens s t old line new =
    (table_lines old.with_rows s t ≡ string_bytes line ∷ rows_left s new.table)
    × (new ≡ record old { table = new.table })

-- the line of the next row of a table; None where none is left
abbrev pub TellsOpen : {A : Type 0} → State → OpenTable → Option (String A) → OpenTable → Type 0
TellsOpen s old None new = rows_left s (Some old) ≡ []
TellsOpen s old (Some line) new =
    rows_left s (Some old) ≡ string_bytes line ∷ rows_left s (Some new)

-- the line of the fixed table, whose rows come next; None where it is told already
abbrev pub TellsFixed : {A : Type 0} → State → Listing → Option (String A) → Listing → Type 0
TellsFixed s old None new = (old.is_kv_told ≡ true) × (new ≡ old)
TellsFixed s old (Some line) new =
    (old.is_kv_told ≡ false)
    × (table_lines old.with_rows s named_kv ≡ string_bytes line ∷ rows_left s new.table)
    × (new ≡ record old { table = new.table; is_kv_told = true })
