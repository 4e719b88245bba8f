-- What a search in the dictionary finds.
use Rattle.std.specs.Prelude.{◌≡◌, List, [], ◌∷◌, Option, Some, None, String, string_bytes}
use Rattle.odb_values.specs.declared.value.Value.{Value}
use Rattle.odb_model.specs.State.{State}
use Rattle.odb_rowsource.specs.declared.row_source.KeyedRow.{KeyedRow}
use Rattle.odb_rowsource.specs.RowSource.{rows_above}
use Rattle.odb_check.specs.declared.found.FoundTable.{FoundTable}
use Rattle.odb_check.specs.declared.listing.Listing.{Listing}
use Rattle.odb_check.specs.Left.{rows_left}
use Rattle.odb_check.specs.Told.{table_lines}
use Rattle.odb_check.specs.Tables.{Named, named, table_rows, table_told, tables_told}

abbrev pub named_of : FoundTable → Named
named_of found = named found.name found.table

-- the table that a row tells of
abbrev pub IsTold : KeyedRow → Option FoundTable → Type 0
IsTold row None = table_told row.key row.row ≡ None
IsTold row (Some found) =
    (table_told row.key row.row ≡ Some (named_of found)) × (found.key ≡ row.key)

-- the first of the tables behind a key, and which ones stand behind its own key
abbrev pub IsFound : State → Option (List Value) → Option FoundTable → Type 0
IsFound s after None = tables_told (rows_above table_rows after s) ≡ []
IsFound s after (Some found) =
    tables_told (rows_above table_rows after s)
    ≡ named_of found ∷ tables_told (rows_above table_rows (Some found.key) s)

-- the line of the table found, whose rows come next
abbrev pub OpensFound :
    {A : Type 0} → State → FoundTable → Listing → Option (String A) → Listing → Type 0
OpensFound s found old None new = ⊥
OpensFound s found old (Some line) new =
    (table_lines old.with_rows s (named_of found) ≡ string_bytes line ∷ rows_left s new.table)
    × (new ≡ record old { table = new.table; after = Some found.key })
