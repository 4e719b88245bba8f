-- Why a definition isn't planned.
use Rattle.std.specs.Prelude.{◌≡◌, ℕ, ◌<◌, Bool, true, false, ◌||◌, ◌&&◌, nat_lt, not, List, length, codes, Option, Some, None, IsTrue, if◌then◌else◌}
use Rattle.std.specs.List.{All, list_any, list_all}
use Rattle.odb_model.specs.declared.statement.ColumnText.{ColumnText}
use Rattle.odb_model.specs.declared.reply.Reply.TheVariants as reply
use Rattle.odb_model.specs.declared.statement.Statement.{Statement}
use Rattle.odb_model.specs.declared.statement.Statement.TheVariants.{CreateTable, DropTable}
use Rattle.odb_model.specs.Table.{is_named}
use Rattle.odb_model.specs.Databanks.{is_main, is_sysdb}
use Rattle.odb_model.specs.Dictionary.{has_name_form, names_differ}
use Rattle.odb_model.specs.Definitions.{Planned, Refused, Plans, text_names, is_among, is_out_of_range}
use Rattle.odb_rowsource.specs.RowSource.{HasCause}
use Rattle.odb_rowsource.specs.declared.row_source.RowError.{RowError}
use Rattle.odb_rowsource.specs.declared.row_source.RowError.TheVariants as row
use Rattle.odb_catalog.specs.declared.definition.Definition.{Definition}
use Rattle.odb_catalog.specs.declared.definition.FileWork.TheVariants.{Nothing}
use Rattle.odb_catalog.specs.declared.error.CatalogError.{CatalogError}
use Rattle.odb_catalog.specs.declared.error.CatalogError.TheVariants.{NoTable, NoBank, NameTaken, NotEmpty, Fixed, NoColumn, ColumnCount, TooLong, RowFault, NoNumberLeft, NoMemory}

-- the error tells what refuses the definition; memory or a file may fail at any
abbrev pub IsRefusal : Planned → CatalogError → Type 0
IsRefusal planned NoTable = planned ≡ Refused reply.NoTable
IsRefusal planned NoBank = planned ≡ Refused reply.NoBank
IsRefusal planned NameTaken = planned ≡ Refused reply.NameTaken
IsRefusal planned NotEmpty = planned ≡ Refused reply.NotEmpty
IsRefusal planned Fixed = planned ≡ Refused reply.Fixed
IsRefusal planned NoColumn = planned ≡ Refused reply.NoColumn
IsRefusal planned ColumnCount = planned ≡ Refused reply.ColumnCount
IsRefusal planned TooLong = planned ≡ Refused reply.TooLong
IsRefusal planned NoNumberLeft = planned ≡ Refused reply.NoNumberLeft
IsRefusal planned (RowFault file) = Unit {0}
IsRefusal planned NoMemory = Unit {0}

-- what a source's refusal makes of a definition
abbrev pub error_of : RowError → CatalogError
error_of row.NoMemory = NoMemory
error_of (row.Fault file) = RowFault file

-- a fault of a file comes only where that file's count rose
abbrev pub IsCaused : (ℕ → ℕ) → (ℕ → ℕ) → CatalogError → Type 0
IsCaused old new (RowFault file) = HasCause old new (row.Fault file)
IsCaused old new error = Unit {0}

-- what the text of a CREATE TABLE has: all names in their form, and a column in the key
pub record IsTableText (name : List ℕ) (columns : List ColumnText) (key : List (List ℕ)) : Type 0 where
  pub form : IsTrue (has_name_form name)
  pub forms : All (λ c. IsTrue (has_name_form c.name)) columns
  pub some : 0 < length key

-- the writes are those of the plan, which asks for no work on a file
pub record IsPlan (planned : Planned) (definition : Definition) : Type 0 where
  pub writes : planned ≡ Plans definition.writes
  pub file : definition.file ≡ 0
  pub work : definition.work ≡ Nothing

-- by the tests of a CREATE TABLE: too many columns or one twice in the key; a length out of range; a
-- column of the key that isn't there
abbrev pub refusal_by : Bool → Bool → Bool → Option CatalogError
refusal_by many long unknown =
    if many then Some ColumnCount else if long then Some TooLong
    else if unknown then Some NoColumn else None

-- what refuses a CREATE TABLE of columns with different names by its text alone
abbrev pub text_refusal : List ColumnText → List (List ℕ) → Option CatalogError
text_refusal columns key =
    refusal_by (nat_lt 15 (length columns) || not (names_differ key))
    (list_any (λ c. is_out_of_range c.length) columns)
    (not (list_all (is_among (text_names columns)) key))

-- Whether rows are asked for what comes of a definition: not where its text alone tells what refuses it
-- first
abbrev pub takes_rows : Statement → Bool
takes_rows (CreateTable name columns key bank) =
    if is_sysdb bank then false
    else if is_main bank then not (is_named name (codes "KV")) && names_differ (text_names columns)
    else true
takes_rows (DropTable name) = not (is_named name (codes "KV"))
takes_rows other = false
