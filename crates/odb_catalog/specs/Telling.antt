-- What the dictionary tells after a definition that was planned.
use Rattle.std.specs.Prelude.{◌≡◌, ◌≢◌, ℕ, ◌+◌, ◌<◌, false, List, codes, Some, None}
use Rattle.std.specs.List.{All}
use Rattle.std.specs.FinMap.{get}
use Rattle.std.specs.Option.{option_map_or}
use Rattle.odb_model.specs.declared.statement.ColumnText.{ColumnText}
use Rattle.odb_model.specs.declared.statement.Statement.{Statement}
use Rattle.odb_model.specs.declared.statement.Statement.TheVariants.{CreateTable, DropTable}
use Rattle.odb_model.specs.State.{State}
use Rattle.odb_model.specs.Table.{Table, is_named}
use Rattle.odb_model.specs.Dictionary.{table_of}
use Rattle.odb_model.specs.declared.table_key.TableKey.{TableKey}
use Rattle.odb_model.specs.Databanks.{in_row, databanks, databank_named, next_number}
use Rattle.odb_model.specs.Definitions.{asked_table}

-- the number of the databank of this name
abbrev pub databank_number : State → List ℕ → ℕ
databank_number s name = option_map_or (λ b. b.number) (databank_named s name) 0

-- every other table is there as before
abbrev pub SameTables : List ℕ → State → State → Type 0
SameTables name before after =
    (other : List ℕ) → is_named other name ≡ false → table_of after other ≡ table_of before other

-- The table of this name is the one asked for, under the next number, which is used then; no other row
-- than these two has changed, so that the databanks and the other tables are as before
pub record HasCreated
    (name : List ℕ) (columns : List ColumnText) (key : List (List ℕ)) (bank : List ℕ)
    (before after : State) :
    Type 0 where
  pub made : table_of after name
      ≡ Some (asked_table (next_number before) (databank_number before bank) columns key)
  pub used : next_number after ≡ next_number before + 1
  pub elsewhere : (at : TableKey) → at ≢ in_row 2 name → at ≢ in_row 5 (codes "NEXT")
      → get after at ≡ get before at
  pub others : SameTables name before after
  pub banks : databanks after ≡ databanks before

-- there is no table of this name, and no other row has changed
pub record HasDropped (name : List ℕ) (before after : State) : Type 0 where
  pub gone : table_of after name ≡ None
  pub used : next_number after ≡ next_number before
  pub elsewhere : (at : TableKey) → at ≢ in_row 2 name → get after at ≡ get before at
  pub others : SameTables name before after
  pub banks : databanks after ≡ databanks before

-- the dictionary behind the definition
abbrev pub HasDone : Statement → State → State → Type 0
HasDone (CreateTable name columns key bank) before after =
    HasCreated name columns key bank before after
HasDone (DropTable name) before after = HasDropped name before after
HasDone other before after = ⊥

-- the numbers of all tables and databanks, and the files of these, are used: they are below the next
-- number
pub record AreUsed (s : State) : Type 0 where
  pub tables : (name : List ℕ) (t : Table) → table_of s name ≡ Some t → t.number < next_number s
  pub banks : All (λ b. (b.number < next_number s) × (b.file < next_number s)) (databanks s)
