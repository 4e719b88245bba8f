-- What a statement does, as one fact on its outcome.
use Rattle.std.specs.Prelude.{◌≡◌, ℕ, List}
use Rattle.odb_model.specs.declared.table_key.TableKey.{TableKey}
use Rattle.odb_model.specs.declared.outcome.Outcome.{Outcome}
use Rattle.odb_model.specs.declared.statement.Statement.{Statement}
use Rattle.odb_model.specs.declared.statement.Statement.TheVariants.{Select, Insert, Update, Delete}
use Rattle.odb_model.specs.State.{State}
use Rattle.odb_model.specs.Meaning.{meaning}
use Rattle.odb_model.specs.Reads.{reads}
use Rattle.odb_rowsource.specs.RowSource.{HasCause}
use Rattle.odb_rowsource.specs.declared.row_source.RowError.{RowError}
use Rattle.odb_rowsource.specs.declared.row_source.RowError.TheVariants as row
use Rattle.odb_exec.specs.declared.error.Trouble.{Trouble}
use Rattle.odb_exec.specs.declared.error.Trouble.TheVariants.{NoMemory, RowFault}

-- the outcome is what the statement means, and reads, on a state, in a transaction that has written
-- these keys and a database of this format
pub record IsOutcomeOf
    (st : Statement) (s : State) (written : List TableKey) (format : ℕ) (o : Outcome) :
    Type 0 where
  pub reply : o.reply ≡ (meaning st s written format).reply
  pub writes : o.writes ≡ (meaning st s written format).writes
  pub reads : o.reads ≡ reads st s

-- what a source's refusal makes of a statement
abbrev pub trouble_of : RowError → Trouble
trouble_of row.NoMemory = NoMemory
trouble_of (row.Fault file) = RowFault file

-- a fault of a file comes only where that file's count rose
abbrev pub IsCaused : (ℕ → ℕ) → (ℕ → ℕ) → Trouble → Type 0
IsCaused old new NoMemory = Unit {0}
IsCaused old new (RowFault file) = HasCause old new (row.Fault file)

-- a statement on the rows of the table of this name
abbrev pub IsOnRows : Statement → List ℕ → Type 0
IsOnRows (Select what table filter_of) name = table ≡ name
IsOnRows (Insert table tuples) name = table ≡ name
IsOnRows (Update table sets filter_of) name = table ≡ name
IsOnRows (Delete table filter_of) name = table ≡ name
IsOnRows other name = ⊥
