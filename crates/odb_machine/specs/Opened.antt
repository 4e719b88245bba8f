-- What files open to, as they read: a number of entries, and a state.
use Rattle.std.specs.Prelude.{ℕ, List, [], ◌∷◌, map, Option, Some, None}
use Rattle.std.specs.FinMap.{empty, insert, entries}
use Rattle.odb_values.specs.declared.value.Value.{Value}
use Rattle.odb_model.specs.declared.table_key.TableKey.{TableKey}
use Rattle.odb_model.specs.State.{State}
use Rattle.odb_model.specs.Databanks.{Databank, sysdb, databanks}
use Rattle.odb_machine.specs.Copies.{Choice}
use Rattle.odb_machine.specs.Readings.{Reading, Holds, TransdbReading, LogReading, FileReading, last_number}
use Rattle.odb_machine.specs.Joined.{entries_held, rows_read, file_for}

-- what each file reads as; a databank file, by its number, as a file of this databank
pub record FilesRead : Type 0 where
  pub transdb : Reading TransdbReading
  pub logdb : Reading LogReading
  pub databank : ℕ → ℕ → Reading FileReading

pub record Opened : Type 0 where
  pub number : ℕ
  pub state : State

-- the rows of a databank: those of the file that it is read from, with what came above its mark
abbrev pub rows_of_databank : FilesRead → TransdbReading → List Choice → Databank → State
rows_of_databank files t choices b =
    rows_read b.number (files.databank b.number (file_for choices b))
    (entries_held t files.logdb)

-- both states together, of different tables
abbrev pub laid_over : State → List (TableKey × List Value) → State
laid_over s [] = s
laid_over s (e ∷ es) = laid_over (insert s e.0 e.1) es

abbrev pub all_together : State → List State → State
all_together s [] = s
all_together s (t ∷ ts) = all_together (laid_over s (entries t)) ts

-- SYSDB is read first, and names the other databanks
abbrev pub dictionary_read : FilesRead → TransdbReading → List Choice → State
dictionary_read files t choices = rows_of_databank files t choices sysdb

abbrev pub state_read : FilesRead → TransdbReading → List Choice → State
state_read files t choices =
    all_together empty
    (map (rows_of_databank files t choices) (databanks (dictionary_read files t choices)))

abbrev pub opened_by : Reading TransdbReading → FilesRead → List Choice → Option Opened
opened_by (Holds t) files choices =
    Some (record { number = last_number t; state = state_read files t choices })
opened_by other files choices = None

-- The number is that of TRANSDB's last entry. Nothing opens where TRANSDB isn't in order
abbrev pub opened : FilesRead → List Choice → Option Opened
opened files choices = opened_by files.transdb files choices
