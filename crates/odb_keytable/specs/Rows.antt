-- What rows that are lent as a source are seen as.
use Rattle.std.specs.Prelude.{refl}
use Rattle.std.specs.Coded.{Coded, code_by, coded_list}
use Rattle.std.specs.FinMap.{code}
use Rattle.odb_values.specs.contracts.value.Value as cell
use Rattle.odb_model.specs.contracts.table_key.TableKey as table_key
use Rattle.odb_model.specs.State.{State}

-- what is lent of a table: the state that it stands for
pub record Lent : Type 0 where
  pub now : State

-- the table
pub record Seen : Type 0 where
  pub table : Lent

abbrev pub seen_code : Coded Seen
seen_code =
    code_by State
    (code table_key.the_row.coded (coded_list cell.the_row.coded))
    (λ r. r.table.now) (λ s. record { table = record { now = s } }) (λ _. refl)
