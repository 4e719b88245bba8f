use Rattle.odb_model.proofs.Keyed.{table-is}
use Rattle.odb_model.proofs.KeysKept.{accepted_key, writes_keyed, history_keyed}
use Rattle.odb_model.proofs.laws.tells_tables.Goals as goal

pub returns-clause-table : goal.returns-clause-table
returns-clause-table c = table-is

pub returns-clause-row : goal.returns-clause-row
returns-clause-row c = accepted_key

pub returns-clause-writes : goal.returns-clause-writes
returns-clause-writes c = λ st s written format keyed. writes_keyed s keyed written format st

pub returns-clause-history : goal.returns-clause-history
returns-clause-history c = history_keyed
