-- Writes by table key.
use Rattle.std.specs.Prelude.{List}
use Rattle.std.specs.FinMap.{FinMap, from_entries}
use Rattle.odb_model.specs.declared.write.Write.{Write}
use Rattle.odb_model.specs.declared.table_key.TableKey.{TableKey}
use Rattle.odb_model.specs.State.{table_key_cmp}

-- a list of writes with their table keys, as a map
abbrev pub by_table_key : List (TableKey × Write) → FinMap table_key_cmp Write
by_table_key es = from_entries es
