-- The table keys that a transaction has written.
use Rattle.std.specs.Prelude.{◌≡◌, false, List, map}
use Rattle.std.specs.List.{list_any}
use Rattle.std.specs.Ordering.{eq_by_cmp}
use Rattle.odb_model.specs.declared.write.Write.{Write}
use Rattle.odb_model.specs.declared.table_key.TableKey.{TableKey}
use Rattle.odb_model.specs.declared.intention.Intention.{Intention}
use Rattle.odb_model.specs.State.{table_key_cmp, table_key_of}

-- those of a transaction's intentions
abbrev pub keys_written : List Intention → List TableKey
keys_written intentions = map (λ i. i.table_key) intentions

-- none of these writes is to this table key
abbrev pub IsUnwritten : TableKey → List Write → Type 0
IsUnwritten at writes =
    list_any (λ w. eq_by_cmp table_key_cmp at (table_key_of w)) writes ≡ false
