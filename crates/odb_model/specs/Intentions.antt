-- What a transaction intends for each row that it writes.
use Rattle.std.specs.Prelude.{ℕ, Bool, false, ◌||◌, List, [], ◌∷◌, map, filter, is_some, if◌then◌else◌}
use Rattle.std.specs.List.{list_any}
use Rattle.std.specs.Ordering.{eq_by_cmp}
use Rattle.std.specs.FinMap.{get, entries}
use Rattle.odb_model.specs.declared.write.Write.{Write}
use Rattle.odb_model.specs.declared.entry.Entry.{Entry}
use Rattle.odb_model.specs.declared.table_key.TableKey.{TableKey}
use Rattle.odb_model.specs.declared.intention.Intention.{Intention}
use Rattle.odb_model.specs.State.{table_key_cmp, table_key_of}
use Rattle.odb_model.specs.Transaction.{Executed, open_state, open_meaning, write_set_with, write_set_of, last_writes}

-- whether one of the writes is to this table key
abbrev pub writes_to : TableKey → List Write → Bool
writes_to at writes = list_any (λ w. eq_by_cmp table_key_cmp at (table_key_of w)) writes

-- whether a row was there before the first of these statements' writes to a table key, on the state
-- on which the statement of that write ran
abbrev pub was_there_from : List Entry → List Write → List Executed → ℕ → TableKey → Bool
was_there_from h write_set [] format at = false
was_there_from h write_set (a ∷ t) format at =
    if writes_to at (open_meaning a.statement a.snapshot write_set h format).writes
    then is_some (get (open_state a.snapshot write_set h) at)
    else was_there_from h (write_set_with h write_set a format) t format at

-- the intention for a table key, from the last write to it
abbrev pub intention_of : List Entry → List Executed → ℕ → TableKey × Write → Intention
intention_of h t format e = record {
  table_key = e.0;
  bank = e.1.bank;
  row = e.1.row;
  was_there = was_there_from h [] t format e.0;
}

-- the intentions of a transaction, one for each table key that it has written, in ascending order
abbrev pub intentions_of : List Entry → List Executed → ℕ → List Intention
intentions_of h t format =
    map (intention_of h t format) (entries (last_writes (write_set_of h t format)))

abbrev pub intended_write : Intention → Write
intended_write i = record {
  bank = i.bank;
  table = i.table_key.table;
  key = i.table_key.key;
  row = i.row;
}

-- an intention leaves its write, but where no row was there before and none is to be there
abbrev pub leaves_write : Intention → Bool
leaves_write i = i.was_there || is_some i.row

-- what intentions leave
abbrev pub intended : List Intention → List Write
intended intentions = map intended_write (filter leaves_write intentions)
