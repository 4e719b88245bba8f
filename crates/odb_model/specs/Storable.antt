-- Which writes can be stored as one entry.
use Rattle.std.specs.Prelude.{◌≤◌, List, length}
use Rattle.std.specs.List.{All}
use Rattle.std.specs.FinMap.{entries}
use Rattle.odb_values.specs.Key.{IsKey}
use Rattle.std.specs.List.Sorted.{IsStrictlySortedBy}
use Rattle.odb_model.specs.declared.write.Write.{Write}
use Rattle.odb_model.specs.State.{State, table_key_cmp}
use Rattle.odb_model.specs.Meaning.{different}
use Rattle.odb_model.specs.Transaction.{table_keys}
use Rattle.odb_model.specs.Width.{width_of_write}

-- key and row have at most 1,006 bytes together
abbrev pub IsNarrow : Write → Type 0
IsNarrow w = width_of_write w ≤ 1006

-- what the writes of an open transaction meet, in the order in which it made them: at most 4,096
-- different keys, and each is narrow
pub record AreStorable (write_set : List Write) : Type 0 where
  pub few : different (table_keys write_set) ≤ 4096
  pub narrow : All IsNarrow write_set

-- what the writes of an entry meet
pub record IsStorableList (writes : List Write) : Type 0 where
  pub few : length writes ≤ 4096
  pub ascending : IsStrictlySortedBy table_key_cmp (table_keys writes)
  pub narrow : All IsNarrow writes

-- the key of each write is one
abbrev pub HaveKeys : List Write → Type 0
HaveKeys writes = All (λ w. IsKey w.key) writes

-- the key of each row of a state is one, as those are that such writes put
abbrev pub HasKeys : State → Type 0
HasKeys s = All (λ e. IsKey e.0.key) (entries s)
