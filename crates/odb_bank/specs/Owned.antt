-- What the laws on a history ask of its entries, and where the slots of a file lie.
use Rattle.std.specs.Prelude.{◌≡◌, ℕ, List}
use Rattle.std.specs.List.{All}
use Rattle.std.specs.List.Sorted.{IsStrictlySortedBy}
use Rattle.odb_model.specs.declared.entry.Entry.{Entry}
use Rattle.odb_model.specs.declared.write.Write.{Write}
use Rattle.odb_model.specs.State.{table_key_cmp}
use Rattle.odb_model.specs.Transaction.{table_keys}

-- no entry writes a key twice: its writes ascend
abbrev pub AreInOrder : List Entry → Type 0
AreInOrder h = All (λ e. IsStrictlySortedBy table_key_cmp (table_keys e.writes)) h

-- a write to this table is one in this databank
abbrev pub IsInBank : ℕ → ℕ → Write → Type 0
IsInBank bank table w = w.table ≡ table → w.bank ≡ bank

-- each write to this table is one in this databank
abbrev pub HasItsTable : ℕ → ℕ → List Entry → Type 0
HasItsTable bank table h = All (λ e. All (IsInBank bank table) e.writes) h
