-- A history as one databank sees it.
use Rattle.std.specs.Prelude.{◌≡◌, ℕ, zero, suc, ◌<◌, ◌≤◌, Bool, ◌==◌, ◌&&◌, List, find, length, slice_get, Option, Some, None, option_map}
use Rattle.std.specs.Ordering.{is_eq}
use Rattle.odb_values.specs.declared.value.Value.{Value}
use Rattle.odb_model.specs.declared.entry.Entry.{Entry}
use Rattle.odb_model.specs.declared.table_key.TableKey.{TableKey}
use Rattle.odb_model.specs.declared.write.Write.{Write}
use Rattle.odb_model.specs.State.{table_key_cmp, table_key_of}

-- a table and a key of it
abbrev pub Key : Type 0
Key = TableKey

abbrev pub Row : Type 0
Row = List Value

-- How many entries there are, and what entry k, from 1 on, writes to a key of the bank: a row, or
-- None where it deletes the key.
pub record History : Type 0 where
  pub count : ℕ
  pub write : ℕ → Key → Option (Option Row)

abbrev pub is_key : Key → Key → Bool
is_key a b = is_eq (table_key_cmp a b)

-- what these writes do to a key of the bank
abbrev pub write_to : ℕ → Key → List Write → Option (Option Row)
write_to bank key writes =
    option_map (λ w. w.row) (find (λ w. (w.bank == bank) && is_key (table_key_of w) key) writes)

abbrev pub write_of : ℕ → Key → Option Entry → Option (Option Row)
write_of bank key None = None
write_of bank key (Some e) = write_to bank key e.writes

-- entry k, counted from 1
abbrev pub entry_at : List Entry → ℕ → Option Entry
entry_at h zero = None
entry_at h (suc k) = slice_get h k

-- the history as the bank of this number sees it
abbrev pub history_of : ℕ → List Entry → History
history_of bank h = record {
  count = length h;
  write = λ k key. write_of bank key (entry_at h k);
}

-- of the first a entries, entry j is the last to write the key
pub record IsLast (h : History) (a : ℕ) (key : Key) (j : ℕ) : Type 0 where
  pub from : 1 ≤ j
  pub to : j ≤ a
  pub writes : (row : Option Row) × (h.write j key ≡ Some row)
  pub none_after : (k : ℕ) → j < k → k ≤ a → h.write k key ≡ None

-- the second goes on from the first
pub record GoesOn (h longer : History) : Type 0 where
  pub count : h.count ≤ longer.count
  pub same : (k : ℕ) (key : Key) → k ≤ h.count → longer.write k key ≡ h.write k key

-- none of the first a entries writes a key of the bank
abbrev pub WritesNoneTo : History → ℕ → Type 0
WritesNoneTo h a = (key : Key) (k : ℕ) → 1 ≤ k → k ≤ a → h.write k key ≡ None
