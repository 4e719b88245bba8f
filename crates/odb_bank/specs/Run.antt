-- The records of a run of entries.
use Rattle.std.specs.Prelude.{◌≡◌, ℕ, zero, suc, ◌+◌, ◌<◌, ◌≤◌, Option, Some, None}
use Rattle.odb_bank.specs.History.{Key, Row, History}
use Rattle.odb_bank.specs.Records.{Record}
use Rattle.odb_bank.specs.Changes.{IsOfRun}

-- what an entry of this number wrote, over what came before
abbrev pub newer : Option (Option Row) → ℕ → Key → Option Record → Option Record
newer None stamp key before = before
newer (Some row) stamp key before = Some (record { key = key; row = row; stamp = stamp })

-- the key's last write among so many entries above a, as a record
abbrev pub run_record : History → ℕ → ℕ → Key → Option Record
run_record h a zero key = None
run_record h a (suc more) key =
    newer (h.write (suc (a + more)) key) (suc (a + more)) key (run_record h a more key)

-- none of the entries from above a to b writes the key; or the record is that of the last that does
abbrev pub IsRunRecord : History → ℕ → ℕ → Key → Option Record → Type 0
IsRunRecord h a b key None = (k : ℕ) → a < k → k ≤ b → h.write k key ≡ None
IsRunRecord h a b key (Some r) = (r.key ≡ key) × IsOfRun h a b r
