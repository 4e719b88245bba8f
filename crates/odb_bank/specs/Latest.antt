-- The last writes of the entries that a turn takes up.
use Rattle.std.specs.Prelude.{◌≡◌, ◌⊎◌, ℕ, ◌<◌, List, slice_get, Some, None}
use Rattle.std.specs.List.{AllPairs}
use Rattle.std.specs.declared.cmp.Ordering.TheVariants.{Less}
use Rattle.odb_model.specs.declared.entry.Entry.{Entry}
use Rattle.odb_model.specs.State.{table_key_cmp}
use Rattle.odb_bank.specs.History.{Key, write_to}
use Rattle.odb_bank.specs.Records.{Record}

-- an entry makes this record's write, and none behind it writes the key
pub record IsLatest (bank : ℕ) (entries : List Entry) (r : Record) : Type 0 where
  pub place : ℕ
  pub entry : Entry
  pub is_entry : slice_get entries place ≡ Some entry
  pub stamped : entry.number ≡ r.stamp
  pub writes : write_to bank r.key entry.writes ≡ Some r.row
  pub none_after : (k : ℕ) (later : Entry) → place < k → slice_get entries k ≡ Some later
      → write_to bank r.key later.writes ≡ None

-- no entry writes the key
abbrev pub IsUnwritten : ℕ → List Entry → Key → Type 0
IsUnwritten bank entries key = (k : ℕ) (e : Entry) → slice_get entries k ≡ Some e
    → write_to bank key e.writes ≡ None

abbrev pub HasKey : List Record → Key → Type 0
HasKey records key =
    (k : ℕ) × (r : Record) × (slice_get records k ≡ Some r) × (r.key ≡ key)

-- of each key of the databank that the entries write the last write, in the order of the keys
pub record AreLatest (bank : ℕ) (entries : List Entry) (records : List Record) : Type 0 where
  pub each : (k : ℕ) (r : Record) → slice_get records k ≡ Some r → IsLatest bank entries r
  pub all : (key : Key) → IsUnwritten bank entries key ⊎ HasKey records key
  pub ascending : AllPairs (λ a c. table_key_cmp a.key c.key ≡ Less) records
