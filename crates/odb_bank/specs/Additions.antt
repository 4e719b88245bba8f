-- The records that a turn adds, as memory has them at first.
use Rattle.std.specs.Prelude.{◌≡◌, ℕ, ◌+◌, ◌-◌, ◌≤◌, List, length, slice_get, Option, Some, option_map}
use Rattle.odb_values.specs.Key.{width_of_all}
use Rattle.odb_model.specs.declared.entry.Entry.{Entry}
use Rattle.odb_model.specs.declared.write.Write.{Write}
use Rattle.odb_model.specs.State.{table_key_of}
use Rattle.odb_model.specs.Width.{width_of_change}
use Rattle.odb_bank.specs.declared.latest.Addition.{Addition}
use Rattle.odb_bank.specs.History.{Key}
use Rattle.odb_bank.specs.Records.{Record}

abbrev pub record_of : Addition → Record
record_of a = record { key = a.key; row = a.row; stamp = a.stamp }

-- the record of a write of an entry
abbrev pub record_of_write : Entry → Write → Record
record_of_write e w = record { key = table_key_of w; row = w.row; stamp = e.number }

-- it is that of the write at this place
abbrev pub IsAddition : Entry → ℕ → Addition → Type 0
IsAddition e place a =
    (w : Write) × (slice_get e.writes place ≡ Some w) × (record_of a ≡ record_of_write e w)

-- the key of the last one
abbrev pub last_key : List Addition → Option Key
last_key additions = option_map (λ a. a.key) (slice_get additions (length additions - 1))

-- its key and its row fit a slot
abbrev pub IsNarrow : Addition → Type 0
IsNarrow a = width_of_all a.key.key + width_of_change a.row ≤ 1006
