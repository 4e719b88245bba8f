-- How many bytes writes, entries and records take where they are stored.
use Rattle.std.specs.Prelude.{ℕ, ◌+◌, Bool, ◌==◌, nat_le, List, sum_by, Option, Some, None, if◌then◌else◌}
use Rattle.odb_values.specs.declared.value.Value.{Value}
use Rattle.odb_values.specs.Key.{width_of_all}
use Rattle.odb_model.specs.declared.write.Write.{Write}
use Rattle.odb_model.specs.declared.entry.Entry.{Entry}

-- Whether a row fits, by the format of the database: in format 1 the images of its key and its row
-- have at most 1,006 bytes together, in format 2 that of the row has at most 7,936
abbrev pub row_fits : ℕ → List Value → List Value → Bool
row_fits format key row =
    if format == 2 then nat_le (width_of_all row) 7936
    else nat_le (width_of_all key + width_of_all row) 1006

-- the bytes of the images of a write's key and row together
abbrev pub width_of_change : Option (List Value) → ℕ
width_of_change None = 0
width_of_change (Some row) = width_of_all row

abbrev pub width_of_write : Write → ℕ
width_of_write w = width_of_all w.key + width_of_change w.row

-- a flag of 1 byte, and the row behind its length of 2, where one is put
abbrev pub change_width : Option (List Value) → ℕ
change_width None = 1
change_width (Some row) = 3 + width_of_all row

-- the numbers of the databank and of the table in 4 bytes each, the key behind its length of 2, and
-- the change
abbrev pub write_width : Write → ℕ
write_width w = 10 + width_of_all w.key + change_width w.row

-- the session in 1 byte, the count of writes in 2, and the writes
abbrev pub entry_width : Entry → ℕ
entry_width e = 3 + sum_by write_width e.writes

-- the record of an entry: 13 bytes of gate, length and number, and the entry
abbrev pub record_width : Entry → ℕ
record_width e = 13 + entry_width e

-- the records of entries, one behind another
abbrev pub records_width : List Entry → ℕ
records_width entries = sum_by record_width entries
