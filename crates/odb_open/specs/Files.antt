-- What the bytes of one file read as.
use Rattle.std.specs.Prelude.{ℕ, ◌+◌, ◌*◌, Bool, ◌&&◌, ◌==◌, not, nat_lt, nat_le, is_none, List, [], ◌∷◌, length, find, Option, Some, None, if◌then◌else◌}
use Rattle.std.specs.List.{filter_map, range_with_len}
use Rattle.std.specs.FinMap.{empty, insert}
use Rattle.odb_model.specs.declared.entry.Entry.{Entry}
use Rattle.odb_model.specs.State.{State, changed}
use Rattle.odb_model.specs.Ordered.{with_item}
use Rattle.odb_model.specs.Width.{records_width}
use Rattle.odb_machine.specs.Log.{has_log}
use Rattle.odb_machine.specs.Versions.{Version, Records, no_records, versions_at}
use Rattle.odb_machine.specs.Readings.{Reading, Missing, Damaged, Holds, TransdbReading, LogReading, FileReading, Asked}
use Rattle.odb_extent.specs.Opened.{Opened as Extents, no_open_place, malformed, holding as holding_extents, opened as extents_in, content_end}
use Rattle.odb_slots.specs.Slots.{OPEN, slot_place, gate_at}
use Rattle.odb_slots.specs.Views.{spelled, view_by}
use Rattle.odb_transdb.specs.Opened.{Opened as OfTransdb, no_database, damaged as damaged_transdb, holding as holding_transdb, opened as transdb_opened}
use Rattle.odb_commit.specs.Standing.{sides_of}
use Rattle.odb_logdb.specs.declared.fields.LogFields.{LogFields}
use Rattle.odb_logdb.specs.Fields.{DIRTY, lawful_in}
use Rattle.odb_logdb.specs.Opened.{Opened as OfLogdb, damaged as damaged_log, holding as holding_log, opened as logdb_opened, MOST}
use Rattle.odb_bank.specs.declared.fields.BankFields.{BankFields}
use Rattle.odb_bank.specs.Fields.{fields_in}
use Rattle.odb_bank.specs.Records.{Record, View, bank_map}
use Rattle.odb_bank.specs.Spelled.{record_of_slot}
use Rattle.odb_bank.specs.Opening.{is_lawful}

abbrev pub transdb_by : OfTransdb → Reading TransdbReading
transdb_by no_database = Missing
transdb_by (damaged_transdb at) = Damaged at
transdb_by (holding_transdb h entries) =
    Holds (record { format = h.format; sides = sides_of h; entries = entries })

-- what the bytes of TRANSDB read as
abbrev pub transdb_in : List ℕ → Reading TransdbReading
transdb_in bytes = transdb_by (transdb_opened bytes)

-- the fields that LOGDB keeps
abbrev pub log_fields_by : Extents → Option LogFields
log_fields_by (holding_extents limit fields) = lawful_in limit fields
log_fields_by other = None

-- The bytes from the content's first one to the end of LOGDB's list. The list of a Dirty one begins
-- again at the content's first byte
abbrev pub used_by : Option LogFields → List Entry → ℕ
used_by None entries = 0
used_by (Some f) entries = if f.state == DIRTY then 0 else f.start + records_width entries

abbrev pub log_by : OfLogdb → Option LogFields → Reading LogReading
log_by (damaged_log at) fields = Damaged at
log_by (holding_log first entries) fields =
    Holds (record { first = first; entries = entries; used = used_by fields entries })

-- what the bytes of LOGDB read as
abbrev pub log_in : List ℕ → Reading LogReading
log_in bytes = log_by (logdb_opened bytes) (log_fields_by (extents_in MOST bytes))

-- what an opening reads of them: nothing, where no database has a LOGDB
abbrev pub log_read : List ℕ → Reading LogReading
log_read bytes = if has_log then log_in bytes else Missing

-- the slot is open, and what it spells is no record with a stamp from 1 to the number
abbrev pub is_damaged_slot : ℕ → List ℕ → ℕ → Bool
is_damaged_slot number bytes slot =
    (gate_at slot bytes == OPEN) && not (is_lawful number (spelled record_of_slot slot bytes))

-- the open records of the first slots, in the order of these
abbrev pub open_records : ℕ → View → List Record
open_records slots view = filter_map view (range_with_len 0 slots)

-- a record in numbers
abbrev pub version_in : Record → Version
version_in r = record { stamp = r.stamp; deletes = is_none r.row; slots = 1 }

-- of each key the records in ascending order of their stamps, a later one of the same stamp behind
abbrev pub records_with : Records → List Record → Records
records_with records [] = records
records_with records (r ∷ rs) =
    records_with (insert records r.key
    (with_item (λ v. v.stamp) (version_in r) (versions_at records r.key))) rs

-- of each of these records' keys the row that its open records make
abbrev pub rows_with : ℕ → View → State → List Record → State
rows_with slots view s [] = s
rows_with slots view s (r ∷ rs) =
    rows_with slots view (changed s r.key (bank_map slots view r.key)) rs

-- a file of so many slots with this mark
abbrev pub reading_of_view : ℕ → ℕ → View → FileReading
reading_of_view mark slots view = record {
  mark = mark;
  records = records_with no_records (open_records slots view);
  rows = rows_with slots view empty (open_records slots view);
}

-- the least damaged slot decides
abbrev pub with_slots : ℕ → ℕ → Option ℕ → List ℕ → Reading FileReading
with_slots mark slots (Some slot) bytes = Damaged (slot_place slot)
with_slots mark slots None bytes =
    Holds (reading_of_view mark slots (view_by record_of_slot slots bytes))

abbrev pub with_limit : Asked → ℕ → ℕ → List ℕ → Reading FileReading
with_limit asked mark limit bytes =
    if nat_lt (length bytes) (content_end limit) then Damaged (length bytes)
    else with_slots mark (1024 * limit)
    (find (is_damaged_slot asked.number bytes) (range_with_len 0 (1024 * limit))) bytes

-- the fields of this databank, of the database's format, with a mark of at most the number
abbrev pub is_head : Asked → BankFields → Bool
is_head asked f =
    (f.format == asked.format) && (f.bank == asked.bank) && nat_le f.mark asked.number

abbrev pub with_fields : Asked → ℕ → Option BankFields → List ℕ → Reading FileReading
with_fields asked limit None bytes = Damaged 0
with_fields asked limit (Some f) bytes =
    if is_head asked f then with_limit asked f.mark limit bytes else Damaged 0

abbrev pub with_extents : Asked → Extents → List ℕ → Reading FileReading
with_extents asked no_open_place bytes = Damaged 0
with_extents asked malformed bytes = Damaged 0
with_extents asked (holding_extents limit fields) bytes =
    with_fields asked limit (fields_in fields) bytes

-- What the bytes of a databank file read as, of format 1. The first of these decides: whether the pair
-- has an open place, is in order and keeps a limit from 1 to 4,096 and the fields of this databank;
-- whether the file is as long as its limit; and the least open slot that spells no record
abbrev pub file_in : Asked → List ℕ → Reading FileReading
file_in asked bytes = with_extents asked (extents_in 4096 bytes) bytes
