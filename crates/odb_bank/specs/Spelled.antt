-- The record that a slot of a databank file spells: its item, with the key and the row as values.
use Rattle.std.specs.Prelude.{ℕ, ◌+◌, ◌^◌, ◌<◌, ◌≤◌, ◌==◌, if◌then◌else◌, List, [], length, Option, Some, None, IfSome, Result, Ok, Err}
use Rattle.odb_values.specs.declared.value.Value.{Value}
use Rattle.odb_codec.specs.Image.{KeyHasImage, RowHasImage, values_image}
use Rattle.odb_codec.specs.Reading.{read_key, read_row}
use Rattle.odb_slots.specs.Bodies.{item_in}
use Rattle.odb_slots.specs.Views.{Spelling}
use Rattle.odb_slots.specs.declared.item.SlotItem.{SlotItem}
use Rattle.odb_bank.specs.History.{Row}
use Rattle.odb_bank.specs.Records.{Record}

abbrev pub row_with : Result (List Value) ℕ → Option (Option Row)
row_with (Ok row) = Some (Some row)
row_with (Err left) = None

-- the row of an item, None of a deletion mark; nothing where its bytes are no row's image
abbrev pub row_in : SlotItem → Option (Option Row)
row_in item = if item.kind == 2 then Some None else row_with (read_row item.row)

abbrev pub record_with : SlotItem → Result (List Value) ℕ → Option (Option Row) → Option Record
record_with item (Ok key) (Some row) = Some (record {
  key = record { table = item.table; key = key };
  row = row;
  stamp = item.stamp;
})
record_with item (Ok key) None = None
record_with item (Err left) row = None

-- the record of an item; None where its key or its row isn't the image of one
abbrev pub record_in : SlotItem → Option Record
record_in item = record_with item (read_key item.key) (row_in item)

abbrev pub record_from : Option SlotItem → Option Record
record_from None = None
record_from (Some item) = record_in item

-- What a slot spells. A later format, whose wide rows go on in further slots, spells by the bodies
-- of all slots, their gates and the limit, and knows of a slot that it is a part of a record
abbrev pub record_of_slot : Spelling Record
record_of_slot n body bodies = record_from (item_in n body)

abbrev pub kind_of : Option Row → ℕ
kind_of None = 2
kind_of (Some row) = 1

abbrev pub row_image : Option Row → List ℕ
row_image None = []
row_image (Some row) = values_image row

-- the item by which a slot has a record
abbrev pub item_for : ℕ → Record → SlotItem
item_for slot r = record {
  slot = slot;
  kind = kind_of r.row;
  table = r.key.table;
  stamp = r.stamp;
  key = values_image r.key.key;
  row = row_image r.row;
}

-- a slot has room for the record
pub record FitsSlot (r : Record) : Type 0 where
  pub key : KeyHasImage r.key.key
  pub row : IfSome r.row RowHasImage
  pub table : r.key.table < 2 ^ 32
  pub stamp : r.stamp < 2 ^ 64
  pub narrow : length (values_image r.key.key) + length (row_image r.row) ≤ 1006
