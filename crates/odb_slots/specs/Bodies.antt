-- The body of a slot: its image, and its reading. All numbers are big-endian. A kind of one byte (1
-- a row, 2 a deletion mark), the table's number in four, the stamp in eight, the length of the
-- key's image in two and of the row's in two, both images, and zeros.
use Rattle.std.specs.Prelude.{◌≡◌, ◌⊎◌, ℕ, ◌+◌, ◌-◌, ◌^◌, ◌<◌, ◌≤◌, Bool, ◌&&◌, ◌||◌, ◌==◌, nat_le, if◌then◌else◌, List, [], ◌∷◌, ◌++◌, length, drop, replicate, slice_index, Option, Some, None}
use Rattle.std.specs.Int.{w16, w32, w64, to_be_bytes, from_be_bytes, is_in_range}
use Rattle.std.specs.List.{list_all}
use Rattle.odb_device.specs.Images.{part}
use Rattle.odb_slots.specs.declared.head.Head.{Head}
use Rattle.odb_slots.specs.declared.item.SlotItem.{SlotItem}

-- a row, or a deletion mark, which has none
abbrev pub IsKind : SlotItem → Type 0
IsKind item = (item.kind ≡ 1) ⊎ ((item.kind ≡ 2) × (item.row ≡ []))

-- The slot grammar: kind 1 or 2, a key image of 1 to 256 bytes, and both images together at most
-- 1,006.
pub record IsInGrammar (item : SlotItem) : Type 0 where
  pub kind : IsKind item
  pub some_key : 1 ≤ length item.key
  pub short_key : length item.key ≤ 256
  pub narrow : length item.key + length item.row ≤ 1006

-- what the types say of an item's numbers
pub record IsTyped (item : SlotItem) : Type 0 where
  pub table : item.table < 2 ^ 32
  pub stamp : item.stamp < 2 ^ 64

-- the seventeen bytes before the images
abbrev pub head_image : SlotItem → List ℕ
head_image item =
    (item.kind ∷ []) ++ to_be_bytes w32 item.table ++ to_be_bytes w64 item.stamp
    ++ to_be_bytes w16 (length item.key) ++ to_be_bytes w16 (length item.row)

-- the 1,023 bytes of the body
unfoldable pub slot_image : SlotItem → List ℕ
slot_image item =
    head_image item ++ item.key ++ item.row
    ++ replicate (1006 - (length item.key + length item.row)) 0

-- what a body says before its images
unfoldable pub head_in : List ℕ → Head
head_in body = record {
  kind = slice_index body 0;
  table = from_be_bytes w32 (part 1 4 body);
  stamp = from_be_bytes w64 (part 5 8 body);
  key = from_be_bytes w16 (part 13 2 body);
  row = from_be_bytes w16 (part 15 2 body);
}

abbrev pub is_head : Head → Bool
is_head head =
    (head.kind == 1 || (head.kind == 2 && head.row == 0)) && is_in_range 1 256 head.key
    && nat_le (head.key + head.row) 1006

abbrev pub are_zeros : List ℕ → Bool
are_zeros bytes = list_all (λ byte. byte == 0) bytes

-- the item of a slot with this head and this body
abbrev pub item_by : ℕ → Head → List ℕ → SlotItem
item_by slot head body = record {
  slot = slot;
  kind = head.kind;
  table = head.table;
  stamp = head.stamp;
  key = part 17 head.key body;
  row = part (17 + head.key) head.row body;
}

abbrev pub item_with : ℕ → Head → List ℕ → Option SlotItem
item_with slot head body =
    if is_head head && are_zeros (drop (17 + head.key + head.row) body)
    then Some (item_by slot head body) else None

-- what the body of this slot says; None where it isn't in the slot grammar
abbrev pub item_in : ℕ → List ℕ → Option SlotItem
item_in slot body = item_with slot (head_in body) body
