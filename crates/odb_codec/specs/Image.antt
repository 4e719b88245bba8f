-- Images: the one list of bytes that a value, a key, a row, a write or an entry is where it is
-- stored, and what has one. All numbers in an image are big-endian.
use Rattle.std.specs.Prelude.{◌≡◌, ℕ, ◌^◌, ◌<◌, ◌≤◌, List, [], ◌∷◌, ◌++◌, length, Option, Some, None, IfSome, FitsSigned}
use Rattle.std.specs.Int.{w16, w32, w64, to_be_bytes, cast_unsigned}
use Rattle.std.specs.List.{All, flat_map}
use Rattle.odb_values.specs.declared.value.Value.{Value}
use Rattle.odb_values.specs.declared.value.Value.TheVariants.{Null, Int, Text}
use Rattle.odb_values.specs.Text.{IsText}
use Rattle.odb_values.specs.Key.{IsKey, width_of_all}
use Rattle.odb_model.specs.declared.write.Write.{Write}
use Rattle.odb_model.specs.declared.entry.Entry.{Entry}
use Rattle.odb_model.specs.Script.{IsSession}
use Rattle.odb_model.specs.Storable.{IsStorableList}

-- a length in 2 bytes, and that many bytes
unfoldable pub counted : List ℕ → List ℕ
counted bytes = to_be_bytes w16 (length bytes) ++ bytes

-- a byte for the kind (0 Null, 1 a number, 2 a text), then the 8 bytes of the number in two's
-- complement, or the length of the text and its bytes
unfoldable pub value_image : Value → List ℕ
value_image Null = 0 ∷ []
value_image (Int n) = 1 ∷ to_be_bytes w64 (cast_unsigned w64 n)
value_image (Text t) = 2 ∷ counted t

-- the image of a key or a row: the images of its values, one after another
abbrev pub values_image : List Value → List ℕ
values_image values = flat_map value_image values

-- what a write does to its key: 0 deletes it; 1 puts a row, which stands behind its length
unfoldable pub change_image : Option (List Value) → List ℕ
change_image None = 0 ∷ []
change_image (Some row) = 1 ∷ counted (values_image row)

-- 4 bytes of the databank's number, 4 of the table's, the key behind its length, and what is done
-- to it
unfoldable pub write_image : Write → List ℕ
write_image w =
    to_be_bytes w32 w.bank ++ to_be_bytes w32 w.table ++ counted (values_image w.key)
    ++ change_image w.row

-- a byte of the session that committed, 2 bytes of the count of writes, and the writes; the number
-- isn't in it
unfoldable pub entry_image : Entry → List ℕ
entry_image e = (e.by ∷ []) ++ to_be_bytes w16 (length e.writes) ++ flat_map write_image e.writes

-- What the types of a program say of a value, and so the caller of no function has to show: an Int
-- has 64 bits, a Text is a text
abbrev pub IsTyped : Value → Type 0
IsTyped Null = Unit {0}
IsTyped (Int n) = FitsSigned w64 n
IsTyped (Text t) = IsText t

abbrev pub AreTyped : List Value → Type 0
AreTyped values = All IsTyped values

-- what the types say of a write: both numbers have 32 bits, the key is one, and all values are
-- typed
pub record IsTypedWrite (w : Write) : Type 0 where
  pub bank : w.bank < 2 ^ 32
  pub table : w.table < 2 ^ 32
  pub key : IsKey w.key
  pub key_values : AreTyped w.key
  pub row_values : IfSome w.row AreTyped

-- each key has an image
pub record KeyHasImage (values : List Value) : Type 0 where
  pub key : IsKey values
  pub typed : AreTyped values

-- a row has an image by itself where that has at most 1,006 bytes
pub record RowHasImage (values : List Value) : Type 0 where
  pub narrow : width_of_all values ≤ 1006
  pub typed : AreTyped values

-- What an entry has to meet beside its types: a session from 1 to 64, and at least one write, in a
-- list that can be stored
pub record IsStorable (e : Entry) : Type 0 where
  pub by : IsSession e.by
  pub some : 0 < length e.writes
  pub writes : IsStorableList e.writes

-- the entry by another number
abbrev pub numbered : ℕ → Entry → Entry
numbered number e = record e { number = number }

-- An entry has an image where it is storable; its number may be any
pub record HasImage (e : Entry) : Type 0 where
  pub storable : IsStorable e
  pub typed : All IsTypedWrite e.writes

-- the bytes are the image of the entry, which has this number
abbrev pub IsEntryImage : ℕ → List ℕ → Entry → Type 0
IsEntryImage number bytes e = (e.number ≡ number) × HasImage e × (bytes ≡ entry_image e)
