-- Reading an image from left to right, with the place of the first fault.
use Rattle.std.specs.Prelude.{◌≡◌, ℕ, zero, suc, ◌+◌, ◌-◌, ◌≤◌, Bool, true, not, ◌&&◌, ◌==◌, nat_lt, nat_le, if◌then◌else◌, List, [], ◌∷◌, length, take, drop, Option, Some, None, Result, Ok, Err}
use Rattle.std.specs.Int.{Width, w8, w16, w32, w64, byte_len, from_be_bytes, cast_signed, is_in_range}
use Rattle.std.specs.List.{list_all}
use Rattle.std.specs.Ordering.{is_lt}
use Rattle.std.specs.Option.{option_map}
use Rattle.std.specs.Str.{is_utf8}
use Rattle.odb_values.specs.declared.value.Value.{Value}
use Rattle.odb_values.specs.declared.value.Value.TheVariants.{Null, Int, Text}
use Rattle.odb_values.specs.Text.{is_plain}
use Rattle.odb_values.specs.Value.{is_null}
use Rattle.odb_values.specs.Key.{width_of_all}
use Rattle.odb_model.specs.declared.write.Write.{Write}
use Rattle.odb_model.specs.declared.entry.Entry.{Entry}
use Rattle.odb_model.specs.declared.table_key.TableKey.{TableKey}
use Rattle.odb_model.specs.State.{table_key_cmp, table_key_of}

-- What is read from the front of some bytes, and the bytes behind it. Where a field is at fault, it
-- is the number of bytes that are left from the first byte of that field on
abbrev pub Read : Type 0 → Type 0
Read A = Result (A × List ℕ) ℕ

infixl 10 ◌>>=◌
abbrev pub ◌>>=◌ : {A B : Type 0} → Result A ℕ → (A → Result B ℕ) → Result B ℕ
(Ok x) >>= f = f x
(Err left) >>= f = Err left

-- a number of this width, at fault at its first byte where it is cut short
unfoldable pub number_at : Width → List ℕ → Read ℕ
number_at w bytes =
    if nat_lt (length bytes) (byte_len w) then Err (length bytes)
    else Ok (from_be_bytes w (take (byte_len w) bytes), drop (byte_len w) bytes)

-- a number of this width that has to lie from low to high
unfoldable pub number_between : ℕ → ℕ → Width → List ℕ → Read ℕ
number_between low high w bytes = do
  n ← number_at w bytes
  if is_in_range low high n.0 then Ok n else Err (length bytes)

-- whether bytes are a text: UTF-8 by RFC 3629, no control byte but tab, at most 800 bytes
unfoldable pub is_text : List ℕ → Bool
is_text bytes = is_utf8 bytes && list_all is_plain bytes && nat_le (length bytes) 800

-- a text behind its length
unfoldable pub text_at : List ℕ → Read (List ℕ)
text_at bytes = do
  len ← number_at w16 bytes
  if nat_le len.0 (length len.1) && is_text (take len.0 len.1)
      then Ok (take len.0 len.1, drop len.0 len.1) else Err (length bytes)

-- what stands behind the kind of a value: 0 Null, 1 a number, 2 a text, and no other
unfoldable pub behind_kind : ℕ → List ℕ → Read Value
behind_kind zero bytes = Ok (Null, bytes)
behind_kind (suc zero) bytes = do
  n ← number_at w64 bytes
  Ok (Int (cast_signed w64 n.0), n.1)
behind_kind (suc (suc zero)) bytes = do
  text ← text_at bytes
  Ok (Text text.0, text.1)
behind_kind (suc (suc (suc kind))) bytes = Err (length bytes)

-- a fault anywhere in a value is a fault at the value's first byte
abbrev pub as_one : {A : Type 0} → List ℕ → Read A → Read A
as_one bytes (Ok x) = Ok x
as_one bytes (Err left) = Err (length bytes)

-- a value
unfoldable pub value_at : List ℕ → Read Value
value_at [] = Err 0
value_at (kind ∷ bytes) = as_one (kind ∷ bytes) (behind_kind kind bytes)

-- at most so many values, one after another, that take all of the bytes
unfoldable pub values_upto : ℕ → List ℕ → Result (List Value) ℕ
values_upto most [] = Ok []
values_upto zero (b ∷ bytes) = Err (length (b ∷ bytes))
values_upto (suc most) (b ∷ bytes) = do
  first ← value_at (b ∷ bytes)
  others ← values_upto most first.1
  Ok (first.0 ∷ others)

-- the values that take all of the bytes. Each takes a byte at least, so there are no more of them
-- than of bytes
unfoldable pub values_in : List ℕ → Result (List Value) ℕ
values_in bytes = values_upto (length bytes) bytes

-- a fault in a front of some bytes, where so many bytes lie behind the front
abbrev pub in_front_of : {A : Type 0} → ℕ → Result A ℕ → Result A ℕ
in_front_of behind (Ok x) = Ok x
in_front_of behind (Err left) = Err (left + behind)

-- The values in the next so many bytes, or in as many as there are. Where all of them are whole and
-- bytes lack, the fault is where the bytes end
unfoldable pub image_at : ℕ → List ℕ → Read (List Value)
image_at len bytes = do
  values ← in_front_of (length (drop len bytes)) (values_in (take len bytes))
  if nat_lt (length bytes) len then Err 0 else Ok (values, drop len bytes)

-- whether values are a key: 1 to 15 of them, none Null, with an image of at most 256 bytes
unfoldable pub is_key : List Value → Bool
is_key values =
    is_in_range 1 15 (length values) && list_all (λ v. not (is_null v)) values
    && nat_le (width_of_all values) 256

-- the table key of the write before, if there is one
abbrev pub table_key_before : Option Write → Option TableKey
table_key_before before = option_map table_key_of before

-- whether a table key is above the one before it, if there is one
abbrev pub is_above : Option TableKey → TableKey → Bool
is_above None at = true
is_above (Some before) at = is_lt (table_key_cmp before at)

-- The key of a table behind its length. It is at fault at its length where it is no key, and else
-- at its own first byte where it isn't above the table key before
unfoldable pub key_at : Option TableKey → ℕ → List ℕ → Read (List Value)
key_at before table bytes = do
  len ← number_at w16 bytes
  key ← image_at len.0 len.1
  if is_key key.0
      then (if is_above before (record { table = table; key = key.0 }) then Ok key
      else Err (length len.1))
      else Err (length bytes)

-- A row behind its length, where the key's image has so many bytes. It is at fault at its length
-- where both together have more than 1,006 bytes
unfoldable pub row_at : ℕ → List ℕ → Read (List Value)
row_at key_width bytes = do
  len ← number_at w16 bytes
  row ← image_at len.0 len.1
  if nat_le (key_width + len.0) 1006 then Ok row else Err (length bytes)

-- a flag that is 0 or 1, and behind a 1 the row
unfoldable pub change_at : ℕ → List ℕ → Read (Option (List Value))
change_at key_width [] = Err 0
change_at key_width (zero ∷ bytes) = Ok (None, bytes)
change_at key_width (suc zero ∷ bytes) = do
  row ← row_at key_width bytes
  Ok (Some row.0, row.1)
change_at key_width (suc (suc flag) ∷ bytes) = Err (length (suc (suc flag) ∷ bytes))

-- a write, where the one before it is to this table key
unfoldable pub write_at : Option TableKey → List ℕ → Read Write
write_at before bytes = do
  bank ← number_at w32 bytes
  table ← number_at w32 bank.1
  key ← key_at before table.0 table.1
  change ← change_at (width_of_all key.0) key.1
  Ok (record { bank = bank.0; table = table.0; key = key.0; row = change.0 }, change.1)

-- so many writes
unfoldable pub writes_at : Option TableKey → ℕ → List ℕ → Read (List Write)
writes_at before zero bytes = Ok ([], bytes)
writes_at before (suc count) bytes = do
  first ← write_at before bytes
  others ← writes_at (Some (table_key_of first.0)) count first.1
  Ok (first.0 ∷ others.0, others.1)

-- All of the bytes as an entry of this number: a session from 1 to 64, a count from 1 to 4,096, and
-- the writes. Bytes that are left over are at fault at the first of them
unfoldable pub read_entry : ℕ → List ℕ → Result Entry ℕ
read_entry number bytes = do
  by ← number_between 1 64 w8 bytes
  count ← number_between 1 4096 w16 by.1
  writes ← writes_at None count.0 count.1
  if length writes.1 == 0
      then Ok (record { number = number; by = by.0; writes = writes.0 })
      else Err (length writes.1)

-- All of the bytes as a key. It has no length, so what is no key is at fault at the first byte
unfoldable pub read_key : List ℕ → Result (List Value) ℕ
read_key bytes = do
  key ← values_in bytes
  if is_key key then Ok key else Err (length bytes)

-- All of the bytes as a row. It has no length, so a row of more than 1,006 bytes is at fault at the
-- first byte
unfoldable pub read_row : List ℕ → Result (List Value) ℕ
read_row bytes = do
  row ← values_in bytes
  if nat_le (length bytes) 1006 then Ok row else Err (length bytes)

-- the place of the first fault that reading meets in these bytes, counted from 0
pub record IsFirstFault {A : Type 0} (read : Result A ℕ) (bytes : List ℕ) (at : ℕ) : Type 0 where
  pub within : at ≤ length bytes
  pub fault : read ≡ Err (length bytes - at)
