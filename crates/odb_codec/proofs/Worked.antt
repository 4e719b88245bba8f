-- The definitions, computed at worked values.
use Rattle.std.proofs.Common.{◌≡◌, ℕ, pos, List, [], ◌∷◌, length, take, drop, Some, Ok, Err, refl}
use Rattle.odb_values.specs.declared.value.Value.TheVariants.{Int}
use Rattle.odb_model.specs.declared.entry.Entry.{Entry}
use Rattle.odb_codec.specs.Image.{counted, value_image, change_image, write_image, entry_image}
use Rattle.odb_codec.specs.Reading.{number_at, number_between, is_text, text_at, behind_kind, value_at, values_upto, values_in, image_at, is_key, key_at, row_at, change_at, write_at, writes_at, read_entry, read_key}

-- the entry 7, committed by session 1, that puts row (10) at key (1) of table 5, databank 4
abbrev pub one : Entry
one = record { number = 7; by = 1; writes = record { bank = 4; table = 5; key = Int (pos 1) ∷ []; row = Some (Int (pos 10) ∷ []) } ∷ [] }

abbrev bytes_of_one : List ℕ
bytes_of_one =
    1 ∷ 0 ∷ 1 ∷ 0 ∷ 0 ∷ 0 ∷ 4 ∷ 0 ∷ 0 ∷ 0 ∷ 5 ∷ 0 ∷ 9 ∷ 1 ∷ 0 ∷ 0 ∷ 0 ∷ 0 ∷ 0 ∷ 0 ∷ 0 ∷ 1 ∷ 1 ∷ 0 ∷ 9 ∷ 1 ∷ 0 ∷ 0 ∷ 0 ∷ 0 ∷ 0 ∷ 0 ∷ 0 ∷ 10 ∷ []

one_has_34_bytes : length bytes_of_one ≡ 34
one_has_34_bytes = refl

one_image : entry_image one ≡ bytes_of_one
unfolding entry_image write_image change_image counted value_image
one_image = refl

one_read : read_entry 7 bytes_of_one ≡ Ok one
unfolding read_entry writes_at write_at change_at row_at key_at is_key image_at values_in values_upto value_at behind_kind text_at is_text number_between number_at
one_read = refl

-- a session 0: at byte 0 of 34
session_0 : read_entry 7 (0 ∷ drop 1 bytes_of_one) ≡ Err 34
unfolding read_entry writes_at write_at change_at row_at key_at is_key image_at values_in values_upto value_at behind_kind text_at is_text number_between number_at
session_0 = refl

-- the last byte is missing: at byte 25 of 33, the first of the row
row_cut : read_entry 7 (take 33 bytes_of_one) ≡ Err 8
unfolding read_entry writes_at write_at change_at row_at key_at is_key image_at values_in values_upto value_at behind_kind text_at is_text number_between number_at
row_cut = refl

-- a key of Null: at byte 0 of 1
null_key : read_key (0 ∷ []) ≡ Err 1
unfolding read_key is_key values_in values_upto value_at behind_kind text_at is_text number_at
null_key = refl
