-- What a row has to meet before it is put into its table.
use Rattle.std.specs.Prelude.{ℕ, Bool, false, ◌&&◌, ◌||◌, nat_lt, nat_le, List, Option, Some, None, if◌then◌else◌}
use Rattle.std.specs.List.{list_any, zip, count_by}
use Rattle.odb_values.specs.declared.value.Value.{Value}
use Rattle.odb_values.specs.declared.value.Value.TheVariants.{Text}
use Rattle.odb_values.specs.Value.{is_null}
use Rattle.odb_values.specs.Key.{width_of_all}
use Rattle.odb_model.specs.declared.reply.Reply.{Reply}
use Rattle.odb_model.specs.declared.reply.Reply.TheVariants.{NullNotAllowed, TooLong, KeyTooWide, RowTooWide}
use Rattle.odb_model.specs.Table.{Column, Table, row_of}
use Rattle.odb_model.specs.Width.{row_fits}

-- a byte with which a character of UTF-8 begins, by RFC 3629: below 128, or 192 and above
abbrev begins_character : ℕ → Bool
begins_character b = nat_lt b 128 || nat_le 192 b

-- how many characters a text has
abbrev pub characters : List ℕ → ℕ
characters bytes = count_by begins_character bytes

abbrev pub lacks_item : Column × Value → Bool
lacks_item item = item.0.not_null && is_null item.1

-- a value of the key, or of a column that is NOT NULL, is Null. The columns of the primary key are
-- NOT NULL without saying so
abbrev pub lacks_value : Table → List Value → List Value → Bool
lacks_value t key values = list_any is_null key || list_any lacks_item (zip t.columns values)

abbrev pub is_long_for : ℕ → Value → Bool
is_long_for most (Text t) = nat_lt most (characters t)
is_long_for most other = false

-- some text has more characters than the n of its VARCHAR(n)
abbrev pub has_long_text : Table → List Value → Bool
has_long_text t values = list_any (λ item. is_long_for item.0.kind item.1) (zip t.columns values)

-- the most bytes of a key's image
abbrev pub widest_key : ℕ
widest_key = 256

-- the first refusal of a row with this key, whose values are given in column order
abbrev pub row_refusal : ℕ → Table → List Value → List Value → Option Reply
row_refusal format t key values =
    if lacks_value t key values then Some NullNotAllowed
    else if has_long_text t values then Some TooLong
    else if nat_lt widest_key (width_of_all key) then Some KeyTooWide
    else if row_fits format key (row_of t values) then None
    else Some RowTooWide
