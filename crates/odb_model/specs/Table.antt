-- What the dictionary tells of a table, and how the values of its columns lie in key and row.
use Rattle.std.specs.Prelude.{◌≡◌, ℕ, ◌+◌, ◌<◌, ◌≤◌, Bool, true, false, ◌==◌, List, [], ◌∷◌, length, map, filter, codes, Option, Some, None, is_none, option_map, slice_get, unwrap_or, if◌then◌else◌}
use Rattle.std.specs.Option.{option_map_or}
use Rattle.std.specs.List.{All, range_with_len}
use Rattle.std.specs.Cmp.Lexicographic.{pointwise}
use Rattle.odb_values.specs.declared.value.Value.{Value}
use Rattle.odb_values.specs.declared.value.Value.TheVariants.{Null}

-- a column: its name, its kind (0 is INTEGER, n is VARCHAR(n)), and whether it takes no NULL, as the
-- columns of the primary key don't
pub record Column : Type 0 where
  pub name : List ℕ
  pub kind : ℕ
  pub not_null : Bool

-- a table: its number, its databank's number, its columns, and the places (from 0) of the primary
-- key's columns, in key order
pub record Table : Type 0 where
  pub number : ℕ
  pub bank : ℕ
  pub columns : List Column
  pub key : List ℕ

-- What a dictionary's table meets: it has at most 15 columns, and the primary key has 1 to 15 of them,
-- none of them twice
pub record IsTable (t : Table) : Type 0 where
  pub narrow : length t.columns ≤ 15
  pub some : 0 < length t.key
  pub few : length t.key ≤ 15
  pub inside : All (λ place. place < length t.columns) t.key
  pub once : (m n place : ℕ)
      → slice_get t.key m ≡ Some place → slice_get t.key n ≡ Some place → m ≡ n

-- the fixed table KV of the databank MAIN, with two columns of numbers: K, the key, and V
abbrev pub kv : Table
kv = record {
  number = 5;
  bank = 4;
  columns =
      record { name = codes "K"; kind = 0; not_null = true }
      ∷ record { name = codes "V"; kind = 0; not_null = false } ∷ [];
  key = 0 ∷ [];
}

abbrev pub is_named : List ℕ → List ℕ → Bool
is_named name other = pointwise ◌==◌ name other

-- the value at a place, from 0; a value that is missing counts as Null
abbrev pub value_at : List Value → ℕ → Value
value_at values place = unwrap_or (slice_get values place) Null

-- the place of the first column of this name, from 0
abbrev pub column_place : List Column → List ℕ → Option ℕ
column_place [] name = None
column_place (c ∷ columns) name =
    if is_named name c.name then Some 0
    else option_map (λ place. place + 1) (column_place columns name)

-- the value of the column of this name, among the values in column order; Null where there is no
-- such column
abbrev pub column_value : List Column → List Value → List ℕ → Value
column_value columns values name = option_map_or (value_at values) (column_place columns name) Null

-- the place of the first of these numbers that is n, from 0
abbrev pub place_in : List ℕ → ℕ → Option ℕ
place_in [] n = None
place_in (m ∷ ms) n = if m == n then Some 0 else option_map (λ place. place + 1) (place_in ms n)

-- the places of a table's columns, from 0
abbrev pub places : Table → List ℕ
places t = range_with_len 0 (length t.columns)

-- those of the columns outside the key
abbrev pub places_outside : Table → List ℕ
places_outside t = filter (λ place. is_none (place_in t.key place)) (places t)

-- the key of a row that is given in column order
abbrev pub key_of : Table → List Value → List Value
key_of t values = map (value_at values) t.key

-- the values outside the key, in column order
abbrev pub row_of : Table → List Value → List Value
row_of t values = map (value_at values) (places_outside t)

-- the value of the column at a place, from a key and a row
abbrev pub stored_value : Table → List Value → List Value → ℕ → Value
stored_value t key row place =
    option_map_or (value_at key) (place_in t.key place)
    (option_map_or (value_at row) (place_in (places_outside t) place) Null)

-- the values of a key and a row in column order
abbrev pub in_columns : Table → List Value → List Value → List Value
in_columns t key row = map (stored_value t key row) (places t)
