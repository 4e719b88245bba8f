-- What a key is.
use Rattle.std.specs.Prelude.{ℕ, ◌<◌, ◌≤◌, List, length, sum_by, IsTrue, not}
use Rattle.std.specs.List.{list_all}
use Rattle.odb_values.specs.declared.value.Value.{Value}
use Rattle.odb_values.specs.Value.{width_of, is_null}

-- the bytes of the image of a key or a row: its values' images, one after another
abbrev pub width_of_all : List Value → ℕ
width_of_all values = sum_by width_of values

-- 1 to 15 values, none of them Null
pub record IsKeyed (values : List Value) : Type 0 where
  pub some : 0 < length values
  pub few : length values ≤ 15
  pub full : IsTrue (list_all (λ v. not (is_null v)) values)

-- the values of a key: as many, none Null, and an image of at most 256 bytes
pub record IsKey (values : List Value) : Type 0 where
  pub keyed : IsKeyed values
  pub narrow : width_of_all values ≤ 256
