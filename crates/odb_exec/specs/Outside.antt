-- Columns outside the key.
use Rattle.std.specs.Prelude.{ℕ, Bool, is_none}
use Rattle.odb_model.specs.Table.{Table, place_in}

-- whether the column at a place isn't in the key
abbrev pub is_outside : Table → ℕ → Bool
is_outside t place = is_none (place_in t.key place)
