-- The columns that earlier assignments set.
use Rattle.std.specs.Prelude.{ℕ, List, map, reverse}
use Rattle.odb_model.specs.declared.statement.Assignment.{Assignment}

-- the names of these columns, the last one first
abbrev pub names_backward : List Assignment → List (List ℕ)
names_backward sets = reverse (map (λ a. a.column) sets)
