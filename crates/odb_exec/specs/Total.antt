-- A sum of values as far as it has come.
use Rattle.std.specs.Prelude.{◌≡◌, List, map, not}
use Rattle.std.specs.List.{list_all}
use Rattle.odb_values.specs.declared.value.Value.{Value}
use Rattle.odb_values.specs.Value.{is_null}
use Rattle.odb_model.specs.Sums.{number_of, int_sum}
use Rattle.odb_exec.specs.declared.total.Total.{Total}

-- it is the sum of these values, and tells whether one of them isn't Null
pub record IsTotalOf (values : List Value) (total : Total) : Type 0 where
  pub sum : total.sum ≡ int_sum (map number_of values)
  pub some : total.some ≡ not (list_all is_null values)
