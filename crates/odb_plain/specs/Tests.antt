-- The comparisons of a predicate that are joined by AND at its top.
use Rattle.std.specs.Prelude.{List}
use Rattle.odb_model.specs.declared.predicate.Predicate.{Predicate, fold-Predicate}
use Rattle.odb_model.specs.Table.{Column}
use Rattle.odb_model.specs.Where.{ColumnTest, tests_step}

abbrev pub tests_in : List Column → Predicate → List ColumnTest
tests_in columns p = fold-Predicate (List ColumnTest) (tests_step columns) p
