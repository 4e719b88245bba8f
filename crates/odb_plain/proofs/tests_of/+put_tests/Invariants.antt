use Rattle.std.proofs.Common.{◌≡◌, ◌≤◌, ◌++◌, reverse}
use Rattle.odb_model.specs.declared.predicate.Predicate.{size-Predicate}
use Rattle.odb_plain.specs.Tests.{tests_in}
use Rattle.odb_plain.proofs.tests_of.+put_tests.Given as goal

-- what is put so far, and the comparisons of the part, make those of the whole; the part is no deeper
abbrev pub invariant-loop-part : goal.invariant-loop-part
invariant-loop-part l = record {
  whole : l.tests.items ++ reverse (tests_in l.table.columns l.part) ≡ l.fn.tests.items ++ reverse (tests_in l.table.columns l.fn.predicate);
  no_deeper : size-Predicate l.part ≤ size-Predicate l.fn.predicate;
}
