use Rattle.std.proofs.Common.{◌≡◌, drop}
use Rattle.odb_model.specs.Where.{equal_to}
use Rattle.odb_plain.proofs.tests_of.equal_to.Given as goal

-- what is found is found among those that are left
abbrev pub invariant-loop-test : goal.invariant-loop-test
invariant-loop-test l = equal_to (drop l.test-index l.tests) l.place ≡ equal_to l.tests l.place
