use Rattle.std.proofs.Common.{◌≡◌, take, reverse}
use Rattle.std.specs.Option.{option_copied}
use Rattle.odb_model.specs.Where.{equal_to}
use Rattle.odb_plan.proofs.tests_of.equal_to.Given as goal

-- what is found so far
abbrev pub invariant-loop-test : goal.invariant-loop-test
invariant-loop-test l = option_copied l.found ≡ equal_to (reverse (take l.test-index l.backward)) l.place
