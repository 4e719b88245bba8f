use Rattle.std.proofs.Common.{◌≡◌, ◌==◌, take, reverse}
use Rattle.std.specs.List.{filter}
use Rattle.odb_plan.specs.Sides.{edge_of}
use Rattle.odb_plan.proofs.tests_of.edge_on.Given as goal

-- the tightest edge so far
abbrev pub invariant-loop-test : goal.invariant-loop-test
invariant-loop-test l = l.edge ≡ edge_of l.side (filter (λ test. test.place == l.place) (reverse (take l.test-index l.backward)))
