use Rattle.std.proofs.Common.{◌≡◌, ◌≤◌, ◌==◌, length, drop}
use Rattle.std.specs.List.{filter}
use Rattle.odb_plain.specs.Sides.{edge_of}
use Rattle.odb_plain.proofs.edge.edge_on.Given as goal

-- the tightest edge of the comparisons from here on
abbrev pub invariant-loop-left : goal.invariant-loop-left
invariant-loop-left l = record {
  edge : l.edge ≡ edge_of l.side (filter (λ test. test.place == l.place) (drop l.left l.tests));
  within : l.left ≤ length l.tests;
}

abbrev pub decreases-loop-left : goal.decreases-loop-left
decreases-loop-left l = l.left
