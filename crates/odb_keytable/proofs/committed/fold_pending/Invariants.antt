use Rattle.std.proofs.Common.{◌≡◌, ◌≤◌, [], length}
use Rattle.odb_keytable.specs.Committed.{state_with, waiting_with}
use Rattle.odb_keytable.proofs.committed.fold_pending.Given as goal

abbrev pub invariant-loop-entry : goal.invariant-loop-entry
invariant-loop-entry l = record {
  state : state_with l.table l.begun.items l.pending ≡ state_with l.fn.table l.fn.begun.items l.fn.pending;
  none : l.begun.items ≡ [];
  fewer : length l.pending ≤ waiting_with l.fn.begun.items l.fn.pending;
}

abbrev pub decreases-loop-entry : goal.decreases-loop-entry
decreases-loop-entry l = length l.pending
