use Rattle.std.proofs.Common.{◌≡◌, ◌++◌}
use Rattle.std.specs.List.{All}
use Rattle.std.specs.Vec.Iter.{into_iter_items}
use Rattle.odb_model.specs.State.{replay}
use Rattle.odb_model.specs.Storable.{HaveKeys}
use Rattle.odb_system.proofs.taking.rows_after.Given as goal

-- the rows are those of the entries so far, and none waits
abbrev pub invariant-loop-entry : goal.invariant-loop-entry
invariant-loop-entry l = record {
  rows : l.rows ≡ record { state = replay l.yielded; waiting = 0 };
  keyed : All (λ e. HaveKeys e.writes) l.yielded;
  whole : l.yielded ++ into_iter_items l.entry-iterator ≡ l.fn.entries;
}
