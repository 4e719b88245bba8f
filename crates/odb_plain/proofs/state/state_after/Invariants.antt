use Rattle.std.proofs.Common.{◌≡◌, drop}
use Rattle.odb_model.specs.State.{replay, replay_from}
use Rattle.odb_plain.proofs.state.state_after.Given as goal

-- the entries that are left make of the rows what all make of none
abbrev pub invariant-loop-entry : goal.invariant-loop-entry
invariant-loop-entry l = replay_from l.rows (drop l.entry-index l.history) ≡ replay l.history
