use Rattle.std.proofs.Common.{◌≡◌, take}
use Rattle.odb_model.specs.State.{part_in, replay}
use Rattle.odb_plain.proofs.part.rows_in.Given as goal

abbrev pub invariant-loop-entry : goal.invariant-loop-entry
invariant-loop-entry l = l.rows ≡ part_in l.range (replay (take l.entry-index l.history))
