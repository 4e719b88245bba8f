use Rattle.std.proofs.Common.{◌≡◌, is_some, take}
use Rattle.std.specs.FinMap.{get}
use Rattle.odb_model.specs.State.{replay}
use Rattle.odb_plain.proofs.net.has_row.Given as goal

abbrev pub invariant-loop-entry : goal.invariant-loop-entry
invariant-loop-entry l = is_some (get (replay (take l.entry-index l.history)) l.at) ≡ l.there
