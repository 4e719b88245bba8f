use Rattle.std.proofs.Common.{◌≡◌, is_some, take}
use Rattle.std.specs.FinMap.{get}
use Rattle.odb_model.specs.State.{State, after_writes}
use Rattle.odb_plain.proofs.net.is_there_after.Given as goal

abbrev pub invariant-loop-write : goal.invariant-loop-write
invariant-loop-write l = (s : State) → is_some (get s l.at) ≡ l.fn.before → is_some (get (after_writes s (take l.write-index l.writes)) l.at) ≡ l.there
