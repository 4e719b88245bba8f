use Rattle.std.proofs.Common.{◌≡◌, take}
use Rattle.odb_model.specs.Intentions.{intended}
use Rattle.odb_rowsource.proofs.intentions.Intentions.net_writes.Given as goal

abbrev pub invariant-loop-intention : goal.invariant-loop-intention
invariant-loop-intention l = l.writes.items ≡ intended (take l.intention-index l.self.items)
