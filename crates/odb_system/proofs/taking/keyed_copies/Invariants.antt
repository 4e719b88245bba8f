use Rattle.std.proofs.Common.{◌≡◌, take}
use Rattle.odb_model.specs.Storable.{HaveKeys}
use Rattle.odb_system.proofs.taking.keyed_copies.Given as goal

abbrev pub invariant-loop-write : goal.invariant-loop-write
invariant-loop-write l = (l.copies.items ≡ take l.write-index l.writes) × HaveKeys (take l.write-index l.writes)
