use Rattle.std.proofs.Common.{◌≡◌, take}
use Rattle.odb_model.specs.State.{after_writes}
use Rattle.odb_keytable.proofs.key_table.KeyTable.put_all.Given as goal

abbrev pub invariant-loop-write : goal.invariant-loop-write
invariant-loop-write l = l.self ≡ after_writes l.initial.self (take l.write-index l.writes)
