use Rattle.std.proofs.Common.{◌≡◌, drop}
use Rattle.odb_model.specs.State.{after_writes}
use Rattle.odb_plain.proofs.state.put_all.Given as goal

-- the writes that are left make of the rows what all make of the first ones
abbrev pub invariant-loop-write : goal.invariant-loop-write
invariant-loop-write l = after_writes l.rows (drop l.write-index l.writes) ≡ after_writes l.fn.rows l.writes
