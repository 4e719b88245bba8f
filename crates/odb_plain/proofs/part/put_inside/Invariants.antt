use Rattle.std.proofs.Common.{◌≡◌, drop}
use Rattle.odb_model.specs.State.{after_writes}
use Rattle.odb_plain.proofs.Inside.{inside}
use Rattle.odb_plain.proofs.part.put_inside.Given as goal

-- what is left gives what the whole would give
abbrev pub invariant-loop-write : goal.invariant-loop-write
invariant-loop-write l = after_writes l.rows (inside l.range (drop l.write-index l.writes)) ≡ after_writes l.initial.rows (inside l.range l.writes)
