use Rattle.std.proofs.Common.{◌≡◌, drop}
use Rattle.odb_model.specs.Window.{oldest_number}
use Rattle.odb_validate.proofs.OldestReads.{least_of}
use Rattle.odb_validate.proofs.oldest.oldest_number.Given as goal

abbrev pub invariant-loop-read : goal.invariant-loop-read
invariant-loop-read l =
    least_of l.oldest (oldest_number (drop l.read-index l.reads)) ≡ oldest_number l.reads
