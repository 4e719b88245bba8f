use Rattle.std.proofs.Common.{◌≡◌, length}
use Rattle.odb_codec.specs.Reading.{values_in}
use Rattle.odb_codec.proofs.Values.{with_front}
use Rattle.odb_codec.proofs.value.values_in.Given as goal

abbrev pub invariant-loop-rest : goal.invariant-loop-rest
invariant-loop-rest l = with_front l.values.items (values_in l.rest) ≡ values_in l.fn.bytes

abbrev pub decreases-loop-rest : goal.decreases-loop-rest
decreases-loop-rest l = length l.rest
