use Rattle.std.proofs.Common.{◌≡◌, ◌++◌, take}
use Rattle.odb_codec.specs.Image.{values_image, AreTyped}
use Rattle.odb_codec.proofs.put.put_values.Given as goal

abbrev pub invariant-loop-value : goal.invariant-loop-value
invariant-loop-value l = record { image : l.out.items ≡ l.fn.out.items ++ values_image (take l.value-index l.values); typed : AreTyped (take l.value-index l.values) }
