use Rattle.std.proofs.Common.{◌≡◌, ◌+◌, ◌*◌, ◌≤◌, length, take}
use Rattle.std.specs.List.{flat_map}
use Rattle.odb_codec.specs.Image.{write_image}
use Rattle.odb_codec.proofs.put.len_of_entry.Given as goal

abbrev pub invariant-loop-write : goal.invariant-loop-write
invariant-loop-write l = record { value : l.len ≡ 3 + length (flat_map write_image (take l.write-index l.writes)); bound : l.len ≤ 3 + 1019 * l.write-index }
