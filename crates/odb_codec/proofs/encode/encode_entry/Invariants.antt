use Rattle.std.proofs.Common.{◌≡◌, [], ◌∷◌, ◌++◌, length, take}
use Rattle.std.specs.Int.{w16, to_be_bytes}
use Rattle.std.specs.List.{All, flat_map}
use Rattle.odb_codec.specs.Image.{write_image, IsTypedWrite}
use Rattle.odb_codec.proofs.encode.encode_entry.Given as goal

abbrev pub invariant-loop-write : goal.invariant-loop-write
invariant-loop-write l = record {
  image : l.out.items ≡ (l.e.by ∷ []) ++ to_be_bytes w16 (length l.writes) ++ flat_map write_image (take l.write-index l.writes);
  typed : All IsTypedWrite (take l.write-index l.writes);
}
