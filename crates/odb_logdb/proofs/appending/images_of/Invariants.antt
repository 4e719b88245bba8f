use Rattle.std.proofs.Common.{◌≡◌, ◌^◌, ◌<◌, List, ℕ, length, take}
use Rattle.std.specs.Prelude.{map}
use Rattle.std.specs.List.{All}
use Rattle.odb_codec.specs.Image.{HasImage, entry_image}
use Rattle.odb_logdb.proofs.appending.images_of.Given as goal

abbrev pub invariant-loop-entry : goal.invariant-loop-entry
invariant-loop-entry l = record {
  items : l.images.items ≡ map entry_image (take l.entry-index l.entries);
  lawful : All HasImage (take l.entry-index l.entries);
  short : All (λ (image : List ℕ). length image < 2 ^ 32) l.images.items;
}
