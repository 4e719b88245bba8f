use Rattle.odb_codec.proofs.Lengths.{length-entry_image}
use Rattle.odb_codec.proofs.laws.measures_images.Goals as goal

pub returns : goal.returns
returns c = length-entry_image
