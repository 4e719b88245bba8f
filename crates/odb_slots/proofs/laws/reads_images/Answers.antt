use Rattle.odb_slots.proofs.Imaging.{length-slot_image, item_again}
use Rattle.odb_slots.proofs.laws.reads_images.Goals as goal

pub returns-clause-size : goal.returns-clause-size
returns-clause-size c = λ item fits. length-slot_image item fits.narrow

pub returns-clause-again : goal.returns-clause-again
returns-clause-again c = item_again
