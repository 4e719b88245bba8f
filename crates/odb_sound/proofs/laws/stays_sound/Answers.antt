use Rattle.odb_sound.proofs.Steps.{step_sound}
use Rattle.odb_sound.proofs.Begun.{begins_sound}
use Rattle.odb_sound.proofs.Appended.{never_falls}
use Rattle.odb_sound.proofs.laws.stays_sound.Goals as goal

pub returns-clause-begins : goal.returns-clause-begins
returns-clause-begins c = λ format sides. begins_sound format sides

pub returns-clause-kept : goal.returns-clause-kept
returns-clause-kept c = λ m after event seen reply format spelled sound step. step_sound m after event seen reply format spelled sound step

pub returns-clause-rises : goal.returns-clause-rises
returns-clause-rises c = λ h more sound. never_falls h more sound
