-- What is said ends with a line.
use Rattle.std.proofs.Common.{◌≡◌, List, [], ◌∷◌, refl, ◌∙◌}
use Rattle.odb_model.specs.Script.{open_line}
use Rattle.odb_machine.specs.Play.{Answer, text_of_answer, said_by}
use Rattle.odb_model.proofs.Cut.{open_line-append}
use Rattle.odb_model.proofs.Told.{reply-ended}

-- and so do the texts of replies, one behind another
pub said-ended : (answers : List Answer) → open_line (said_by answers) ≡ []
said-ended [] = refl
said-ended (answer ∷ answers) =
    open_line-append (text_of_answer answer) (said_by answers) (reply-ended answer.head answer.reply) ∙ said-ended answers
