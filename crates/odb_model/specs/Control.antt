-- The control lines, each of which asks for a step of upkeep, or for the state. Numbers stand as
-- decimals without a leading zero. The rules are this project's own.
use Rattle.std.specs.Prelude.{◌≡◌, ℕ, ◌^◌, ◌<◌, List, ◌++◌, codes, ⊤}
use Rattle.std.specs.Fmt.{decimal}
use Rattle.odb_model.specs.declared.control.Control.{Control}
use Rattle.odb_model.specs.declared.control.Control.TheVariants.{Bodies, Gates, Mark, Log, Turn, Clean, Copy, DropLog, NewLog, Reopen, State}

abbrev pub control_text : Control → List ℕ
control_text (Bodies file) = codes "! APPLY " ++ decimal file ++ codes " BODIES"
control_text (Gates file) = codes "! APPLY " ++ decimal file ++ codes " GATES"
control_text (Mark file) = codes "! APPLY " ++ decimal file ++ codes " MARK"
control_text Log = codes "! LOG"
control_text Turn = codes "! TURN"
control_text Clean = codes "! CLEAN"
control_text (Copy file) = codes "! COPY " ++ decimal file
control_text (DropLog number) = codes "! DROPLOG " ++ decimal number
control_text NewLog = codes "! NEWLOG"
control_text Reopen = codes "! REOPEN"
control_text State = codes "! STATE"

-- a file's number is below 2^32, any other has at most 15 digits
abbrev pub FitsControl : Control → Type 0
FitsControl (Bodies file) = file < 2 ^ 32
FitsControl (Gates file) = file < 2 ^ 32
FitsControl (Mark file) = file < 2 ^ 32
FitsControl (Copy file) = file < 2 ^ 32
FitsControl (DropLog number) = number < 10 ^ 15
FitsControl _ = ⊤

-- the line asks for the step
pub record IsControl (line : List ℕ) (control : Control) : Type 0 where
  pub spelled : line ≡ control_text control
  pub fits : FitsControl control
