-- How session lines and statement texts begin with their numbers.
use Rattle.std.proofs.Common.{◌≡◌, ℕ, List, ◌++◌, codes, ◌∙◌, inl, lit<, append_assoc}
use Rattle.std.specs.Fmt.{decimal}
use Rattle.odb_model.specs.Script.{IsSessionLine}
use Rattle.odb_play.specs.Numbers.{StartsWithNumber}
use Rattle.odb_play.proofs.Digits.{number_unique}

-- a session line begins with its session's number
pub session_starts : (line : List ℕ) (s : ℕ) (text : List ℕ) → IsSessionLine line s text → StartsWithNumber line s (codes " " ++ text)
session_starts line s text here = record { few = here.few; spelled = here.spelled ∙ append_assoc (decimal s) (codes " ") text; ends = inl (lit< tt) }

-- where no space follows the number, the line is no session line
pub no_session_line : (line : List ℕ) (n : ℕ) (rest : List ℕ) → StartsWithNumber line n rest → ((text : List ℕ) → rest ≡ codes " " ++ text → ⊥) → (s : ℕ) (text : List ℕ) → IsSessionLine line s text → ⊥
no_session_line line n rest starts none s text here = none text (number_unique line n s rest (codes " " ++ text) starts (session_starts line s text here)).1
