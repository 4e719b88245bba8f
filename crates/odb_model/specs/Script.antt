-- Scripts: how bytes are cut into lines, and what a line says.
use Rattle.std.specs.Prelude.{◌≡◌, ℕ, ◌^◌, ◌<◌, ◌≤◌, ◌==◌, List, [], ◌∷◌, ◌++◌, length, map, codes, Err, if◌then◌else◌}
use Rattle.std.specs.Fmt.{decimal}
use Rattle.odb_lex.specs.declared.error.LexError.TheVariants.{BadCharacter, OpenText, NumberTooWide}
use Rattle.odb_model.specs.declared.numbers.TheConstants.{LF, SESSIONS}
use Rattle.odb_model.specs.declared.control.Control.{Control as Step}
use Rattle.odb_model.specs.declared.event.Event.{Event}
use Rattle.odb_model.specs.declared.event.Event.TheVariants.{Session as OfSession, Control as Upkeep}
use Rattle.odb_model.specs.declared.reply.Head.{Head}
use Rattle.odb_model.specs.declared.reply.Head.TheVariants.{Session, Control, Unknown}
use Rattle.odb_model.specs.declared.reply.Reply.{Reply}
use Rattle.odb_model.specs.declared.reply.Reply.TheVariants.{Line, NoSession, Long, Character, Text, Number, Syntax, End, Memory}
use Rattle.odb_model.specs.Answer.{IsStatementText, Answers, Refusal, NoToken, Unexpected, End as Unfinished}
use Rattle.odb_model.specs.Control.{IsControl}

-- a byte goes onto the first of some parts
abbrev pub onto_first : ℕ → List (List ℕ) → List (List ℕ)
onto_first b [] = (b ∷ []) ∷ []
onto_first b (part ∷ parts) = (b ∷ part) ∷ parts

-- the parts between the LFs, one more than there are LFs
abbrev pub parts_of : List ℕ → List (List ℕ)
parts_of [] = [] ∷ []
parts_of (b ∷ bytes) = if b == LF then [] ∷ parts_of bytes else onto_first b (parts_of bytes)

-- all but the last, and the last
abbrev pub front_of : List (List ℕ) → List (List ℕ)
front_of [] = []
front_of (part ∷ []) = []
front_of (part ∷ next ∷ parts) = part ∷ front_of (next ∷ parts)

abbrev pub last_of : List (List ℕ) → List ℕ
last_of [] = []
last_of (part ∷ []) = part
last_of (part ∷ next ∷ parts) = last_of (next ∷ parts)

-- without a CR at its end
abbrev pub without_cr : List ℕ → List ℕ
without_cr [] = []
without_cr (b ∷ []) = if b == 13 then [] else b ∷ []
without_cr (b ∷ c ∷ bytes) = b ∷ without_cr (c ∷ bytes)

-- the lines that are ended by LF; a CR right before it is dropped
abbrev pub ended_lines : List ℕ → List (List ℕ)
ended_lines bytes = map without_cr (front_of (parts_of bytes))

-- the bytes after the last LF
abbrev pub open_line : List ℕ → List ℕ
open_line bytes = last_of (parts_of bytes)

-- bytes after the last LF, if there are any, are a last line, which keeps its CR
abbrev pub last_line : List ℕ → List (List ℕ)
last_line [] = []
last_line (b ∷ bytes) = (b ∷ bytes) ∷ []

abbrev pub all_lines : List ℕ → List (List ℕ)
all_lines bytes = ended_lines bytes ++ last_line (open_line bytes)

-- a session line: a decimal of 1 to 9 digits without a leading zero, a space, and a statement's
-- text
pub record IsSessionLine (line : List ℕ) (session : ℕ) (text : List ℕ) : Type 0 where
  pub few : session < 10 ^ 9
  pub spelled : line ≡ decimal session ++ codes " " ++ text

-- the line begins as control lines do
abbrev pub BeginsAsControl : List ℕ → Type 0
BeginsAsControl line = (rest : List ℕ) × (line ≡ codes "! " ++ rest)

-- the sessions are those from 1 to 64
abbrev pub IsSession : ℕ → Type 0
IsSession s = (1 ≤ s) × (s ≤ SESSIONS)

-- the most bytes that the text of a statement may have
abbrev pub most_text : ℕ
most_text = 65536

-- the line gives this text to a session that there is, and it isn't too long
pub record IsTextFor (line : List ℕ) (session : ℕ) (text : List ℕ) : Type 0 where
  pub line_is : IsSessionLine line session text
  pub there : IsSession session
  pub short : length text ≤ most_text

-- the line asks for this step: of a session by the statement that its text spells, or of upkeep by
-- its form
abbrev pub IsRequest : List ℕ → Event → Type 0
IsRequest line (OfSession s st) = (text : List ℕ) × IsTextFor line s text × IsStatementText text st
IsRequest line (Upkeep control) = IsControl line control

-- whom the answer to a step names
abbrev pub head_of : Event → Head
head_of (OfSession s st) = Session s
head_of (Upkeep control) = Control

-- the line's text is refused so
abbrev pub IsTextRefused : List ℕ → ℕ → Refusal → Type 0
IsTextRefused line s refusal = (text : List ℕ) × IsTextFor line s text × Answers text (Err refusal)

-- The line is refused before any step, with this head and this reply. First whether it is a line at
-- all, then whether there is such a session, then whether its text is short enough, then what the
-- text spells. Memory may run out while a text is read
abbrev pub IsRefused : List ℕ → Head → Reply → Type 0
IsRefused line Unknown Line =
    ((s : ℕ) (text : List ℕ) → IsSessionLine line s text → ⊥) × (BeginsAsControl line → ⊥)
IsRefused line Control Line =
    BeginsAsControl line × ((control : Step) → IsControl line control → ⊥)
IsRefused line (Session s) NoSession =
    (text : List ℕ) × IsSessionLine line s text × (IsSession s → ⊥)
IsRefused line (Session s) Long =
    (text : List ℕ) × IsSessionLine line s text × IsSession s × (most_text < length text)
IsRefused line (Session s) (Character at) = IsTextRefused line s (NoToken (BadCharacter at))
IsRefused line (Session s) (Text at) = IsTextRefused line s (NoToken (OpenText at))
IsRefused line (Session s) (Number at) = IsTextRefused line s (NoToken (NumberTooWide at))
IsRefused line (Session s) (Syntax at) = IsTextRefused line s (Unexpected at)
IsRefused line (Session s) End = IsTextRefused line s Unfinished
IsRefused line (Session s) Memory = (text : List ℕ) × IsTextFor line s text
IsRefused line head reply = ⊥
