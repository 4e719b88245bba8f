-- What a front of a long line says of the whole.
use Rattle.std.proofs.Common.{◌≡◌, ℕ, ◌+◌, ◌-◌, ◌^◌, ◌<◌, ◌≤◌, List, ◌++◌, codes, length, take, drop, sym, ap, ◌∙◌, lit<, arith, append_assoc, length-append}
use Rattle.std.specs.Fmt.{decimal}
use Rattle.std.proofs.lemmas.Fmt.{length-decimal-le}
use Rattle.std.proofs.lemmas.List.{take-append-drop, length-take-le}
use Rattle.std.proofs.Math.Seq.{take-append-add}
use Rattle.odb_model.specs.declared.reply.Head.{Head}
use Rattle.odb_model.specs.declared.reply.Head.TheVariants.{Session, Control, Unknown}
use Rattle.odb_model.specs.declared.reply.Reply.{Reply}
use Rattle.odb_model.specs.declared.reply.Reply.TheVariants.{Line, NoSession, Long, Character, Text, Number, Syntax, End, Memory}
use Rattle.odb_model.specs.declared.control.Control.{Control as Step}
use Rattle.odb_model.specs.declared.control.Control.TheVariants.{Bodies, Gates, Mark, Log, Turn, Clean, Copy, DropLog, NewLog, Reopen, State}
use Rattle.odb_model.specs.declared.event.Event.{Event}
use Rattle.odb_model.specs.declared.event.Event.TheVariants.{Session as OfSession, Control as Upkeep}
use Rattle.odb_model.specs.Control.{control_text, IsControl}
use Rattle.odb_model.specs.Script.{IsSessionLine, BeginsAsControl, IsSession, IsTextFor, IsRequest, IsRefused}

-- a front that goes past xs has all of it
take_past : (xs ys : List ℕ) (n : ℕ) → length xs ≤ n → take n (xs ++ ys) ≡ xs ++ take (n - length xs) ys
take_past xs ys n fits = ap (λ k. take k (xs ++ ys)) (omega arith) ∙ take-append-add xs ys (n - length xs)

-- the decimal of a number below 10^9 has at most 9 digits
nine_digits : (n : ℕ) → n < 10 ^ 9 → length (decimal n) ≤ 9
nine_digits n few = length-decimal-le 9 n (lit< tt) few (omega arith)

-- how long a session line is
session_size : (line : List ℕ) (s : ℕ) (text : List ℕ) → IsSessionLine line s text → length line ≡ length (decimal s) + 1 + length text
session_size line s text here = ap length here.spelled ∙ simp length-append

-- the number of a session has at most 2 digits
two_digits : (s : ℕ) → IsSession s → length (decimal s) ≤ 2
two_digits s session = length-decimal-le 2 s (lit< tt) (omega arith) (omega arith)

-- a line that gives a text to a session has at most 65,539 bytes
text_short : (line : List ℕ) (s : ℕ) (text : List ℕ) → IsTextFor line s text → length line ≤ 65539
text_short line s text here = omega (arith, session_size line s text here.line_is, two_digits s here.there, here.short)

-- the numbers of a control line have at most 15 digits
file_digits : (n : ℕ) → n < 2 ^ 32 → length (decimal n) ≤ 10
file_digits n few = length-decimal-le 10 n (lit< tt) (omega arith) (omega arith)

entry_digits : (n : ℕ) → n < 10 ^ 15 → length (decimal n) ≤ 15
entry_digits n few = length-decimal-le 15 n (lit< tt) few (omega arith)

-- a control line has at most 25 bytes
control_short : (line : List ℕ) (control : Step) → IsControl line control → length line ≤ 25
control_short line (Bodies file) here =
    let size : length line ≡ length (control_text (Bodies file)) = ap length here.spelled in
    omega (arith, simp length-append at size, file_digits file here.fits)
control_short line (Gates file) here =
    let size : length line ≡ length (control_text (Gates file)) = ap length here.spelled in
    omega (arith, simp length-append at size, file_digits file here.fits)
control_short line (Mark file) here =
    let size : length line ≡ length (control_text (Mark file)) = ap length here.spelled in
    omega (arith, simp length-append at size, file_digits file here.fits)
control_short line Log here = omega (arith, ap length here.spelled)
control_short line Turn here = omega (arith, ap length here.spelled)
control_short line Clean here = omega (arith, ap length here.spelled)
control_short line (Copy file) here =
    let size : length line ≡ length (control_text (Copy file)) = ap length here.spelled in
    omega (arith, simp length-append at size, file_digits file here.fits)
control_short line (DropLog n) here =
    let size : length line ≡ length (control_text (DropLog n)) = ap length here.spelled in
    omega (arith, simp length-append at size, entry_digits n here.fits)
control_short line NewLog here = omega (arith, ap length here.spelled)
control_short line Reopen here = omega (arith, ap length here.spelled)
control_short line State here = omega (arith, ap length here.spelled)

-- a line that asks for anything has at most 65,539 bytes
pub asked_short : (line : List ℕ) (event : Event) → IsRequest line event → length line ≤ 65539
asked_short line (OfSession s st) (text, here, spells) = text_short line s text here
asked_short line (Upkeep control) here = omega (arith, control_short line control here)

-- so no longer front asks for anything
pub front_asks_nothing : (line : List ℕ) (n : ℕ) → 65539 < n → n < length line → (event : Event) → IsRequest (take n line) event → ⊥
front_asks_nothing line n long within event asks = omega (arith, asked_short (take n line) event asks, length-take-le n line (omega arith))

-- nor does it give a text to a session
front_has_no_text : (line : List ℕ) (n s : ℕ) (text : List ℕ) → 65539 < n → n < length line → IsTextFor (take n line) s text → ⊥
front_has_no_text line n s text long within here = omega (arith, text_short (take n line) s text here, length-take-le n line (omega arith))

-- the whole line is its front and what follows
goes_on : (line : List ℕ) (n : ℕ) (xs text : List ℕ) → take n line ≡ xs ++ text → line ≡ xs ++ (text ++ drop n line)
goes_on line n xs text here = sym (take-append-drop n line) ∙ ap (λ front. front ++ drop n line) here ∙ append_assoc xs text (drop n line)

-- what follows the front of a session line belongs to its text
session_goes_on : (line : List ℕ) (n s : ℕ) (text : List ℕ) → IsSessionLine (take n line) s text → IsSessionLine line s (text ++ drop n line)
session_goes_on line n s text here = record { few = here.few; spelled = goes_on line n (decimal s ++ codes " ") text here.spelled }

control_goes_on : (line : List ℕ) (n : ℕ) → BeginsAsControl (take n line) → BeginsAsControl line
control_goes_on line n (rest, here) = (rest ++ drop n line, goes_on line n (codes "! ") rest here)

-- a session line is told by ten bytes, which have its number and the space
session_begins : (line : List ℕ) (n s : ℕ) (text : List ℕ) → 10 ≤ n → IsSessionLine line s text → IsSessionLine (take n line) s (take (n - length (decimal s ++ codes " ")) text)
session_begins line n s text long here =
    let fits : length (decimal s ++ codes " ") ≤ n = simp length-append (omega (arith, nine_digits s here.few)) in
    record { few = here.few; spelled = ap (take n) here.spelled ∙ take_past (decimal s ++ codes " ") text n fits }

control_begins : (line : List ℕ) (n : ℕ) → 2 ≤ n → BeginsAsControl line → BeginsAsControl (take n line)
control_begins line n long (rest, here) = (take (n - 2) rest, ap (take n) here ∙ take_past (codes "! ") rest n long)

-- a longer line is refused as its front is
pub front_refused : (line : List ℕ) (n : ℕ) → 65539 < n → n < length line → (head : Head) (reply : Reply) → IsRefused (take n line) head reply → IsRefused line head reply
front_refused line n long within Unknown Line (no_session, no_control) =
    ((λ s text here. no_session s _ (session_begins line n s text (omega arith) here)), (λ here. no_control (control_begins line n (omega arith) here)))
front_refused line n long within Control Line (begins, none) =
    (control_goes_on line n begins, (λ control here. omega (arith, control_short line control here)))
front_refused line n long within (Session s) NoSession (text, here, none) = (text ++ drop n line, session_goes_on line n s text here, none)
front_refused line n long within (Session s) Long (text, here, there, longer) =
    (text ++ drop n line, session_goes_on line n s text here, there, omega (arith, length-append text (drop n line)))
front_refused line n long within (Session s) (Character at) (text, here, answer) = absurd (front_has_no_text line n s text long within here)
front_refused line n long within (Session s) (Text at) (text, here, answer) = absurd (front_has_no_text line n s text long within here)
front_refused line n long within (Session s) (Number at) (text, here, answer) = absurd (front_has_no_text line n s text long within here)
front_refused line n long within (Session s) (Syntax at) (text, here, answer) = absurd (front_has_no_text line n s text long within here)
front_refused line n long within (Session s) End (text, here, answer) = absurd (front_has_no_text line n s text long within here)
front_refused line n long within (Session s) Memory (text, here) = absurd (front_has_no_text line n s text long within here)
front_refused line n long within head reply refused = absurd refused
