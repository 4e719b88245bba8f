-- What the bytes said tell of commits.
use Rattle.std.proofs.Common.{◌≡◌, ℕ, ◌||◌, ◌==◌, List, [], ◌∷◌, ◌++◌, codes, length, flat_map, refl, sym, ap, subst, ◌∙◌, arith, inl, inr, append_assoc, lit<}
use Rattle.std.specs.Prelude.{◌⊎◌, Contains}
use Rattle.std.specs.List.{list_any}
use Rattle.std.specs.Fmt.{decimal}
use Rattle.std.proofs.lemmas.List.Elements.{Contains-append_left, Contains-append_cases, Contains-push_cases}
use Rattle.odb_model.specs.declared.reply.Head.{Head}
use Rattle.odb_model.specs.declared.reply.Head.TheVariants.{Session, Control, Unknown}
use Rattle.odb_model.specs.declared.reply.Reply.{Reply}
use Rattle.odb_model.specs.declared.reply.Reply.TheVariants.{Okay, Rows, Done, Committed, Ended, InDoubt, Bodies, Gates, Mark, Logged, Turned, Cleaned, Copying, Copied, LogFirst, Opened, State, Character, Text, Number, Syntax, End, Long, Line, NoSession, NotYet, NoTransaction, InTransaction, NoTable, NoBank, NameTaken, NotEmpty, NoCopyLeft, NoNumberLeft, NoShadow, NoBackup, Fixed, NoColumn, KindMismatch, KeyColumn, ColumnCount, Duplicate, NullNotAllowed, TooLong, KeyTooWide, RowTooWide, TooManyWrites, Overflow, Halted, Aged, Conflict, HistoryFull, Full, Fault, NotClean, Held, LogFull, Needed, NotHeld, Phase, NoFile, Limit, Memory}
use Rattle.odb_model.specs.declared.phase.CopyLine.{CopyLine}
use Rattle.odb_model.specs.declared.phase.StateReply.{StateReply}
use Rattle.odb_model.specs.Print.{head_text, line_of, row_line, two_numbers, phase_text, log_words, copy_words, sides_words, state_text, reply_text}
use Rattle.odb_model.specs.Script.{open_line}
use Rattle.odb_model.specs.Acknowledged.{Acknowledges}
use Rattle.odb_model.proofs.Replay.{or_false}
use Rattle.odb_model.proofs.Cut.{HasNoLf, cut, ended-append, ended-front, ended-one, open_line-ended, open_line-append}
use Rattle.odb_model.proofs.Decimal.{IsUnspaced, decimal-unspaced, unspaced-no_lf}

-- what a front tells, all of the bytes tell
pub Acknowledges-front : (front rest : List ℕ) (k : ℕ) → Acknowledges front k → Acknowledges (front ++ rest) k
Acknowledges-front front rest k t =
    let line = decimal t.session ++ codes " COMMITTED " ++ decimal k in
    let more = ended-front front rest in
    record { session = t.session; line = subst (λ (lines : List (List ℕ)). Contains lines line) (sym more.1) (Contains-append_left (cut front).0 more.0 line t.line) }

-- where the first bytes end with a line, each of the two parts tells its own lines
pub Acknowledges-append : (front rest : List ℕ) (k : ℕ) → open_line front ≡ [] → Acknowledges (front ++ rest) k → Acknowledges front k ⊎ Acknowledges rest k
Acknowledges-append front rest k ended t =
    let line = decimal t.session ++ codes " COMMITTED " ++ decimal k in
    let within : Contains ((cut front).0 ++ (cut rest).0) line = subst (λ (lines : List (List ℕ)). Contains lines line) (ended-append front rest ended) t.line in
    elim (Contains-append_cases (cut front).0 (cut rest).0 line within) as (λ w. Acknowledges front k ⊎ Acknowledges rest k) [
      | inl here ↦ inl (record { session = t.session; line = here })
      | inr there ↦ inr (record { session = t.session; line = there })
    ]

nothing_there : (line : List ℕ) → Contains [] line → ⊥
nothing_there line c = omega (arith, c.1)

-- where nothing is said, nothing is told
pub Acknowledges-nothing : (k : ℕ) → Acknowledges [] k → ⊥
Acknowledges-nothing k t = nothing_there _ t.line

one_there : (only line : List ℕ) → Contains (only ∷ []) line → only ≡ line
one_there only line c = elim (Contains-push_cases [] only line c) as (λ w. only ≡ line) [ inl none ↦ absurd (nothing_there line none) | inr same ↦ same ]

pub no_lf-append : (a b : List ℕ) → HasNoLf a → HasNoLf b → HasNoLf (a ++ b)
no_lf-append [] b p q = q
no_lf-append (x ∷ a) b p q =
    let parts = or_false (x == 10) (list_any (λ y. y == 10) a) p in
    ap (λ c. c || list_any (λ y. y == 10) (a ++ b)) parts.0 ∙ no_lf-append a b parts.1 q

head-unspaced : (head : Head) → IsUnspaced (head_text head)
head-unspaced (Session s) = decimal-unspaced s
head-unspaced Control = (lit< tt, tt)
head-unspaced Unknown = (lit< tt, tt)

-- what follows the first space
after_space : (a b c d : List ℕ) → IsUnspaced a → IsUnspaced c → a ++ 32 ∷ b ≡ c ++ 32 ∷ d → b ≡ d
after_space [] b [] d p q e = cc
after_space [] b (y ∷ c) d p q e = let same : 32 ≡ y = cc in absurd (omega (arith, q.0))
after_space (x ∷ a) b [] d p q e = let same : x ≡ 32 = cc in absurd (omega (arith, p.0))
after_space (x ∷ a) b (y ∷ c) d p q e = let rest : a ++ 32 ∷ b ≡ c ++ 32 ∷ d = cc in after_space a b c d p.1 q.1 rest

-- a line that tells of a commit has the words of one
pub told_words : (head : Head) (words : List ℕ) (k : ℕ) → HasNoLf words → Acknowledges (line_of head words) k → words ≡ codes "COMMITTED " ++ decimal k
told_words head words k none t =
    let line = head_text head ++ codes " " ++ words in
    let told = decimal t.session ++ codes " COMMITTED " ++ decimal k in
    let start : HasNoLf (head_text head ++ codes " ") = no_lf-append (head_text head) (codes " ") (unspaced-no_lf (head_text head) (head-unspaced head)) refl in
    let only : line ≡ told = one_there line told (subst (λ (lines : List (List ℕ)). Contains lines told) (ended-one line (no_lf-append (head_text head ++ codes " ") words start none)) t.line) in
    after_space (head_text head) words (decimal t.session) (codes "COMMITTED " ++ decimal k) (head-unspaced head) (decimal-unspaced t.session)
    (sym (append_assoc (head_text head) (codes " ") words) ∙ only ∙ append_assoc (decimal t.session) (codes " COMMITTED ") (decimal k))

-- words that begin otherwise are not those of a commit
pub other_words : (first : ℕ) (words : List ℕ) (k : ℕ) → (first ≡ 67 → ⊥) → first ∷ words ≡ codes "COMMITTED " ++ decimal k → ⊥
other_words first words k other e = let same : first ≡ 67 = cc in other same

pub line-ended : (head : Head) (words : List ℕ) → open_line (line_of head words) ≡ []
line-ended head words = open_line-ended (head_text head ++ codes " " ++ words)

-- lines of copies end with the last of them
copies-ended : (head : Head) (copies : List CopyLine) → open_line (flat_map (λ c. line_of head (copy_words c)) copies) ≡ []
copies-ended head [] = refl
copies-ended head (c ∷ copies) =
    open_line-append (line_of head (copy_words c)) (flat_map (λ d. line_of head (copy_words d)) copies) (line-ended head (copy_words c)) ∙ copies-ended head copies

-- lines behind lines end with the last of them
pub lines-ended : (head : Head) (front words : List ℕ) → open_line front ≡ [] → open_line (front ++ line_of head words) ≡ []
lines-ended head front words ended = open_line-append front (line_of head words) ended ∙ line-ended head words

-- the lines of STATE before those of copies
pub head-ended : (head : Head) (s : StateReply) → open_line (line_of head (codes "NUMBER " ++ decimal s.number) ++ line_of head (sides_words s) ++ line_of head (log_words s.log)) ≡ []
head-ended head s =
    let number = codes "NUMBER " ++ decimal s.number in
    lines-ended head (line_of head number ++ line_of head (sides_words s)) (log_words s.log) (lines-ended head (line_of head number) (sides_words s) (line-ended head number))

-- what STATE tells ends with its last line
state-ended : (head : Head) (s : StateReply) → open_line (state_text head s) ≡ []
state-ended head s =
    open_line-append (line_of head (codes "NUMBER " ++ decimal s.number) ++ line_of head (sides_words s) ++ line_of head (log_words s.log))
    (flat_map (λ c. line_of head (copy_words c)) s.copies) (head-ended head s)
    ∙ copies-ended head s.copies

-- the text of a reply ends with its last line
pub reply-ended : (head : Head) (reply : Reply) → open_line (reply_text head reply) ≡ []
reply-ended head (Rows rows) =
    let last = codes "ROWS " ++ decimal (length rows) in
    ap open_line (sym (append_assoc (flat_map (row_line head) rows) (head_text head ++ codes " " ++ last) (10 ∷ [])))
    ∙ open_line-ended (flat_map (row_line head) rows ++ (head_text head ++ codes " " ++ last))
reply-ended head Okay = line-ended head (codes "OK")
reply-ended head (Done n) = line-ended head (codes "DONE " ++ decimal n)
reply-ended head (Committed k) = line-ended head (codes "COMMITTED " ++ decimal k)
reply-ended head (Ended p) = line-ended head (codes "ENDED " ++ decimal p)
reply-ended head (InDoubt k) = line-ended head (codes "INDOUBT " ++ decimal k)
reply-ended head (Bodies file number) = line-ended head (two_numbers (codes "BODIES") file number)
reply-ended head (Gates file number) = line-ended head (two_numbers (codes "GATES") file number)
reply-ended head (Mark file number) = line-ended head (two_numbers (codes "MARK") file number)
reply-ended head (Logged number) = line-ended head (codes "LOGGED " ++ decimal number)
reply-ended head (Turned side first) = line-ended head (two_numbers (codes "TURNED") side first)
reply-ended head Cleaned = line-ended head (codes "CLEANED")
reply-ended head (Copying file left) = line-ended head (two_numbers (codes "COPYING") file left)
reply-ended head (Copied file mark) = line-ended head (two_numbers (codes "COPIED") file mark)
reply-ended head (LogFirst number) = line-ended head (codes "LOGFIRST " ++ decimal number)
reply-ended head (Opened number) = line-ended head (codes "OPENED " ++ decimal number)
reply-ended head (State state) = state-ended head state
reply-ended head (Character at) = line-ended head (codes "REFUSED CHARACTER " ++ decimal at)
reply-ended head (Text at) = line-ended head (codes "REFUSED TEXT " ++ decimal at)
reply-ended head (Number at) = line-ended head (codes "REFUSED NUMBER " ++ decimal at)
reply-ended head (Syntax at) = line-ended head (codes "REFUSED SYNTAX " ++ decimal at)
reply-ended head End = line-ended head (codes "REFUSED END")
reply-ended head Long = line-ended head (codes "REFUSED LONG")
reply-ended head Line = line-ended head (codes "REFUSED LINE")
reply-ended head NoSession = line-ended head (codes "REFUSED NOSESSION")
reply-ended head NotYet = line-ended head (codes "REFUSED NOTYET")
reply-ended head NoTransaction = line-ended head (codes "REFUSED NOTRANSACTION")
reply-ended head InTransaction = line-ended head (codes "REFUSED INTRANSACTION")
reply-ended head NoTable = line-ended head (codes "REFUSED NOTABLE")
reply-ended head NoBank = line-ended head (codes "REFUSED NOBANK")
reply-ended head NameTaken = line-ended head (codes "REFUSED NAMETAKEN")
reply-ended head NotEmpty = line-ended head (codes "REFUSED NOTEMPTY")
reply-ended head NoCopyLeft = line-ended head (codes "REFUSED NOCOPYLEFT")
reply-ended head NoShadow = line-ended head (codes "REFUSED NOSHADOW")
reply-ended head NoBackup = line-ended head (codes "REFUSED NOBACKUP")
reply-ended head NoNumberLeft = line-ended head (codes "REFUSED NONUMBERLEFT")
reply-ended head Fixed = line-ended head (codes "REFUSED FIXED")
reply-ended head NoColumn = line-ended head (codes "REFUSED NOCOLUMN")
reply-ended head KindMismatch = line-ended head (codes "REFUSED KINDMISMATCH")
reply-ended head KeyColumn = line-ended head (codes "REFUSED KEYCOLUMN")
reply-ended head ColumnCount = line-ended head (codes "REFUSED COLUMNCOUNT")
reply-ended head Duplicate = line-ended head (codes "REFUSED DUPLICATE")
reply-ended head NullNotAllowed = line-ended head (codes "REFUSED NULLNOTALLOWED")
reply-ended head TooLong = line-ended head (codes "REFUSED TOOLONG")
reply-ended head KeyTooWide = line-ended head (codes "REFUSED KEYTOOWIDE")
reply-ended head RowTooWide = line-ended head (codes "REFUSED ROWTOOWIDE")
reply-ended head TooManyWrites = line-ended head (codes "REFUSED TOOMANYWRITES")
reply-ended head Overflow = line-ended head (codes "REFUSED OVERFLOW")
reply-ended head (Halted k) = line-ended head (codes "REFUSED HALTED " ++ decimal k)
reply-ended head (Aged oldest start) = line-ended head (codes "REFUSED AGED " ++ decimal oldest ++ codes " " ++ decimal start)
reply-ended head HistoryFull = line-ended head (codes "REFUSED HISTORYFULL")
reply-ended head (Conflict j) = line-ended head (codes "REFUSED CONFLICT " ++ decimal j)
reply-ended head (Full need room) = line-ended head (codes "REFUSED FULL " ++ decimal need ++ codes " " ++ decimal room)
reply-ended head (Fault f) = line-ended head (codes "REFUSED FAULT " ++ decimal f)
reply-ended head NotClean = line-ended head (codes "REFUSED NOTCLEAN")
reply-ended head (Held mark last) = line-ended head (codes "REFUSED " ++ two_numbers (codes "HELD") mark last)
reply-ended head (LogFull need room) = line-ended head (codes "REFUSED " ++ two_numbers (codes "LOGFULL") need room)
reply-ended head (Needed mark) = line-ended head (codes "REFUSED NEEDED " ++ decimal mark)
reply-ended head (NotHeld mark first) = line-ended head (codes "REFUSED " ++ two_numbers (codes "NOTHELD") mark first)
reply-ended head (Phase file name) = line-ended head (codes "REFUSED PHASE " ++ decimal file ++ codes " " ++ phase_text name)
reply-ended head (NoFile file) = line-ended head (codes "REFUSED NOFILE " ++ decimal file)
reply-ended head (Limit file) = line-ended head (codes "REFUSED LIMIT " ++ decimal file)
reply-ended head Memory = line-ended head (codes "REFUSED MEMORY")
