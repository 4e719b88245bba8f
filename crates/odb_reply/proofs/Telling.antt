-- Which replies tell of a commit.
use Rattle.std.proofs.Common.{◌≡◌, ℕ, Option, Some, None, true, false, ◌==◌, List, [], ◌∷◌, ◌++◌, length, flat_map, codes, refl, sym, ap, subst, ◌∙◌, eq-eqb, inl, inr, append_assoc, arith}
use Rattle.std.specs.List.{All}
use Rattle.std.specs.Fmt.{decimal}
use Rattle.std.proofs.lemmas.List.{append_cancel_left}
use Rattle.std.proofs.lemmas.List.Elements.{All-head, All-tail}
use Rattle.odb_values.specs.declared.value.Value.{Value}
use Rattle.odb_model.specs.declared.reply.Head.{Head}
use Rattle.odb_model.specs.declared.reply.Reply.{Reply}
use Rattle.odb_model.specs.declared.reply.Reply.TheVariants.{Okay, Rows, Done, Committed, Ended, InDoubt, Bodies, Gates, Mark, Logged, Turned, Cleaned, Copying, Copied, LogFirst, Opened, State, Character, Text, Number, Syntax, End, Long, Line, NoSession, NotYet, NoTransaction, InTransaction, NoTable, NoBank, NameTaken, NotEmpty, NoCopyLeft, NoNumberLeft, NoShadow, NoBackup, Fixed, NoColumn, KindMismatch, KeyColumn, ColumnCount, Duplicate, NullNotAllowed, TooLong, KeyTooWide, RowTooWide, TooManyWrites, Overflow, Halted, Aged, Conflict, HistoryFull, Full, Fault, NotClean, Held, LogFull, Needed, NotHeld, Phase, NoFile, Limit, Memory}
use Rattle.odb_model.specs.declared.side.OtherSide.{OtherSide}
use Rattle.odb_model.specs.declared.side.OtherSide.TheVariants.{Live, Dirty, Clean}
use Rattle.odb_model.specs.declared.phase.CopyPhase.{CopyPhase}
use Rattle.odb_model.specs.declared.phase.CopyPhase.TheVariants as phase
use Rattle.odb_model.specs.declared.phase.LogSpan.{LogSpan}
use Rattle.odb_model.specs.declared.phase.CopyLine.{CopyLine}
use Rattle.odb_model.specs.declared.phase.StateReply.{StateReply}
use Rattle.odb_model.specs.Print.{line_of, values_text, row_line, refused_line, two_numbers, phase_text, side_text, mark_text, log_words, copy_words, sides_words, state_text, reply_text}
use Rattle.odb_model.specs.Acknowledged.{Acknowledges}
use Rattle.odb_model.proofs.Decimal.{decimal-one, no_lf-decimal}
use Rattle.odb_model.proofs.Told.{Acknowledges-front, Acknowledges-append, Acknowledges-nothing, told_words, other_words, line-ended, lines-ended, head-ended, no_lf-append}
use Rattle.odb_reply.specs.Unbroken.{HasNoLf, IsUnbrokenRow, IsTellable}

-- a line whose words begin with another byte than C tells of no commit
untold : (head : Head) (first : ℕ) (words : List ℕ) (k : ℕ) → (first == 67) ≡ false → HasNoLf (first ∷ words) → Acknowledges (line_of head (first ∷ words)) k → ⊥
untold head first words k other none t =
    other_words first words k (λ same. let is : (first == 67) ≡ true = eq-eqb first 67 same in cc) (told_words head (first ∷ words) k none t)

untold_refusal : (head : Head) (words : List ℕ) (k : ℕ) → HasNoLf words → Acknowledges (refused_line head words) k → ⊥
untold_refusal head words k none t = untold head 82 (codes "EFUSED " ++ words) k refl none t

untold_rows : (head : Head) (n k : ℕ) (rows : List (List Value)) → All IsUnbrokenRow rows → Acknowledges (flat_map (row_line head) rows ++ line_of head (codes "ROWS " ++ decimal n)) k → ⊥
untold_rows head n k [] all t = untold head 82 (codes "OWS " ++ decimal n) k refl (no_lf-decimal n) t
untold_rows head n k (values ∷ rows) all t =
    let words = codes "ROW " ++ values_text values in
    let last = line_of head (codes "ROWS " ++ decimal n) in
    let joined : Acknowledges (row_line head values ++ (flat_map (row_line head) rows ++ last)) k =
    subst (λ (bytes : List ℕ). Acknowledges bytes k) (append_assoc (row_line head values) (flat_map (row_line head) rows) last) t in
    elim (Acknowledges-append (row_line head values) (flat_map (row_line head) rows ++ last) k (line-ended head words) joined) as (λ w. ⊥) [
      | inl here ↦ untold head 82 (codes "OW " ++ values_text values) k refl (All-head IsUnbrokenRow values rows all) here
      | inr there ↦ untold_rows head n k rows (All-tail IsUnbrokenRow values rows all) there
    ]

-- words that begin as those of a commit, but only so far
other_cleaned : (k : ℕ) → codes "CLEANED" ≡ codes "COMMITTED " ++ decimal k → ⊥
other_cleaned k e = cc

third_byte : (third : ℕ) (words : List ℕ) (k : ℕ) → 67 ∷ 79 ∷ third ∷ words ≡ codes "COMMITTED " ++ decimal k → third ≡ 77
third_byte third words k e = cc

other_copying : (words : List ℕ) (k : ℕ) → codes "COP" ++ words ≡ codes "COMMITTED " ++ decimal k → ⊥
other_copying words k e = let same : 80 ≡ 77 = third_byte 80 words k e in omega (arith, same)

-- a name, and two numbers behind it
no_lf-numbers : (name : List ℕ) (a b : ℕ) → HasNoLf name → HasNoLf (two_numbers name a b)
no_lf-numbers name a b none =
    no_lf-append (name ++ codes " " ++ decimal a ++ codes " ") (decimal b)
    (no_lf-append (name ++ codes " " ++ decimal a) (codes " ")
    (no_lf-append (name ++ codes " ") (decimal a) (no_lf-append name (codes " ") none refl) (no_lf-decimal a)) refl)
    (no_lf-decimal b)

no_lf-phase : (p : CopyPhase) → HasNoLf (phase_text p)
no_lf-phase phase.Idle = refl
no_lf-phase phase.Bodies = refl
no_lf-phase phase.Gates = refl
no_lf-phase phase.Source = refl
no_lf-phase phase.Blank = refl
no_lf-phase phase.Filling = refl
no_lf-phase phase.Copied = refl
no_lf-phase phase.Resting = refl
no_lf-phase phase.Out = refl

no_lf-side : (s : OtherSide) → HasNoLf (side_text s)
no_lf-side Live = refl
no_lf-side Dirty = refl
no_lf-side Clean = refl

no_lf-mark : (m : Option ℕ) → HasNoLf (mark_text m)
no_lf-mark None = refl
no_lf-mark (Some mark) = no_lf-decimal mark

-- the words of a line of STATE
no_lf-copy : (c : CopyLine) → HasNoLf (copy_words c)
no_lf-copy c =
    let file = codes "FILE " ++ decimal c.file in
    let bank = file ++ codes " BANK " ++ decimal c.bank in
    let mark = bank ++ codes " MARK " ++ mark_text c.mark in
    no_lf-append (mark ++ codes " ") (phase_text c.phase)
    (no_lf-append mark (codes " ")
    (no_lf-append (bank ++ codes " MARK ") (mark_text c.mark)
    (no_lf-append bank (codes " MARK ")
    (no_lf-append (file ++ codes " BANK ") (decimal c.bank) (no_lf-append file (codes " BANK ") (no_lf-decimal c.file) refl) (no_lf-decimal c.bank)) refl)
    (no_lf-mark c.mark)) refl)
    (no_lf-phase c.phase)

untold_copy : (head : Head) (c : CopyLine) (k : ℕ) → Acknowledges (line_of head (copy_words c)) k → ⊥
untold_copy head c k t =
    untold head 70 (codes "ILE " ++ decimal c.file ++ codes " BANK " ++ decimal c.bank ++ codes " MARK " ++ mark_text c.mark ++ codes " " ++ phase_text c.phase) k refl (no_lf-copy c) t

untold_copies : (head : Head) (copies : List CopyLine) (k : ℕ) → Acknowledges (flat_map (λ c. line_of head (copy_words c)) copies) k → ⊥
untold_copies head [] k t = Acknowledges-nothing k t
untold_copies head (c ∷ copies) k t =
    elim (Acknowledges-append (line_of head (copy_words c)) (flat_map (λ d. line_of head (copy_words d)) copies) k (line-ended head (copy_words c)) t) as (λ w. ⊥) [
      | inl here ↦ untold_copy head c k here
      | inr there ↦ untold_copies head copies k there
    ]

untold_log : (head : Head) (log : Option LogSpan) (k : ℕ) → Acknowledges (line_of head (log_words log)) k → ⊥
untold_log head None k t = untold head 76 (codes "OGDB OUT") k refl refl t
untold_log head (Some span) k t = untold head 76 (two_numbers (codes "OGDB") span.first span.last) k refl (no_lf-numbers (codes "OGDB") span.first span.last refl) t

no_lf-sides : (s : StateReply) → HasNoLf (sides_words s)
no_lf-sides s =
    let active = codes "TRANSDB " ++ decimal s.active in
    no_lf-append (active ++ codes " " ++ side_text s.other ++ codes " ") (decimal s.first)
    (no_lf-append (active ++ codes " " ++ side_text s.other) (codes " ")
    (no_lf-append (active ++ codes " ") (side_text s.other) (no_lf-append active (codes " ") (no_lf-decimal s.active) refl) (no_lf-side s.other)) refl)
    (no_lf-decimal s.first)

untold_sides : (head : Head) (s : StateReply) (k : ℕ) → Acknowledges (line_of head (sides_words s)) k → ⊥
untold_sides head s k t =
    untold head 84 (codes "RANSDB " ++ decimal s.active ++ codes " " ++ side_text s.other ++ codes " " ++ decimal s.first) k refl (no_lf-sides s) t

untold_state : (head : Head) (s : StateReply) (k : ℕ) → Acknowledges (state_text head s) k → ⊥
untold_state head s k t =
    let copies = flat_map (λ c. line_of head (copy_words c)) s.copies in
    let log = line_of head (log_words s.log) in
    let sides = line_of head (sides_words s) in
    let words = codes "NUMBER " ++ decimal s.number in
    let number = line_of head words in
    elim (Acknowledges-append (number ++ sides ++ log) copies k (head-ended head s) t) as (λ w. ⊥) [
      | inl front ↦ elim (Acknowledges-append (number ++ sides) log k (lines-ended head number (sides_words s) (line-ended head words)) front) as (λ w. ⊥) [
        | inl two ↦ elim (Acknowledges-append number sides k (line-ended head words) two) as (λ w. ⊥) [
          | inl here ↦ untold head 78 (codes "UMBER " ++ decimal s.number) k refl (no_lf-decimal s.number) here
          | inr there ↦ untold_sides head s k there
        ]
        | inr there ↦ untold_log head s.log k there
      ]
      | inr there ↦ untold_copies head s.copies k there
    ]

told_reply : (head : Head) (reply : Reply) (k : ℕ) → IsTellable reply → Acknowledges (reply_text head reply) k → reply ≡ Committed k
told_reply head (Committed j) k small t =
    let same : codes "COMMITTED " ++ decimal j ≡ codes "COMMITTED " ++ decimal k = told_words head (codes "COMMITTED " ++ decimal j) k (no_lf-decimal j) t in
    ap Committed (decimal-one j k small (append_cancel_left (codes "COMMITTED ") (decimal j) (decimal k) same))
told_reply head (Rows rows) k all t = absurd (untold_rows head (length rows) k rows all t)
told_reply head Okay k p t = absurd (untold head 79 (codes "K") k refl refl t)
told_reply head (Done n) k p t = absurd (untold head 68 (codes "ONE " ++ decimal n) k refl (no_lf-decimal n) t)
told_reply head (Ended n) k p t = absurd (untold head 69 (codes "NDED " ++ decimal n) k refl (no_lf-decimal n) t)
told_reply head (InDoubt n) k p t = absurd (untold head 73 (codes "NDOUBT " ++ decimal n) k refl (no_lf-decimal n) t)
told_reply head (Bodies file number) k p t = absurd (untold head 66 (two_numbers (codes "ODIES") file number) k refl (no_lf-numbers (codes "ODIES") file number refl) t)
told_reply head (Gates file number) k p t = absurd (untold head 71 (two_numbers (codes "ATES") file number) k refl (no_lf-numbers (codes "ATES") file number refl) t)
told_reply head (Mark file number) k p t = absurd (untold head 77 (two_numbers (codes "ARK") file number) k refl (no_lf-numbers (codes "ARK") file number refl) t)
told_reply head (Turned side first) k p t = absurd (untold head 84 (two_numbers (codes "URNED") side first) k refl (no_lf-numbers (codes "URNED") side first refl) t)
told_reply head (Logged n) k p t = absurd (untold head 76 (codes "OGGED " ++ decimal n) k refl (no_lf-decimal n) t)
told_reply head (LogFirst n) k p t = absurd (untold head 76 (codes "OGFIRST " ++ decimal n) k refl (no_lf-decimal n) t)
told_reply head (Opened n) k p t = absurd (untold head 79 (codes "PENED " ++ decimal n) k refl (no_lf-decimal n) t)
told_reply head (State s) k p t = absurd (untold_state head s k t)
told_reply head Cleaned k p t = absurd (other_cleaned k (told_words head (codes "CLEANED") k refl t))
told_reply head (Copying file left) k p t = absurd (other_copying (codes "YING " ++ decimal file ++ codes " " ++ decimal left) k (told_words head (two_numbers (codes "COPYING") file left) k (no_lf-numbers (codes "COPYING") file left refl) t))
told_reply head (Copied file mark) k p t = absurd (other_copying (codes "IED " ++ decimal file ++ codes " " ++ decimal mark) k (told_words head (two_numbers (codes "COPIED") file mark) k (no_lf-numbers (codes "COPIED") file mark refl) t))
told_reply head (Character n) k p t = absurd (untold_refusal head (codes "CHARACTER " ++ decimal n) k (no_lf-decimal n) t)
told_reply head (Text n) k p t = absurd (untold_refusal head (codes "TEXT " ++ decimal n) k (no_lf-decimal n) t)
told_reply head (Number n) k p t = absurd (untold_refusal head (codes "NUMBER " ++ decimal n) k (no_lf-decimal n) t)
told_reply head (Syntax n) k p t = absurd (untold_refusal head (codes "SYNTAX " ++ decimal n) k (no_lf-decimal n) t)
told_reply head End k p t = absurd (untold_refusal head (codes "END") k refl t)
told_reply head Long k p t = absurd (untold_refusal head (codes "LONG") k refl t)
told_reply head Line k p t = absurd (untold_refusal head (codes "LINE") k refl t)
told_reply head NoSession k p t = absurd (untold_refusal head (codes "NOSESSION") k refl t)
told_reply head NotYet k p t = absurd (untold_refusal head (codes "NOTYET") k refl t)
told_reply head NoTransaction k p t = absurd (untold_refusal head (codes "NOTRANSACTION") k refl t)
told_reply head InTransaction k p t = absurd (untold_refusal head (codes "INTRANSACTION") k refl t)
told_reply head NoTable k p t = absurd (untold_refusal head (codes "NOTABLE") k refl t)
told_reply head NoBank k p t = absurd (untold_refusal head (codes "NOBANK") k refl t)
told_reply head NameTaken k p t = absurd (untold_refusal head (codes "NAMETAKEN") k refl t)
told_reply head NotEmpty k p t = absurd (untold_refusal head (codes "NOTEMPTY") k refl t)
told_reply head NoCopyLeft k p t = absurd (untold_refusal head (codes "NOCOPYLEFT") k refl t)
told_reply head NoShadow k p t = absurd (untold_refusal head (codes "NOSHADOW") k refl t)
told_reply head NoBackup k p t = absurd (untold_refusal head (codes "NOBACKUP") k refl t)
told_reply head NoNumberLeft k p t = absurd (untold_refusal head (codes "NONUMBERLEFT") k refl t)
told_reply head Fixed k p t = absurd (untold_refusal head (codes "FIXED") k refl t)
told_reply head NoColumn k p t = absurd (untold_refusal head (codes "NOCOLUMN") k refl t)
told_reply head KindMismatch k p t = absurd (untold_refusal head (codes "KINDMISMATCH") k refl t)
told_reply head KeyColumn k p t = absurd (untold_refusal head (codes "KEYCOLUMN") k refl t)
told_reply head ColumnCount k p t = absurd (untold_refusal head (codes "COLUMNCOUNT") k refl t)
told_reply head Duplicate k p t = absurd (untold_refusal head (codes "DUPLICATE") k refl t)
told_reply head NullNotAllowed k p t = absurd (untold_refusal head (codes "NULLNOTALLOWED") k refl t)
told_reply head TooLong k p t = absurd (untold_refusal head (codes "TOOLONG") k refl t)
told_reply head KeyTooWide k p t = absurd (untold_refusal head (codes "KEYTOOWIDE") k refl t)
told_reply head RowTooWide k p t = absurd (untold_refusal head (codes "ROWTOOWIDE") k refl t)
told_reply head TooManyWrites k p t = absurd (untold_refusal head (codes "TOOMANYWRITES") k refl t)
told_reply head Overflow k p t = absurd (untold_refusal head (codes "OVERFLOW") k refl t)
told_reply head (Halted n) k p t = absurd (untold_refusal head (codes "HALTED " ++ decimal n) k (no_lf-decimal n) t)
told_reply head (Aged oldest start) k p t =
    absurd (untold_refusal head (codes "AGED " ++ decimal oldest ++ codes " " ++ decimal start) k
    (no_lf-append (codes "AGED " ++ decimal oldest ++ codes " ") (decimal start) (no_lf-append (codes "AGED " ++ decimal oldest) (codes " ") (no_lf-decimal oldest) refl) (no_lf-decimal start)) t)
told_reply head HistoryFull k p t = absurd (untold_refusal head (codes "HISTORYFULL") k refl t)
told_reply head (Conflict n) k p t = absurd (untold_refusal head (codes "CONFLICT " ++ decimal n) k (no_lf-decimal n) t)
told_reply head (Full need room) k p t =
    absurd (untold_refusal head (codes "FULL " ++ decimal need ++ codes " " ++ decimal room) k
    (no_lf-append (codes "FULL " ++ decimal need ++ codes " ") (decimal room) (no_lf-append (codes "FULL " ++ decimal need) (codes " ") (no_lf-decimal need) refl) (no_lf-decimal room)) t)
told_reply head (Fault f) k p t = absurd (untold_refusal head (codes "FAULT " ++ decimal f) k (no_lf-decimal f) t)
told_reply head NotClean k p t = absurd (untold_refusal head (codes "NOTCLEAN") k refl t)
told_reply head (Held mark last) k p t = absurd (untold_refusal head (two_numbers (codes "HELD") mark last) k (no_lf-numbers (codes "HELD") mark last refl) t)
told_reply head (LogFull need room) k p t = absurd (untold_refusal head (two_numbers (codes "LOGFULL") need room) k (no_lf-numbers (codes "LOGFULL") need room refl) t)
told_reply head (NotHeld mark first) k p t = absurd (untold_refusal head (two_numbers (codes "NOTHELD") mark first) k (no_lf-numbers (codes "NOTHELD") mark first refl) t)
told_reply head (Needed n) k p t = absurd (untold_refusal head (codes "NEEDED " ++ decimal n) k (no_lf-decimal n) t)
told_reply head (NoFile n) k p t = absurd (untold_refusal head (codes "NOFILE " ++ decimal n) k (no_lf-decimal n) t)
told_reply head (Limit n) k p t = absurd (untold_refusal head (codes "LIMIT " ++ decimal n) k (no_lf-decimal n) t)
told_reply head (Phase file name) k p t =
    absurd (untold_refusal head (codes "PHASE " ++ decimal file ++ codes " " ++ phase_text name) k
    (no_lf-append (codes "PHASE " ++ decimal file ++ codes " ") (phase_text name) (no_lf-append (codes "PHASE " ++ decimal file) (codes " ") (no_lf-decimal file) refl) (no_lf-phase name)) t)
told_reply head Memory k p t = absurd (untold_refusal head (codes "MEMORY") k refl t)

-- a front of a reply's text tells of no other commit than the reply's own
pub told_front : (head : Head) (reply : Reply) (bytes front rest : List ℕ) (k : ℕ) → IsTellable reply → bytes ≡ reply_text head reply → bytes ≡ front ++ rest → Acknowledges front k → reply ≡ Committed k
told_front head reply bytes front rest k tellable text cut t =
    told_reply head reply k tellable (subst (λ (x : List ℕ). Acknowledges x k) (sym cut ∙ text) (Acknowledges-front front rest k t))
