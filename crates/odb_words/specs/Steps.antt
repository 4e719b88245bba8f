-- What the rule says, and that each kind of step keeps it.
use Rattle.std.specs.Prelude.{◌≡◌, ℕ, ◌+◌, ◌-◌, ◌<◌, ◌≤◌, [], ◌∷◌, length, true, false, Some}
use Rattle.std.specs.Prelude.{◌==◌}
use mathlib.Core.Option.{some}
use mathlib.Core.List.{IsPrefix}
use lib.ListN.{get_elem?}
use prog.Atomic.{either}
use Rattle.atomic_table.specs.Table.{State, Me, Step, step, opening, Allows, Splits, Joins}
use Rattle.odb_model.specs.declared.entry.Entry.{Entry}
use Rattle.odb_model.specs.State.{IsNumberedFrom}
use Rattle.odb_words.specs.declared.opening.Opening.{Opening}
use Rattle.odb_words.specs.declared.view.Kind.{Kind}
use Rattle.odb_words.specs.declared.view.SeatView.{SeatView}
use Rattle.odb_words.specs.Views.{is_view, is_spent, has_all, has_rank, pens, rights, by_session}
use Rattle.odb_words.specs.Rule.{IsRuled}
use Rattle.odb_words.specs.Moves.{Looked, Appended, first_view, spent, counted, made_next, note_of}
use Rattle.odb_words.specs.Moves.{without_pen, note_with_pen, without_right, note_with_right}
use Rattle.odb_words.specs.Moves.{met, heard}

-- it holds of a new word
abbrev pub Starts : Type 0
Starts = (key : Opening) → IsRuled key (opening (key.number ∷ []) [] (first_view key))

-- any seat loads the count
abbrev pub LoadKeeps : Type 0
LoadKeeps = (key : Opening) (slots id : ℕ) (me : Me Entry SeatView) (st : Step Entry)
    → Allows (IsRuled key) slots id me 0 (λ n. n) (Looked st me)

-- the View appends an entry, with the pen and the right of the entry's session
abbrev pub AppendKeeps : Type 0
AppendKeeps = (key : Opening) (slots id : ℕ) (me : Me Entry SeatView) (n : ℕ) (e : Entry)
    → is_view me.0.kind ≡ true → me.0.pen ≡ true → me.0.right ≡ Some e.by → 0 < e.by
    → n ≡ me.0.number + length me.0.list + 1 → e.number ≡ n
    → Allows (IsRuled key) slots id me 0 (λ k. either (k == n - 1) n k)
    (Appended (step slots 0 (n - 1) n (some e)) me)

-- a seat gives a Note of its list, alone, with the pen or with the right
abbrev pub SplitKeeps : Type 0
SplitKeeps = (key : Opening) (id : ℕ) (v : SeatView)
    → is_spent v.kind ≡ false → (v.kind ≡ Kind.Book → 1 < v.made)
    → Splits (IsRuled key) id v v (note_of v)
    × Splits (IsRuled key) id v (without_pen v) (note_with_pen v)
    × Splits (IsRuled key) id v (without_right v) (note_with_right v)

-- the Book makes the next seat
abbrev pub MakeKeeps : Type 0
MakeKeeps = (key : Opening) (id : ℕ) (v : SeatView)
    → v.kind ≡ Kind.Book → Splits (IsRuled key) id v (counted v) (made_next v)

-- a seat other than the View takes a Note in, which brings the pen or a right only where the seat
-- has none
abbrev pub JoinKeeps : Type 0
JoinKeeps = (key : Opening) (id : ℕ) (v : SeatView) (other : ℕ) (w : SeatView)
    → is_spent v.kind ≡ false → is_view v.kind ≡ false → w.kind ≡ Kind.Note
    → pens (met v w) ≡ pens v + pens w
    → ((t : ℕ) → rights t (met v w) ≡ rights t v + rights t w)
    → Joins (IsRuled key) id v other w (met v w) spent

-- so does a seat that has the whole list, and keeps its own
abbrev pub HearKeeps : Type 0
HearKeeps = (key : Opening) (id : ℕ) (v : SeatView) (other : ℕ) (w : SeatView)
    → is_spent v.kind ≡ false → has_all v ≡ true → w.kind ≡ Kind.Note
    → pens (heard v w) ≡ pens v + pens w
    → ((t : ℕ) → rights t (heard v w) ≡ rights t v + rights t w)
    → Joins (IsRuled key) id v other w (heard v w) spent

-- two seats with the pen are one
abbrev pub OnePen : Type 0
OnePen = (key : Opening) (s : State Entry SeatView) → IsRuled key s
    → (i j : ℕ) (v w : SeatView) → get_elem? s.views i ≡ some v → get_elem? s.views j ≡ some w
    → v.pen ≡ true → w.pen ≡ true → i ≡ j

-- two seats with the right of one session are one
abbrev pub OneRight : Type 0
OneRight = (key : Opening) (s : State Entry SeatView) → IsRuled key s → (n : ℕ) → 0 < n
    → (i j : ℕ) (v w : SeatView) → get_elem? s.views i ≡ some v → get_elem? s.views j ≡ some w
    → v.right ≡ Some n → w.right ≡ Some n → i ≡ j

-- two seats of one rank are one: there is at most one Book, one View, one Copy of each number, and
-- one Pass of each session
abbrev pub OneOfEach : Type 0
OneOfEach = (key : Opening) (s : State Entry SeatView) → IsRuled key s
    → (rank i j : ℕ) (v w : SeatView)
    → get_elem? s.views i ≡ some v → get_elem? s.views j ≡ some w
    → has_rank rank v.kind ≡ 1 → has_rank rank w.kind ≡ 1 → i ≡ j

-- the word counts the View's list, each list is a prefix of it, with the pen it is that list, and
-- with the right of a session it has all entries by that session
abbrev pub ViewRules : Type 0
ViewRules = (key : Opening) (s : State Entry SeatView) → IsRuled key s
    → (i j : ℕ) (v w : SeatView)
    → get_elem? s.views i ≡ some v → is_view v.kind ≡ true → get_elem? s.views j ≡ some w
    → (s.words ≡ (key.number + length v.list) ∷ [])
    × IsPrefix w.list v.list
    × (w.pen ≡ true → w.list ≡ v.list)
    × ((n : ℕ) → w.right ≡ Some n → by_session n w.list ≡ by_session n v.list)

-- all but what is spent know one opening
abbrev pub OneOpening : Type 0
OneOpening = (key : Opening) (s : State Entry SeatView) → IsRuled key s
    → (i : ℕ) (v : SeatView) → get_elem? s.views i ≡ some v → is_spent v.kind ≡ false
    → (v.number ≡ key.number) × (v.rows ≡ key.rows)

-- the entries of each list are numbered on from the opening
abbrev pub ListsNumbered : Type 0
ListsNumbered = (key : Opening) (s : State Entry SeatView) → IsRuled key s
    → (i : ℕ) (v : SeatView) → get_elem? s.views i ≡ some v
    → IsNumberedFrom (key.number + 1) v.list

-- while the Book has made no seat it is the only one, its list is empty, and the count is that of
-- the opening
abbrev pub BookAlone : Type 0
BookAlone = (key : Opening) (s : State Entry SeatView) (r : IsRuled key s) → r.made ≤ 1
    → (i : ℕ) (v : SeatView) → get_elem? s.views i ≡ some v
    → (i ≡ 0) × (v.kind ≡ Kind.Book) × (v.list ≡ []) × (s.words ≡ key.number ∷ [])
