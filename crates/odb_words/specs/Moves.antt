-- What each step makes of the views of its seats, and what it tells.
use Rattle.std.specs.Prelude.{◌≡◌, ℕ, ◌+◌, List, [], ◌∷◌, ◌++◌, length, true, false, cond}
use Rattle.std.specs.Prelude.{nat_lt, Option, None, Some}
use Rattle.std.specs.FinMap.{empty}
use mathlib.Core.Option.{some}
use Rattle.atomic_table.specs.Table.{Me, Step}
use Rattle.odb_model.specs.declared.entry.Entry.{Entry}
use Rattle.odb_model.specs.State.{IsNumberedFrom}
use Rattle.odb_words.specs.declared.opening.Opening.{Opening}
use Rattle.odb_words.specs.declared.opening.OpenedRows.{OpenedRows}
use Rattle.odb_words.specs.declared.view.Kind.{Kind}
use Rattle.odb_words.specs.declared.view.SeatView.{SeatView}
use Rattle.odb_words.specs.Views.{kind_at, right_at, is_spent}
use Rattle.odb_words.specs.Rule.{Fits}

-- the Book at the start: it has the pen
abbrev pub first_view : Opening → SeatView
first_view key = record {
  kind = Kind.Book;
  number = key.number;
  rows = key.rows;
  list = [];
  pen = true;
  right = None;
  mine = [];
  seen = [];
  came = [];
  there = [];
  made = 1;
}

abbrev pub no_rows : OpenedRows
no_rows = record { marker = record {}; state = empty }

abbrev pub spent : SeatView
spent = record {
  kind = Kind.Spent;
  number = 0;
  rows = no_rows;
  list = [];
  pen = false;
  right = None;
  mine = [];
  seen = [];
  came = [];
  there = [];
  made = 0;
}

-- the Book, with one more seat made
abbrev pub counted : SeatView → SeatView
counted v = record v { made = v.made + 1 }

-- the seat that the Book makes next
abbrev pub made_next : SeatView → SeatView
made_next v = record {
  kind = kind_at v.made;
  number = v.number;
  rows = v.rows;
  list = [];
  pen = false;
  right = right_at v.made;
  mine = [];
  seen = [];
  came = [];
  there = [];
  made = 0;
}

-- a Note of the seat's list
abbrev pub note_of : SeatView → SeatView
note_of v = record {
  kind = Kind.Note;
  number = v.number;
  rows = v.rows;
  list = v.list;
  pen = false;
  right = None;
  mine = [];
  seen = [];
  came = [];
  there = [];
  made = 0;
}

abbrev pub without_pen : SeatView → SeatView
without_pen v = record v { pen = false }

abbrev pub note_with_pen : SeatView → SeatView
note_with_pen v = record (note_of v) { pen = v.pen }

abbrev pub without_right : SeatView → SeatView
without_right v = record v { right = None; mine = [] }

abbrev pub note_with_right : SeatView → SeatView
note_with_right v = record (note_of v) { right = v.right; mine = v.mine }

abbrev pub longer : List Entry → List Entry → List Entry
longer xs ys = cond (nat_lt (length ys) (length xs)) xs ys

abbrev pub shorter : List Entry → List Entry → List Entry
shorter xs ys = cond (nat_lt (length ys) (length xs)) ys xs

abbrev pub either_right : Option ℕ → Option ℕ → Option ℕ
either_right None r = r
either_right (Some s) r = Some s

-- the list of entries that goes with the right
abbrev pub mine_of : Option ℕ → List Entry → List Entry → List Entry
mine_of None xs ys = ys
mine_of (Some s) xs ys = xs

-- v with what the Note w brings: the longer list, the pen and the right. The shorter list is noted
-- as seen
abbrev pub met : SeatView → SeatView → SeatView
met v w = record v {
  list = longer v.list w.list;
  pen = cond v.pen true w.pen;
  right = either_right v.right w.right;
  mine = mine_of v.right v.mine w.mine;
  seen = shorter v.list w.list;
}

-- the same where the seat has the whole list: it keeps its own, and notes the Note's as seen; a
-- list that comes with the pen it keeps beside its own list of this step
abbrev pub heard : SeatView → SeatView → SeatView
heard v w = record v {
  pen = cond v.pen true w.pen;
  right = either_right v.right w.right;
  mine = mine_of v.right v.mine w.mine;
  seen = w.list;
  came = cond w.pen w.list v.came;
  there = cond w.pen v.list v.there;
}

-- what was noted for the next load is told, and given up
abbrev pub settled : SeatView → SeatView
settled v = record v { seen = []; came = []; there = [] }

-- a load of the count tells that the rule holds of the seat's view with some list of the View's
abbrev pub Looked : Step Entry → Me Entry SeatView → ℕ → Me Entry SeatView → Type 0
Looked step before found after =
    (after.0 ≡ settled before.0)
    × (after.1 ≡ before.1)
    × ((log : List Entry) × (made : ℕ) × Fits log made before.0
    × (is_spent before.0.kind ≡ false
    → (found ≡ before.0.number + length log) × IsNumberedFrom (before.0.number + 1) log))

-- the View with an entry behind its list
abbrev pub appended : Entry → SeatView → SeatView
appended e v = record v { list = v.list ++ e ∷ []; mine = v.mine ++ e ∷ [] }

abbrev pub Appended : Step Entry → Me Entry SeatView → ℕ → Me Entry SeatView → Type 0
Appended step before found after =
    (found ≡ step.first)
    × (after.1 ≡ before.1)
    × ((e : Entry) → step.said ≡ some e → after.0 ≡ appended e before.0)
