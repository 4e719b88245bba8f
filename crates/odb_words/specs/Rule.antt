-- The rule of the word, which holds between any two steps: what is true of its count and of what
-- all seats know.
use Rattle.std.specs.Prelude.{◌≡◌, ℕ, ◌+◌, ◌<◌, ◌≤◌, List, [], ◌∷◌, length, true, false, Some}
use mathlib.Core.Option.{some}
use mathlib.Core.List.{IsPrefix}
use lib.ListN.{get_elem?}
use Rattle.atomic_table.specs.Table.{State}
use Rattle.odb_model.specs.declared.entry.Entry.{Entry}
use Rattle.odb_model.specs.State.{IsNumberedFrom}
use Rattle.odb_words.specs.declared.opening.Opening.{Opening}
use Rattle.odb_words.specs.declared.view.Kind.{Kind}
use Rattle.odb_words.specs.declared.view.SeatView.{SeatView}
use Rattle.odb_words.specs.Views.{total, by_session, has_rank, is_view, is_spent, ranks, pens}
use Rattle.odb_words.specs.Views.{rights, below}

-- what is true of one seat's view, where the View's list is log and so many seats were made
pub record Fits (log : List Entry) (made : ℕ) (v : SeatView) : Type 0 where
  -- each list is a prefix of the View's
  pub begins : IsPrefix v.list log
  -- and so is a list that it was shown
  pub shown : IsPrefix v.seen log
  pub whole : is_view v.kind ≡ true → v.list ≡ log
  -- who has the pen has the whole list
  pub writes : v.pen ≡ true → v.list ≡ log
  -- the list that came with the pen is the View's own of that step
  pub equal : v.came ≡ v.there
  -- with the right of a session, `mine` has the entries by it, in its own list and in the View's
  pub own : (s : ℕ) → v.right ≡ Some s
      → (by_session s v.list ≡ v.mine) × (by_session s log ≡ v.mine)
  -- the Book knows how many seats were made
  pub counts : has_rank 0 v.kind ≡ 1 → v.made ≡ made
  -- before the View is made there is none but the Book
  pub alone : made ≤ 1 → v.kind ≡ Kind.Book

-- all but what is spent know how the server was opened
abbrev pub IsOpened : Opening → SeatView → Type 0
IsOpened key v = is_spent v.kind ≡ false → (v.number ≡ key.number) × (v.rows ≡ key.rows)

-- the Book is the first view
abbrev pub HasBookFirst : List SeatView → Type 0
HasBookFirst views = (v : SeatView) × (get_elem? views 0 ≡ some v) × (v.kind ≡ Kind.Book)

pub record IsRuled (key : Opening) (s : State Entry SeatView) : Type 0 where
  -- the View's list; before the View is made it is empty
  pub log : List Entry
  -- how many seats were made, the Book among them
  pub made : ℕ
  pub count : s.words ≡ (key.number + length log) ∷ []
  -- entries stand behind as many as there were when the server was opened
  pub numbered : IsNumberedFrom (key.number + 1) log
  pub fits : (at : ℕ) (v : SeatView) → get_elem? s.views at ≡ some v → Fits log made v
  pub opened : (at : ℕ) (v : SeatView) → get_elem? s.views at ≡ some v → IsOpened key v
  pub first : HasBookFirst s.views
  -- just one of each kind that was made, in the order of ranks, and none that wasn't
  pub once : (r : ℕ) → total (ranks r) s.views ≡ below made r
  -- just one has the pen
  pub pen : total pens s.views ≡ 1
  -- just one has the right of a session whose pass was made, and none that of another
  pub right : (n : ℕ) → 0 < n → total (rights n) s.views ≡ below made (18 + n)
  -- before its pass is made a session has no entry
  pub fresh : (n : ℕ) → 0 < n → made ≤ 18 + n → by_session n log ≡ []
  pub begun : 0 < made
  -- before the View is made there is no entry
  pub unmade : made ≤ 1 → log ≡ []
