-- What the types of the seats keep between calls, and what contracts see of a seat.
use Rattle.std.specs.Prelude.{◌≡◌, ℕ, ◌<◌, List, [], true, false, Some, None}
use Rattle.atomic_table.specs.Seated.{TableId}
use Rattle.atomic_table.specs.declared.shared.Seat.{Seat}
use Rattle.odb_model.specs.declared.entry.Entry.{Entry}
use Rattle.odb_model.specs.State.{State, replay_from}
use Rattle.odb_words.specs.declared.opening.Opening.{Opening}
use Rattle.odb_words.specs.declared.opening.OpenedRows.{OpenedRows}
use Rattle.odb_words.specs.declared.view.Kind.{Kind}
use Rattle.odb_words.specs.declared.view.SeatView.{SeatView}
use Rattle.odb_words.specs.Views.{by_session, is_copy, is_spent}

-- the name of a word: which table it lies in, and how the server was opened
abbrev pub Name : Type 0
Name = TableId × (ℕ × OpenedRows)

abbrev pub named : TableId → Opening → Name
named table opening = (table, (opening.number, opening.rows))

-- the name of the word that a seat was made with
abbrev pub name_of : Seat Entry SeatView → Name
name_of s = (s.table_id, (s.me.0.number, s.me.0.rows))

-- the entries that a seat has seen, which stand behind those that were there at the opening
abbrev pub list_of : Seat Entry SeatView → List Entry
list_of s = s.me.0.list

-- the number of entries at the opening
abbrev pub number_of : Seat Entry SeatView → ℕ
number_of s = s.me.0.number

-- the state at the opening
abbrev pub opened_state : Seat Entry SeatView → State
opened_state s = s.me.0.rows.state

-- the state after the seat's history: the opened one, changed by its list
abbrev pub state_of : Seat Entry SeatView → State
state_of s = replay_from (opened_state s) (list_of s)

pub record IsSeat (table : TableId) (s : Seat Entry SeatView) : Type 0 where
  pub table_id : s.table_id ≡ table
  pub words : 0 < table.words
  pub empty : s.me.1 ≡ []
  pub live : is_spent s.me.0.kind ≡ false

pub record IsNote (v : SeatView) : Type 0 where
  pub kind : v.kind ≡ Kind.Note
  pub pen : v.pen ≡ false
  pub right : v.right ≡ None

-- the Book has the pen
pub record IsBook (v : SeatView) : Type 0 where
  pub kind : v.kind ≡ Kind.Book
  pub pen : v.pen ≡ true
  pub right : v.right ≡ None

pub record IsView (v : SeatView) : Type 0 where
  pub kind : v.kind ≡ Kind.View
  pub pen : v.pen ≡ false
  pub right : v.right ≡ None

pub record IsCopy (v : SeatView) : Type 0 where
  pub kind : is_copy v.kind ≡ true
  pub pen : v.pen ≡ false
  pub right : v.right ≡ None

-- a Pass has the right of its session
pub record IsPass (session : ℕ) (v : SeatView) : Type 0 where
  pub kind : v.kind ≡ Kind.Pass session
  pub pen : v.pen ≡ false
  pub right : v.right ≡ Some session
  pub named : 0 < session
  pub own : by_session session v.list ≡ v.mine

-- the Book, while it makes the seat of a rank
pub record IsMaking (rank : ℕ) (v : SeatView) : Type 0 where
  pub book : IsBook v
  pub list : v.list ≡ []
  pub made : v.made ≡ rank
