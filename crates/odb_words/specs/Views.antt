-- What a seat knows of the history, and how often something stands in the views of all seats.
use Rattle.std.specs.Prelude.{ℕ, ◌+◌, ◌-◌, List, [], ◌∷◌, Bool, true, false, cond, ◌==◌, nat_lt}
use Rattle.std.specs.Prelude.{Option, None, Some}
use Rattle.odb_model.specs.declared.entry.Entry.{Entry}
use Rattle.odb_words.specs.declared.view.Kind.{Kind}
use Rattle.odb_words.specs.declared.view.SeatView.{SeatView}

-- the sum of f over a list
abbrev pub total : {A : Type 0} → (A → ℕ) → List A → ℕ
total f [] = 0
total f (x ∷ xs) = f x + total f xs

-- the entries by a session, in their order
abbrev pub by_session : ℕ → List Entry → List Entry
by_session s [] = []
by_session s (e ∷ es) = cond (e.by == s) (e ∷ by_session s es) (by_session s es)

-- Seats are made in this order: the Book, the View, 17 Copies, 64 Passes. So each has a rank, from
-- 0; a Note and what is spent have none. This is 1 where the kind has the rank, and else 0.
abbrev pub has_rank : ℕ → Kind → ℕ
has_rank r Kind.Book = cond (0 == r) 1 0
has_rank r Kind.View = cond (1 == r) 1 0
has_rank r (Kind.Copy i) = cond (2 + i == r) 1 0
has_rank r (Kind.Pass s) = cond (18 + s == r) 1 0
has_rank r Kind.Note = 0
has_rank r Kind.Spent = 0

-- the kind of a rank above 0
abbrev pub kind_at : ℕ → Kind
kind_at n =
    cond (nat_lt n 2) Kind.View (cond (nat_lt n 19) (Kind.Copy (n - 2)) (Kind.Pass (n - 18)))

-- the session whose right the seat of a rank above 0 gets
abbrev pub right_at : ℕ → Option ℕ
right_at n = cond (nat_lt n 19) None (Some (n - 18))

abbrev pub is_view : Kind → Bool
is_view Kind.Book = false
is_view Kind.View = true
is_view (Kind.Copy i) = false
is_view (Kind.Pass s) = false
is_view Kind.Note = false
is_view Kind.Spent = false

abbrev pub is_copy : Kind → Bool
is_copy Kind.Book = false
is_copy Kind.View = false
is_copy (Kind.Copy i) = true
is_copy (Kind.Pass s) = false
is_copy Kind.Note = false
is_copy Kind.Spent = false

abbrev pub is_spent : Kind → Bool
is_spent Kind.Book = false
is_spent Kind.View = false
is_spent (Kind.Copy i) = false
is_spent (Kind.Pass s) = false
is_spent Kind.Note = false
is_spent Kind.Spent = true

abbrev pub is_for : ℕ → Option ℕ → ℕ
is_for s None = 0
is_for s (Some t) = cond (t == s) 1 0

abbrev pub ranks : ℕ → SeatView → ℕ
ranks r v = has_rank r v.kind

-- 1 where the seat has the pen
abbrev pub pens : SeatView → ℕ
pens v = cond v.pen 1 0

-- 1 where the seat has the right of the session
abbrev pub rights : ℕ → SeatView → ℕ
rights s v = is_for s v.right

-- 1 where the seat of the rank was made
abbrev pub below : ℕ → ℕ → ℕ
below made r = cond (nat_lt r made) 1 0

-- whether the seat's list must be the whole one: the View's is, and that of who has the pen
abbrev pub has_all : SeatView → Bool
has_all v = cond (is_view v.kind) true v.pen
