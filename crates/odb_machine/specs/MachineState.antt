-- What the machine holds: one history, 64 sessions, and what each file is at.
use Rattle.std.specs.Prelude.{◌≡◌, ◌⊎◌, ℕ, ◌==◌, Bool, false, List, [], ◌∷◌, ◌++◌, Option, Some, None, if◌then◌else◌}
use Rattle.odb_model.specs.declared.entry.Entry.{Entry}
use Rattle.odb_model.specs.Session.{Session, Idle}
use Rattle.odb_machine.specs.Sides.{Sides}
use Rattle.odb_machine.specs.Log.{Log, Absent, Held, Span, first_held}
use Rattle.odb_machine.specs.Copies.{Copy, Choice, with_copy, working_of}
use Rattle.odb_machine.specs.Book.{Book}

-- An entry is in doubt where it isn't known whether its record is on the disk. The format is the
-- database's, 1 or 2; no step changes it. In a sound machine (`HasSoundCopies`) `copies` ascend by file
-- and are those of the dictionary; `doubted` are those that a definition in doubt would leave, none
-- where there is no such. A file is
-- `honest` where all that it holds is known to come from the history; file 1 is LOGDB. `may_lag` tells
-- that a DROPLOG or a CLEAN was broken off since the files were opened, so that a first number on the
-- disk may be lower than the one here. `may_turn` tells that a TURN was, and none was done since, so
-- that the sides on the disk may be those that it would have made
pub record Machine : Type 0 where
  pub history : List Entry
  pub sessions : ℕ → Session
  pub sides : Sides
  pub in_doubt : Option Entry
  pub format : ℕ
  pub copies : List Copy
  pub doubted : List Copy
  pub log : Log
  pub choices : List Choice
  pub honest : ℕ → Bool
  pub may_lag : Bool
  pub may_turn : Bool

-- The machine that begins with a history in a database of this format: all sessions are idle. Of its
-- files TRANSDB alone is known; that of all of them is `IsFirstMachine`
abbrev pub first_machine : ℕ → Sides → List Entry → Machine
first_machine format sides h = record {
  history = h;
  sessions = λ _. Idle;
  sides = sides;
  in_doubt = None;
  format = format;
  copies = [];
  doubted = [];
  log = Absent;
  choices = [];
  honest = λ _. false;
  may_lag = false;
  may_turn = false;
}

abbrev pub with_session : Machine → ℕ → Session → Machine
with_session m s t = record m { sessions = λ q. if q == s then t else m.sessions q }

-- the part of the machine that a commit is judged by
abbrev pub book_of : Machine → Book
book_of m = record { history = m.history; sides = m.sides; in_doubt = m.in_doubt }

abbrev pub with_book : Machine → Book → Machine
with_book m b = record m { history = b.history; sides = b.sides; in_doubt = b.in_doubt }

-- the history, and the entry in doubt where there is one
abbrev pub with_doubt : List Entry → Option Entry → List Entry
with_doubt h None = h
with_doubt h (Some e) = h ++ e ∷ []

abbrev pub history_or_more : Machine → List Entry
history_or_more m = with_doubt m.history m.in_doubt

-- of an entry in doubt an opening finds that it is there, or that it isn't
abbrev pub IsSettled : Machine → Option Entry → List Entry → Type 0
IsSettled m None h = h ≡ m.history
IsSettled m (Some e) h = (h ≡ m.history) ⊎ (h ≡ m.history ++ e ∷ [])

-- the copies as they are, and as a definition in doubt would leave them
abbrev pub copies_asked : Machine → List Copy
copies_asked m = m.copies ++ m.doubted

-- with this copy in the place of that of its file
abbrev pub put_copy : Machine → Copy → Machine
put_copy m c = record m { copies = with_copy c m.copies }

abbrev pub with_honest : Machine → ℕ → Bool → Machine
with_honest m file honest = record m { honest = λ q. if q == file then honest else m.honest q }

abbrev pub with_sides : Machine → Sides → Machine
with_sides m sides = record m { sides = sides }

-- with a LOGDB that holds these entries
abbrev pub with_log : Machine → Span → Machine
with_log m span = record m { log = Held span }

-- the number of the first entry that LOGDB and TRANSDB hold together
abbrev pub held_from : Machine → ℕ
held_from m = first_held m.log m.sides

-- the working master of a databank
abbrev pub master_for : Machine → ℕ → Option Copy
master_for m bank = working_of m.choices m.copies bank
