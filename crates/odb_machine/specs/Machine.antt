-- The steps of the machine: a relation by cases on the event and the reply. What the machine holds is
-- told in `MachineState`.
use Rattle.std.specs.Prelude.{◌≡◌, ℕ, Bool, true, false, List, [], ◌∷◌, ◌++◌, length, if◌then◌else◌}
use Rattle.odb_model.specs.declared.write.Write.{Write}
use Rattle.odb_model.specs.declared.event.Event.{Event}
use Rattle.odb_model.specs.declared.event.Event.TheVariants.{Session as OfSession, Control}
use Rattle.odb_model.specs.declared.control.Control.{Control as ControlLine}
use Rattle.odb_model.specs.declared.control.Control.TheVariants as control
use Rattle.odb_model.specs.declared.reply.Reply.{Reply}
use Rattle.odb_model.specs.declared.reply.Reply.TheVariants.{Okay, NotYet, NoTransaction, InTransaction, Memory}
use Rattle.odb_model.specs.declared.statement.Statement.{Statement}
use Rattle.odb_model.specs.declared.statement.Statement.TheVariants.{Start, Commit, Rollback, Select, Insert, Update, Delete, CreateTable, DropTable}
use Rattle.odb_model.specs.Transaction.{Executed, open_reply, write_set_of}
use Rattle.odb_model.specs.Session.{Session, Idle, Working}
use Rattle.odb_machine.specs.Book.{Book, Seen, verdict, Decides, Defines, ends_transaction}
pub use Rattle.odb_machine.specs.MachineState.{Machine, first_machine, with_session, book_of, with_book, with_doubt, history_or_more}
use Rattle.odb_machine.specs.Controls.{Controls}

-- the write set of a transaction
abbrev pub writes_made : Machine → List Executed → List Write
writes_made m t = write_set_of m.history t m.format

-- the statement with the reply that it gets now
abbrev pub executed_now : Machine → Statement → List Executed → Executed
executed_now m st t = record {
  statement = st;
  reply = open_reply st (length m.history) (writes_made m t) m.history m.format;
  snapshot = length m.history;
}

-- START
abbrev pub Starts : Machine → ℕ → Session → Reply → Machine → Type 0
Starts m s Idle Okay after = after ≡ with_session m s (Working [])
Starts m s (Working t) InTransaction after = after ≡ m
Starts m s session Memory after = after ≡ m
Starts m s session reply after = ⊥

-- a statement on rows: SELECT, INSERT, UPDATE or DELETE
abbrev pub Executes : Machine → ℕ → Statement → Session → Reply → Machine → Type 0
Executes m s st session Memory after = after ≡ m
Executes m s st Idle NoTransaction after = after ≡ m
Executes m s st Idle reply after = ⊥
Executes m s st (Working t) reply after =
    (reply ≡ (executed_now m st t).reply)
    × (after ≡ with_session m s (Working (t ++ executed_now m st t ∷ [])))

-- the machine with this book behind the reply to a COMMIT
abbrev pub behind : Machine → ℕ → Reply → Book → Machine
behind m s reply b =
    if ends_transaction reply then with_session (with_book m b) s Idle else with_book m b

-- COMMIT
abbrev pub Commits : Machine → ℕ → Seen → Session → Reply → Machine → Type 0
Commits m s seen session Memory after = after ≡ m
Commits m s seen Idle NoTransaction after = after ≡ m
Commits m s seen Idle reply after = ⊥
Commits m s seen (Working t) reply after =
    (b : Book) × Decides (book_of m) seen s (verdict (book_of m) t m.format) reply b
    × (after ≡ behind m s reply b)

-- ROLLBACK, which takes no memory: what the transaction wrote is dropped, and the history stays
abbrev pub RollsBack : Machine → ℕ → Session → Reply → Machine → Type 0
RollsBack m s Idle NoTransaction after = after ≡ m
RollsBack m s Idle reply after = ⊥
RollsBack m s (Working t) Okay after = after ≡ with_session m s Idle
RollsBack m s (Working t) reply after = ⊥

-- A definition of a table, CREATE TABLE or DROP TABLE, which is one commit step. In a transaction it is
-- refused before all else; no session changes. Those that work on copies are `Arranges`
abbrev pub DefinesIn : Machine → ℕ → Seen → Statement → Session → Reply → Machine → Type 0
DefinesIn m s seen st session Memory after = after ≡ m
DefinesIn m s seen st (Working t) InTransaction after = after ≡ m
DefinesIn m s seen st (Working t) reply after = ⊥
DefinesIn m s seen st Idle reply after =
    (b : Book) × Defines (book_of m) seen s st reply b × (after ≡ with_book m b)

-- A definition that isn't built, as none is that works on copies: it is refused by its form alone,
-- whatever the session is in
abbrev pub Refuses : Machine → Reply → Machine → Type 0
Refuses m NotYet after = after ≡ m
Refuses m Memory after = after ≡ m
Refuses m reply after = ⊥

-- a statement of a session
abbrev pub StatementStep : Machine → ℕ → Seen → Statement → Reply → Machine → Type 0
StatementStep m s seen Start reply after = Starts m s (m.sessions s) reply after
StatementStep m s seen Commit reply after = Commits m s seen (m.sessions s) reply after
StatementStep m s seen Rollback reply after = RollsBack m s (m.sessions s) reply after
StatementStep m s seen (Select what table filter) reply after =
    Executes m s (Select what table filter) (m.sessions s) reply after
StatementStep m s seen (Insert table tuples) reply after =
    Executes m s (Insert table tuples) (m.sessions s) reply after
StatementStep m s seen (Update table sets filter) reply after =
    Executes m s (Update table sets filter) (m.sessions s) reply after
StatementStep m s seen (Delete table filter) reply after =
    Executes m s (Delete table filter) (m.sessions s) reply after
StatementStep m s seen (CreateTable name columns key bank) reply after =
    DefinesIn m s seen (CreateTable name columns key bank) (m.sessions s) reply after
StatementStep m s seen (DropTable name) reply after =
    DefinesIn m s seen (DropTable name) (m.sessions s) reply after
StatementStep m s seen other reply after = Refuses m reply after

-- Whether a control line is built. TURN and STATE are yet: any other is answered NOTYET, whatever the
-- machine is at
abbrev pub is_built : ControlLine → Bool
is_built control.Turn = true
is_built control.State = true
is_built line = false

-- a line that isn't built
abbrev pub UpkeepStep : Machine → Reply → Machine → Type 0
UpkeepStep m NotYet after = after ≡ m
UpkeepStep m reply after = ⊥

-- a control line, built or not
abbrev pub ControlStep :
    Bool → Machine → Seen → ControlLine → Reply → Machine → Type 0
ControlStep true m seen line reply after = Controls m seen line reply after
ControlStep false m seen line reply after = UpkeepStep m reply after

-- From m, an event in whose step this was seen may get this reply, and then leads to `after`
abbrev pub Step : Machine → Event → Seen → Reply → Machine → Type 0
Step m (OfSession s st) seen reply after = StatementStep m s seen st reply after
Step m (Control line) seen reply after =
    ControlStep (is_built line) m seen line reply after
