-- What a system holds, how its calls change it, and which machine it stands for.
use Rattle.std.specs.Prelude.{◌≡◌, ℕ, ◌+◌, ◌-◌, ◌≤◌, ◌==◌, Bool, true, false, drop, List, [], length, Option, Some, None, Result, Ok, Err, slice_get, slice_set, unwrap_or, refl, ⊤, if◌then◌else◌}
use Rattle.std.specs.List.{All}
use Rattle.std.specs.Coded.{Coded, code_by, coded×, coded_list, coded_option}
use Rattle.std.specs.FinMap.{code}
use Rattle.odb_values.specs.contracts.value.Value as cell
use Rattle.odb_model.specs.contracts.table_key.TableKey as table_key
use Rattle.odb_txn.specs.contracts.transaction.Transaction as transaction
use Rattle.odb_commit.specs.contracts.book.Book as book
use Rattle.odb_device.specs.World.{World}
use Rattle.odb_model.specs.declared.numbers.TheConstants.{SESSIONS}
use Rattle.odb_model.specs.declared.entry.Entry.{Entry}
use Rattle.odb_model.specs.declared.event.Event.{Event}
use Rattle.odb_model.specs.declared.event.Event.TheVariants.{Session as OfSession, Control}
use Rattle.odb_model.specs.declared.control.Control.{Control as ControlLine}
use Rattle.odb_model.specs.declared.control.Control.TheVariants as line
use Rattle.odb_model.specs.declared.phase.StateReply.{StateReply}
use Rattle.odb_model.specs.declared.reply.Reply.{Reply}
use Rattle.odb_model.specs.declared.reply.Reply.TheVariants.{Okay, Committed, Ended, InDoubt, Halted, Aged, Conflict, HistoryFull, Full, NoTransaction, InTransaction, Fault, Turned, State as TellsState, NotClean, Memory, NotYet}
use Rattle.odb_model.specs.declared.statement.Statement.{Statement}
use Rattle.odb_model.specs.declared.statement.Statement.TheVariants.{Start, Commit, Rollback, Select, Insert, Update, Delete, CreateTable, DropTable}
use Rattle.odb_model.specs.State.{State, IsHistory, after_writes, replay}
use Rattle.odb_model.specs.Meaning.{Meaning}
use Rattle.odb_model.specs.Definitions.{IsSpelled, Planned, Refused, Plans, planned}
use Rattle.odb_model.specs.Script.{IsSession}
use Rattle.odb_machine.specs.Readings.{nothing_told}
use Rattle.odb_machine.specs.Log.{Absent}
use Rattle.odb_machine.specs.Book.{Seen, ends_transaction, most_entries}
use Rattle.odb_machine.specs.Machine.{Machine, book_of, Step}
use Rattle.odb_model.specs.Storable.{HasKeys}
use Rattle.odb_model.specs.Width.{records_width}
use Rattle.odb_machine.specs.Answered.{AnsweredFromSnapshots}
use Rattle.odb_codec.specs.Image.{entry_image}
use Rattle.odb_transdb.specs.declared.error.TransdbError.{TransdbError}
use Rattle.odb_transdb.specs.declared.error.TransdbError.TheVariants as of_log
use Rattle.odb_transdb.specs.Header.{first_held, active_first}
use Rattle.odb_transdb.specs.Standing.{Db, IsPlaced}
use Rattle.odb_txn.specs.Transaction.{Kept, nothing_kept}
use Rattle.odb_commit.specs.declared.error.CommitError.{CommitError}
use Rattle.odb_commit.specs.declared.error.CommitError.TheVariants as e
use Rattle.odb_commit.specs.Parts.{Parts, count, IsAligned, Preparation, Refuses, Ends, ToSeal, prepared, entry_after, sealing_of}
use Rattle.odb_commit.specs.Sealing.{IsSealed, SealsLog}
use Rattle.odb_commit.specs.Turned.{TurnsLog}
use Rattle.odb_commit.specs.Standing.{StandsFor as BookStandsFor}
use Rattle.odb_system.specs.Open.{meaning_on, grown_on, IsOpen, Shows}

-- a book, session s at place s - 1, and the rows that the history makes. The history isn't held: of
-- its entries there are those of the book's window, and their count
pub record Held : Type 0 where
  pub book : Parts
  pub sessions : List (Option Kept)
  pub rows : State

-- the code by which a proof tells what is held apart
abbrev pub held_code : Coded Held
held_code =
    code_by ((Parts × List (Option Kept)) × State)
    (coded× (coded× book.the_row.coded (coded_list (coded_option transaction.the_row.coded)))
    (code table_key.the_row.coded (coded_list cell.the_row.coded)))
    (λ h. ((h.book, h.sessions), h.rows))
    (λ p. record { book = p.0.0; sessions = p.0.1; rows = p.1 }) (λ _. refl)

-- of a book it isn't told whether a place is reserved
abbrev pub without_place : Parts → Parts
without_place b = record b { window = record b.window { is_reserved = false } }

-- The log holds just this history: the entries from 1 on, and its next record is the next entry's.
-- The records of those on the active side fill it up to the place of the next
pub record Begins (db : Db) (h : List Entry) : Type 0 where
  pub numbered : IsHistory h
  pub first : first_held db.header ≡ 1
  pub next : length h + 1 ≡ db.active.next
  pub filled :
      records_width (drop (active_first db.header - 1) h) ≡ db.active.place - db.active.start
  pub usable : db.active.in_doubt ≡ false
  pub placed : IsPlaced db

-- what a system holds meets this always
pub record IsHeld (held : Held) : Type 0 where
  pub few : count held.book ≤ most_entries
  pub count : length held.sessions ≡ SESSIONS
  pub aligned : IsAligned held.book
  pub first : first_held held.book.transdb.header ≡ 1
  pub keyed : HasKeys held.rows
  pub each : All IsOpen held.sessions

-- a session that is idle
abbrev pub none_open : Option Kept
none_open = None

abbrev pub session_at : Held → ℕ → Option Kept
session_at held at = unwrap_or (slice_get held.sessions at) None

abbrev pub with_open : Held → ℕ → Option Kept → Held
with_open held at t = record held { sessions = slice_set held.sessions at t }

-- the format of the database
abbrev pub format_in : Held → ℕ
format_in held = held.book.transdb.header.format

-- what a statement means in an open transaction
abbrev pub meaning_in : Held → Statement → Kept → Meaning
meaning_in held st t = meaning_on held.rows st t (format_in held)

-- the transaction after a statement
abbrev pub grown : Held → Statement → Kept → Kept
grown held st t = grown_on held.rows st t (count held.book) (format_in held)

-- a step that makes no call of the host, and after which the system is so
abbrev pub ComesTo : Held → Held → World → World → Type 0
ComesTo is after old new = (after ≡ is) × (new ≡ old)

abbrev pub HeldStarts : Held → ℕ → Option Kept → Reply → Held → World → World → Type 0
HeldStarts held at None Okay after old new =
    ComesTo (with_open held at (Some (nothing_kept (at + 1)))) after old new
HeldStarts held at (Some t) InTransaction after old new = ComesTo held after old new
HeldStarts held at t reply after old new = ⊥

abbrev pub HeldRollsBack : Held → ℕ → Option Kept → Reply → Held → World → World → Type 0
HeldRollsBack held at None NoTransaction after old new = ComesTo held after old new
HeldRollsBack held at (Some t) Okay after old new = ComesTo (with_open held at None) after old new
HeldRollsBack held at t reply after old new = ⊥

abbrev pub HeldExecutes :
    Held → ℕ → Statement → Option Kept → Reply → Held → World → World → Type 0
HeldExecutes held at st t Memory after old new = ComesTo held after old new
HeldExecutes held at st None NoTransaction after old new = ComesTo held after old new
HeldExecutes held at st None reply after old new = ⊥
HeldExecutes held at st (Some t) reply after old new =
    (reply ≡ (meaning_in held st t).reply)
    × ComesTo (with_open held at (Some (grown held st t))) after old new

-- what the book's answer to a commit is told as
abbrev pub reply_of : CommitError → Reply
reply_of (e.Halted number) = Halted number
reply_of (e.Aged oldest start) = Aged oldest start
reply_of (e.Conflict number) = Conflict number
reply_of (e.Full need room) = Full need room
reply_of e.FaultBefore = Fault 0
reply_of (e.InDoubt number) = InDoubt number
reply_of e.HistoryFull = HistoryFull
reply_of e.NoMemory = Memory

abbrev pub sealing_reply : Result ℕ CommitError → Reply
sealing_reply (Ok number) = Committed number
sealing_reply (Err error) = reply_of error

-- the rows, with those of an entry where it was sealed
abbrev pub rows_sealed : Result ℕ CommitError → State → Entry → State
rows_sealed (Ok number) rows entry = after_writes rows entry.writes
rows_sealed (Err error) rows entry = rows

-- no entry is in doubt, and the log takes records behind entries from 1 on
pub record TakesRecords (b : Parts) : Type 0 where
  pub settled : b.halted ≡ None
  pub first : first_held b.transdb.header ≡ 1
  pub usable : b.transdb.active.in_doubt ≡ false

-- An entry was sealed with this result: its record was forced, in a log that takes records, and the
-- book and the rows have it, or not. The sessions are told of beside this. Where the pair is unsettled
-- it is settled first
pub record HeldSeals
    (held : Held) (entry : Entry) (result : Result ℕ CommitError) (after : Held) (old new : World) :
    Type 0 where
  pub log : TakesRecords held.book
  pub sealed : IsSealed entry result held.book after.book
  pub seals :
      SealsLog entry (entry_image entry) result held.book.transdb after.book.transdb old new
  pub rows : after.rows ≡ rows_sealed result held.rows entry

-- all but the sessions is as before, and no call of the host was made
pub record StaysBook (held after : Held) (old new : World) : Type 0 where
  pub book : after.book ≡ held.book
  pub rows : after.rows ≡ held.rows
  pub still : new ≡ old

-- what was prepared is carried out, with this reply
abbrev pub CarriesOut : Held → Preparation → Reply → Held → World → World → Type 0
CarriesOut held (Refuses why) reply after old new =
    (reply ≡ reply_of why) × StaysBook held after old new
CarriesOut held (Ends number) reply after old new =
    (reply ≡ Ended number) × StaysBook held after old new
CarriesOut held (ToSeal entry) reply after old new =
    (result : Result ℕ CommitError) × (reply ≡ sealing_reply result)
    × HeldSeals held entry result after old new

-- the sessions behind the reply to a COMMIT of the one at a place
abbrev pub sessions_behind : Held → ℕ → Reply → List (Option Kept)
sessions_behind held at reply =
    if ends_transaction reply then slice_set held.sessions at None else held.sessions

-- COMMIT
abbrev pub HeldCommits : Held → ℕ → Option Kept → Reply → Held → World → World → Type 0
HeldCommits held at t Memory after old new = ComesTo held after old new
HeldCommits held at None NoTransaction after old new = ComesTo held after old new
HeldCommits held at None reply after old new = ⊥
HeldCommits held at (Some t) reply after old new =
    CarriesOut held (prepared held.book t) reply after old new
    × (after.sessions ≡ sessions_behind held at reply)

-- a definition of the session at a place, where this entry is in doubt, and with this plan
abbrev pub HeldDefinesBy :
    Option ℕ → Held → ℕ → Planned → Reply → Held → World → World → Type 0
HeldDefinesBy (Some number) held at planned reply after old new =
    (reply ≡ Halted number) × StaysBook held after old new
HeldDefinesBy None held at (Refused why) reply after old new =
    (reply ≡ why) × StaysBook held after old new
HeldDefinesBy None held at (Plans writes) reply after old new =
    CarriesOut held (sealing_of held.book (entry_after held.book (at + 1) writes)) reply after
    old new

-- CREATE TABLE and DROP TABLE
abbrev pub HeldDefines :
    Held → ℕ → Statement → Option Kept → Reply → Held → World → World → Type 0
HeldDefines held at st t Memory after old new = ComesTo held after old new
HeldDefines held at st (Some t) InTransaction after old new = ComesTo held after old new
HeldDefines held at st (Some t) reply after old new = ⊥
HeldDefines held at st None reply after old new =
    HeldDefinesBy held.book.halted held at (planned st held.rows) reply after old new
    × (after.sessions ≡ held.sessions)

-- one statement of the session at a place
abbrev pub HeldRuns : Held → ℕ → Statement → Reply → Held → World → World → Type 0
HeldRuns held at Start reply after old new =
    HeldStarts held at (session_at held at) reply after old new
HeldRuns held at Commit reply after old new =
    HeldCommits held at (session_at held at) reply after old new
HeldRuns held at Rollback reply after old new =
    HeldRollsBack held at (session_at held at) reply after old new
HeldRuns held at (Select what table filter) reply after old new =
    HeldExecutes held at (Select what table filter) (session_at held at) reply after old new
HeldRuns held at (Insert table tuples) reply after old new =
    HeldExecutes held at (Insert table tuples) (session_at held at) reply after old new
HeldRuns held at (Update table sets filter) reply after old new =
    HeldExecutes held at (Update table sets filter) (session_at held at) reply after old new
HeldRuns held at (Delete table filter) reply after old new =
    HeldExecutes held at (Delete table filter) (session_at held at) reply after old new
HeldRuns held at (CreateTable name columns key bank) reply after old new =
    HeldDefines held at (CreateTable name columns key bank) (session_at held at) reply after old new
HeldRuns held at (DropTable name) reply after old new =
    HeldDefines held at (DropTable name) (session_at held at) reply after old new
HeldRuns held at other reply after old new = (reply ≡ NotYet) × ComesTo held after old new

-- A log that takes records was turned with this result, and nothing else changed
pub record TurnsHeld
    (held : Held) (result : Result ⊤ TransdbError) (after : Held) (old new : World) :
    Type 0 where
  pub takes : TakesRecords held.book
  pub log : TurnsLog result held.book.transdb after.book.transdb old new
  pub rest : after ≡ record held {
    book = record held.book { transdb = after.book.transdb };
  }

-- what TURN is answered, where this side is active behind it, and this is the next number
abbrev pub turn_reply : ℕ → ℕ → Result ⊤ TransdbError → Reply
turn_reply side next (Ok done) = Turned side next
turn_reply side next (Err of_log.NotClean) = NotClean
turn_reply side next (Err error) = Fault 0

abbrev pub turn_told : Held → Result ⊤ TransdbError → Reply
turn_told after result =
    turn_reply after.book.transdb.header.active (count after.book + 1) result

-- TURN, where this entry is in doubt
abbrev pub HeldTurnsBy : Option ℕ → Held → Reply → Held → World → World → Type 0
HeldTurnsBy (Some number) held reply after old new =
    (reply ≡ Halted number) × ComesTo held after old new
HeldTurnsBy None held reply after old new =
    (result : Result ⊤ TransdbError) × (reply ≡ turn_told after result)
    × TurnsHeld held result after old new

-- TURN
abbrev pub HeldTurns : Held → Reply → Held → World → World → Type 0
HeldTurns held reply after old new = HeldTurnsBy held.book.halted held reply after old new

-- what a system tells of itself: TRANSDB's numbers, and that there is no LOGDB and no copy
abbrev pub state_held : Held → StateReply
state_held held = record {
  number = count held.book;
  active = held.book.transdb.header.active;
  other = held.book.transdb.header.other;
  first = first_held held.book.transdb.header;
  log = None;
  copies = [];
}

-- a control line, of which TURN and STATE are built
abbrev pub HeldControls : Held → ControlLine → Reply → Held → World → World → Type 0
HeldControls held line.Turn reply after old new = HeldTurns held reply after old new
HeldControls held line.State reply after old new =
    (reply ≡ TellsState (state_held held)) × ComesTo held after old new
HeldControls held other reply after old new = (reply ≡ NotYet) × ComesTo held after old new

-- The system stands for the machine. Its book does, with a window that was begun where the history had
-- `since` entries; the rows are those that the history makes; of each session there is what stands for
-- its transaction. Unless a turn may have been broken off, the pair of TRANSDB is settled. There is no
-- LOGDB and no copy
pub record StandsFor (held : Held) (m : Machine) : Type 0 where
  pub since : ℕ
  pub book : BookStandsFor since held.book (book_of m)
  pub rows : held.rows ≡ replay m.history
  pub settled : m.in_doubt ≡ None → m.may_turn ≡ false
      → held.book.transdb.pair.settled ≡ true
  pub format : m.format ≡ format_in held
  pub count : length held.sessions ≡ SESSIONS
  pub each : (s : ℕ) → IsSession s
      → Shows since m.history m.format s (session_at held (s - 1)) (m.sessions s)
  pub answered : AnsweredFromSnapshots m
  pub log : m.log ≡ Absent
  pub copies : m.copies ≡ []

-- the session's number, where there is one, is one of those there are, and some text spells its
-- statement
abbrev pub IsAsked : Event → Type 0
IsAsked (OfSession s st) = IsSession s × IsSpelled st
IsAsked (Control control) = Unit {0}

-- the files of whose faults a reply tells
abbrev pub tells_of_fault : Reply → ℕ → Bool
tells_of_fault (Fault f) file = file == f
tells_of_fault (InDoubt k) file = file == 0
tells_of_fault reply file = false

-- of TRANSDB
abbrev pub is_fault : Reply → Bool
is_fault (Fault f) = f == 0
is_fault reply = false

abbrev pub is_in_doubt : Reply → Bool
is_in_doubt (InDoubt k) = true
is_in_doubt reply = false

-- What a reply tells of the step: a fault before the record's gate was written, where a record is
-- written at all, or from then on. No line is built yet whose step reads a file
abbrev pub told_by : Reply → Seen
told_by reply = record {
  rose = tells_of_fault reply;
  rose_before_gate = is_fault reply;
  rose_at_gate = is_in_doubt reply;
  reads = nothing_told;
}

-- what was seen in a step has its causes: a count rose there only where `rose` tells so
pub record HasCauses (rose : ℕ → Type 0) (seen : Seen) : Type 0 where
  pub rose_has : (file : ℕ) → seen.rose file ≡ true → rose file
  pub before_has : seen.rose_before_gate ≡ true → rose 0
  pub at_has : seen.rose_at_gate ≡ true → rose 0

-- From the machine m the event got this reply by a step in which the reply tells what was seen, and
-- the system stands for the machine after it
pub record Follows
    (rose : ℕ → Type 0) (m : Machine) (event : Event) (reply : Reply) (held : Held) :
    Type 0 where
  pub seen : Seen
  pub told : seen ≡ told_by reply
  pub causes : HasCauses rose seen
  pub after : Machine
  pub step : Step m event seen reply after
  pub stands : StandsFor held after
