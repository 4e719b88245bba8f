-- The book: what a commit is judged by, and what becomes of its entry. COMMIT is the one and then the
-- other; a definition is the catalog's plan and then the other.
use Rattle.std.specs.Prelude.{◌≡◌, ℕ, ◌+◌, ◌^◌, ◌<◌, ◌≤◌, Bool, true, false, nat_lt, List, [], ◌∷◌, ◌++◌, length, Option, Some, None, if◌then◌else◌}
use Rattle.odb_model.specs.declared.write.Write.{Write}
use Rattle.odb_model.specs.declared.entry.Entry.{Entry}
use Rattle.odb_model.specs.declared.outcome.Read.{Read}
use Rattle.odb_model.specs.declared.reply.Reply.{Reply}
use Rattle.odb_model.specs.declared.reply.Reply.TheVariants.{Committed, Ended as EndedReply, InDoubt, Halted as HaltedReply, Aged as AgedReply, Conflict as ConflictReply, HistoryFull, Full, Fault}
use Rattle.odb_model.specs.State.{replay}
use Rattle.odb_model.specs.Transaction.{Executed, write_set_of, net, reads_of, first_conflict}
use Rattle.odb_model.specs.Width.{record_width}
use Rattle.odb_machine.specs.Sides.{Sides, room_left}
use Rattle.odb_model.specs.Window.{window_start, oldest_number}
use Rattle.odb_model.specs.declared.statement.Statement.{Statement}
use Rattle.odb_model.specs.Definitions.{Planned, Refused, Plans, planned}
use Rattle.odb_machine.specs.Readings.{Readings, is_told_in}

-- the history, the sides of TRANSDB, and the entry of which it isn't known whether its record is on
-- the disk
pub record Book : Type 0 where
  pub history : List Entry
  pub sides : Sides
  pub in_doubt : Option Entry

-- What a step meets outside. `rose` tells of files whose count of faults rose in the step; of which
-- others it did isn't told, as of one whose fault was made good. Of TRANSDB, file 0, it is told whether
-- the count rose before the gate of a record was written, and from that write on. `reads` is what each
-- file that the store tells reads as
pub record Seen : Type 0 where
  pub rose : ℕ → Bool
  pub rose_before_gate : Bool
  pub rose_at_gate : Bool
  pub reads : Readings

-- the store tells the file
abbrev pub is_told : Seen → ℕ → Bool
is_told seen file = is_told_in seen.reads file

-- what a transaction comes to
pub data Verdict : Type 0 where
  -- the entry of this number is in doubt
  Halted : ℕ → Verdict
  -- its oldest read is of a history of so many entries, fewer than so many before the window
  Aged : ℕ → ℕ → Verdict
  -- the entry of this number overwrote what it read
  Conflict : ℕ → Verdict
  -- it leaves nothing, where there are so many entries
  Ended : ℕ → Verdict
  -- it leaves these
  Writes : List Write → Verdict

abbrev pub by_net : ℕ → List Write → Verdict
by_net entries [] = Ended entries
by_net entries (w ∷ ws) = Writes (w ∷ ws)

abbrev pub by_conflict : Option ℕ → ℕ → List Write → Verdict
by_conflict (Some j) entries ws = Conflict j
by_conflict None entries ws = by_net entries ws

-- AGED where the oldest read is before the window's start, else this verdict
abbrev pub unless_aged : Option ℕ → ℕ → Verdict → Verdict
unless_aged None start verdict = verdict
unless_aged (Some oldest) start verdict =
    if nat_lt oldest start then Aged oldest start else verdict

-- HALTED where an entry is in doubt, else this verdict
abbrev pub by_doubt : Option Entry → Verdict → Verdict
by_doubt (Some e) verdict = Halted e.number
by_doubt None verdict = verdict

-- the verdict on a transaction with these reads and this write set
abbrev pub judged : Book → List Read → List Write → Verdict
judged b rs write_set =
    by_doubt b.in_doubt
    (unless_aged (oldest_number rs) (window_start b.history)
    (by_conflict (first_conflict rs b.history) (length b.history)
    (net (replay b.history) write_set)))

-- the verdict on a transaction
abbrev pub verdict : Book → List Executed → ℕ → Verdict
verdict b t format = judged b (reads_of b.history t format) (write_set_of b.history t format)

-- what a session would add to the history with these writes
abbrev pub next_entry : Book → ℕ → List Write → Entry
next_entry b s writes = record { number = length b.history + 1; by = s; writes = writes }

-- the bytes of the record of that entry
abbrev pub need_of : Book → ℕ → List Write → ℕ
need_of b s writes = record_width (next_entry b s writes)

-- the bytes left for records
abbrev pub room_of : Book → ℕ
room_of b = room_left b.sides b.history

-- how many entries a history may have
abbrev pub most_entries : ℕ
most_entries = 2 ^ 48

-- the entry is the history's next
abbrev pub with_entry : Book → Entry → Book
with_entry b e = record b { history = b.history ++ e ∷ [] }

-- it isn't known whether it is
abbrev pub with_doubted : Book → Entry → Book
with_doubted b e = record b { in_doubt = Some e }

-- the history may have one entry more, and the active side has room for its record
pub record HasPlace (b : Book) (s : ℕ) (writes : List Write) : Type 0 where
  pub few : length b.history < most_entries
  pub room : need_of b s writes ≤ room_of b

-- The record of the next entry, by a session with these writes, is forced, or why it isn't, and the
-- book after it: HISTORYFULL, FULL, and then the faults. FAULT comes only where the count of file 0
-- rose before the record's gate was written, INDOUBT only where it rose from then on
abbrev pub Seals : Book → Seen → ℕ → List Write → Reply → Book → Type 0
Seals b seen s writes HistoryFull after = (most_entries ≤ length b.history) × (after ≡ b)
Seals b seen s writes (Full need room) after =
    (length b.history < most_entries) × (need ≡ need_of b s writes) × (room ≡ room_of b)
    × (room < need) × (after ≡ b)
Seals b seen s writes (Fault f) after =
    HasPlace b s writes × (f ≡ 0) × (seen.rose 0 ≡ true) × (seen.rose_before_gate ≡ true)
    × (after ≡ b)
Seals b seen s writes (InDoubt k) after =
    HasPlace b s writes × (k ≡ length b.history + 1) × (seen.rose 0 ≡ true)
    × (seen.rose_at_gate ≡ true) × (after ≡ with_doubted b (next_entry b s writes))
Seals b seen s writes (Committed k) after =
    HasPlace b s writes × (k ≡ length b.history + 1)
    × (after ≡ with_entry b (next_entry b s writes))
Seals b seen s writes reply after = ⊥

-- COMMIT of a session's transaction with this verdict
abbrev pub Decides : Book → Seen → ℕ → Verdict → Reply → Book → Type 0
Decides b seen s (Halted k) (HaltedReply j) after = (j ≡ k) × (after ≡ b)
Decides b seen s (Halted k) reply after = ⊥
Decides b seen s (Aged o k) (AgedReply p j) after = (p ≡ o) × (j ≡ k) × (after ≡ b)
Decides b seen s (Aged o k) reply after = ⊥
Decides b seen s (Conflict k) (ConflictReply j) after = (j ≡ k) × (after ≡ b)
Decides b seen s (Conflict k) reply after = ⊥
Decides b seen s (Ended k) (EndedReply p) after = (p ≡ k) × (after ≡ b)
Decides b seen s (Ended k) reply after = ⊥
Decides b seen s (Writes writes) reply after = Seals b seen s writes reply after

abbrev pub DefinesBy :
    Option Entry → Book → Seen → ℕ → Planned → Reply → Book → Type 0
DefinesBy (Some e) b seen s planned reply after = (reply ≡ HaltedReply e.number) × (after ≡ b)
DefinesBy None b seen s (Refused why) reply after = (reply ≡ why) × (after ≡ b)
DefinesBy None b seen s (Plans writes) reply after = Seals b seen s writes reply after

-- A definition: HALTED where an entry is in doubt; else what the catalog refuses it for on the state of
-- the history; else its writes are sealed
abbrev pub Defines : Book → Seen → ℕ → Statement → Reply → Book → Type 0
Defines b seen s st reply after =
    DefinesBy b.in_doubt b seen s (planned st (replay b.history)) reply after

-- whether a transaction is over behind the reply to its COMMIT
abbrev pub ends_transaction : Reply → Bool
ends_transaction (Committed k) = true
ends_transaction (EndedReply p) = true
ends_transaction (InDoubt k) = true
ends_transaction (AgedReply oldest start) = true
ends_transaction (ConflictReply j) = true
ends_transaction reply = false
