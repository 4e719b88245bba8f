-- What a system holds meets its invariant.
use Rattle.std.proofs.Common.{◌≡◌, ℕ, ◌+◌, ◌-◌, ◌<◌, ◌≤◌, zero, suc, false, List, [], ◌∷◌, length, replicate, Option, Some, None, refl, sym, ap, subst, ◌∙◌, arith}
use Rattle.std.specs.Prelude.{slice_get, slice_set, slice_index_or, unwrap_or}
use Rattle.std.specs.List.{All}
use Rattle.std.proofs.lemmas.List.{length-set}
use Rattle.std.proofs.lemmas.List.Elements.{All-nil, All-set, All-replicate}
use Rattle.odb_values.specs.Key.{IsKey}
use Rattle.odb_device.specs.World.{World}
use Rattle.odb_model.specs.declared.write.Write.{Write}
use Rattle.odb_model.specs.declared.entry.Entry.{Entry}
use Rattle.odb_model.specs.declared.reply.Reply.TheVariants.{NoTransaction}
use Rattle.odb_model.specs.declared.statement.Statement.{Statement}
use Rattle.odb_model.specs.State.{State, replay}
use Rattle.odb_model.specs.Storable.{HaveKeys, HasKeys}
use Rattle.odb_model.proofs.KeysKept.{history_keyed}
use Rattle.odb_machine.specs.Book.{most_entries}
use Rattle.odb_transdb.specs.Header.{first_held}
use Rattle.odb_transdb.specs.Standing.{Db}
use Rattle.odb_keytable.specs.Committed.{Committed}
use Rattle.odb_txn.specs.Transaction.{Kept}
use Rattle.odb_validate.specs.Window.{Windowed}
use Rattle.odb_commit.specs.Parts.{Parts, count, IsAligned}
use Rattle.odb_system.specs.Open.{IsOpen}
use Rattle.odb_system.specs.Held.{Held, IsHeld, Begins, without_place, none_open, session_at, with_open, HeldExecutes}

-- the book that a system begins with
abbrev pub first_book : ℕ → Db → Parts
first_book n db = record { transdb = db; window = record { start = n; entries = []; is_reserved = false }; halted = None }

-- a system that begins
pub held_first : (h : List Entry) (xs : List (Option Kept)) (db : Db) (rows : State) → Begins db h → length h ≤ most_entries → HasKeys rows → xs ≡ replicate 64 none_open
    → IsHeld (record { book = first_book (length h) db; sessions = xs; rows = rows })
held_first h xs db rows begins few keyed same = record {
  count = rw same refl;
  aligned = record { ends = λ _. omega (arith, begins.next); usable = λ _. begins.usable };
  few = omega (arith, few);
  first = begins.first;
  keyed = keyed;
  each = subst (All IsOpen) (sym same) (All-replicate IsOpen 64 none_open tt);
}

-- the book whose window begins behind the log's last entry
pub book_first : (h : List Entry) (db : Db) (n : ℕ) (w : Windowed) (b : Parts) → Begins db h → n ≡ db.active.next - 1 → w ≡ record { start = n; entries = []; is_reserved = false }
    → b ≡ record { transdb = db; window = w; halted = None } → without_place b ≡ first_book (length h) db
book_first h db n w b begins last window is =
    let number : n ≡ length h = omega (arith, begins.next) in
    ap without_place is ∙ ap (λ (x : Windowed). without_place (record { transdb = db; window = x; halted = None })) window ∙ ap (λ (k : ℕ). first_book k db) number

-- the rows of entries whose keys are keys
pub rows_first : (h : List Entry) (rows : Committed) → rows ≡ record { state = replay h; waiting = 0 } → rows.state ≡ replay h
rows_first h rows are = ap (λ (c : Committed). c.state) are

pub rows_keyed : (es : List Entry) (rows : Committed) → All (λ e. HaveKeys e.writes) es → rows ≡ record { state = replay es; waiting = 0 } → HasKeys rows.state
rows_keyed es rows keyed are = subst HasKeys (sym (ap (λ (c : Committed). c.state) are)) (history_keyed es [] keyed (All-nil (λ (w : Write). IsKey w.key)))

pub none_waits : (es : List Entry) (rows : Committed) (b : Parts) → rows ≡ record { state = replay es; waiting = 0 } → rows.waiting ≤ count b
none_waits es rows b are = omega (arith, ap (λ (c : Committed). c.waiting) are)

-- a session's transaction begins, goes on or ends
pub held_open : (held : Held) (at : ℕ) (t : Option Kept) → IsHeld held → IsOpen t → IsHeld (with_open held at t)
held_open held at t is fits = record {
  count = length-set held.sessions at t ∙ is.count;
  aligned = is.aligned;
  few = is.few;
  first = is.first;
  keyed = is.keyed;
  each = All-set IsOpen held.sessions at t fits is.each;
}

-- the book and the rows go on
pub held_on : (held : Held) (book : Parts) (rows : State) → IsHeld held → IsAligned book → count book ≤ most_entries → first_held book.transdb.header ≡ 1 → HasKeys rows
    → IsHeld (record { book = book; sessions = held.sessions; rows = rows })
held_on held book rows is aligned few first keyed = record { count = is.count; aligned = aligned; few = few; first = first; keyed = keyed; each = is.each }

-- what was read at a place is the session there
pub session_here : (xs : List (Option Kept)) (at : ℕ) (x : Option Kept) → at < length xs → x ≡ slice_index_or xs at x → unwrap_or (slice_get xs at) None ≡ x
session_here [] at x within is = absurd (omega arith)
session_here (y ∷ xs) zero x within is = sym is
session_here (y ∷ xs) (suc at) x within is = session_here xs at x (omega arith) is

-- the transaction there writes to keys
pub open_here : (held : Held) (at : ℕ) (x : Option Kept) → IsHeld held → at < 64 → x ≡ slice_index_or held.sessions at x → IsOpen x
open_here held at x is within here = subst IsOpen (sym here) (is.each at x (omega (arith, is.count)))

-- an item put where it stands
pub set_same : {A : Type 0} (xs : List A) (i : ℕ) (x : A) → x ≡ slice_index_or xs i x → slice_set xs i x ≡ xs
set_same [] i x is = refl
set_same (y ∷ xs) zero x is = ap (λ z. z ∷ xs) is
set_same (y ∷ xs) (suc i) x is = ap (λ zs. y ∷ zs) (set_same xs i x is)

-- a statement on rows without a transaction
pub executes_none : (held : Held) (at : ℕ) (st : Statement) (x : Option Kept) (w : World) → at < length held.sessions → x ≡ slice_index_or held.sessions at x → x ≡ None
    → HeldExecutes held at st (session_at held at) NoTransaction (record held { sessions = slice_set held.sessions at x }) w w
executes_none held at st x w within is none =
    let idle : session_at held at ≡ None = session_here held.sessions at x within is ∙ none in
    let same : record held { sessions = slice_set held.sessions at x } ≡ held = ap (λ xs. record held { sessions = xs }) (set_same held.sessions at x is) in
    subst (λ (o : Option Kept). HeldExecutes held at st o NoTransaction (record held { sessions = slice_set held.sessions at x }) w w) (sym idle) (same, refl)
