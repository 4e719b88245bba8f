-- LOG, DROPLOG and NEWLOG, once nothing refuses them.
use Rattle.std.specs.Prelude.{◌≡◌, ◌⊎◌, ℕ, ◌+◌, ◌<◌, ◌≤◌, Bool, true, false, List, ◌∷◌, ◌++◌, take}
use Rattle.odb_model.specs.declared.entry.Entry.{Entry}
use Rattle.odb_model.specs.declared.reply.Reply.{Reply}
use Rattle.odb_model.specs.declared.reply.Reply.TheVariants.{Logged, LogFirst, LogFull, Fault}
use Rattle.odb_model.specs.Width.{record_width}
use Rattle.odb_machine.specs.Sides.{first_in}
use Rattle.odb_machine.specs.Log.{Log, Held, Span, log_room, lacked, fitting, with_entries, without_through, new_span}
use Rattle.odb_machine.specs.Book.{Seen, is_told}
use Rattle.odb_machine.specs.MachineState.{Machine, with_honest, with_log}
use Rattle.odb_machine.specs.Clearing.{lagging}

-- What LOGDB shows where a step reads it again: where the store tells the file, what it held; else
-- records that are no longer in order are gone, from the end of the list
abbrev pub ShowsSpan : Bool → Span → Span → Type 0
ShowsSpan true span now = now ≡ span
ShowsSpan false span now =
    (now.first ≡ span.first) × (now.first ≤ now.last + 1) × (now.last ≤ span.last)
    × (now.used ≤ span.used) × (now.last ≡ span.last → now.used ≡ span.used)

-- what LOGDB shows in the step
abbrev pub Shows : Seen → Span → Span → Type 0
Shows seen span now = ShowsSpan (is_told seen 1) span now

-- the entries that this LOG is to add
abbrev pub to_add : Machine → Span → List Entry
to_add m span = lacked (first_in m.sides) m.history span

-- those of them that fit, from the front
abbrev pub added : Machine → Span → List Entry
added m span = fitting (log_room span) (to_add m span)

-- the next entry doesn't fit into the room that is left behind those that fit
pub record IsTooLong (m : Machine) (span : Span) (need room : ℕ) : Type 0 where
  pub next : Entry
  pub rest : List Entry
  pub lacks : to_add m span ≡ added m span ++ next ∷ rest
  pub need_is : need ≡ record_width next
  pub room_is : room ≡ log_room (with_entries span (added m span))
  pub short : room < need

-- LOG from what LOGDB shows. All that is lacked is added; or what fits, before the first entry that
-- doesn't; and a fault, of TRANSDB or of LOGDB, leaves some of these added, from the front
abbrev pub LogsFrom : Machine → Seen → Span → Reply → Machine → Type 0
LogsFrom m seen now (Logged number) after =
    (added m now ≡ to_add m now) × (number ≡ (with_entries now (to_add m now)).last)
    × (after ≡ with_log m (with_entries now (to_add m now)))
LogsFrom m seen now (LogFull need room) after =
    IsTooLong m now need room × (after ≡ with_log m (with_entries now (added m now)))
LogsFrom m seen now (Fault f) after =
    ((f ≡ 0) ⊎ (f ≡ 1)) × (seen.rose f ≡ true)
    × (n : ℕ) × (after ≡ with_log m (with_entries now (take n (added m now))))
LogsFrom m seen now reply after = ⊥

-- LOG of a LOGDB that takes part
abbrev pub Logs : Machine → Seen → Log → Reply → Machine → Type 0
Logs m seen (Held span) reply after =
    (now : Span) × Shows seen span now × LogsFrom m seen now reply after
Logs m seen other reply after = ⊥

-- DROPLOG up to a number. After a fault the first number may be the new one, as when done
abbrev pub DropsFrom : Machine → Seen → ℕ → Span → Reply → Machine → Type 0
DropsFrom m seen number now (LogFirst first) after =
    (first ≡ (without_through number now).first)
    × (after ≡ with_log m (without_through number now))
DropsFrom m seen number now (Fault f) after =
    (f ≡ 1) × (seen.rose 1 ≡ true)
    × ((after ≡ with_log (lagging m) now)
    ⊎ (after ≡ with_log (lagging m) (without_through number now)))
DropsFrom m seen number now reply after = ⊥

abbrev pub DropsLog : Machine → Seen → ℕ → Log → Reply → Machine → Type 0
DropsLog m seen number (Held span) reply after =
    (now : Span) × Shows seen span now × DropsFrom m seen number now reply after
DropsLog m seen number other reply after = ⊥

-- NEWLOG of a LOGDB that is out: a new one begins with TRANSDB's first entry. From its beginning on
-- LOGDB isn't honest, until it is made to the end
abbrev pub MakesLog : Machine → Seen → Reply → Machine → Type 0
MakesLog m seen (LogFirst first) after =
    (first ≡ first_in m.sides)
    × (after ≡ with_honest (with_log m (new_span (first_in m.sides))) 1 (is_told seen 1))
MakesLog m seen (Fault f) after =
    (f ≡ 1) × (seen.rose 1 ≡ true) × (after ≡ with_honest m 1 false)
MakesLog m seen reply after = ⊥
