-- A walk over the records of a side that ends where a run does.
use Rattle.std.proofs.Common.{◌≡◌, ℕ, ◌+◌, ◌-◌, ◌<◌, ◌≤◌, max, Bool, true, false, List, [], ◌∷◌, ◌++◌, length, drop, Option, Some, None, Result, Ok, refl, sym, ◌∙◌, ap, subst, arith, append_assoc}
use Rattle.std.specs.Prelude.{IfSome, IsTrue, nat_le}
use Rattle.std.proofs.lemmas.Bool.{leb-true, leb-false}
use Rattle.std.proofs.lemmas.List.{append-nil, drop_all, drop-append-le}
use Rattle.odb_device.specs.World.{File, World, file_of}
use Rattle.odb_device.specs.Images.{ReadsImage}
use Rattle.odb_reclog.specs.Records.{log_of, record_in}
use Rattle.odb_reclog.specs.Standing.{Log, Stands as LogStands}
use Rattle.odb_reclog.specs.declared.record.LogRecord.{LogRecord}
use Rattle.odb_reclog.specs.declared.window.Window.{Window}
use Rattle.odb_codec.specs.Reading.{read_entry}
use Rattle.odb_model.specs.declared.entry.Entry.{Entry}
use Rattle.odb_model.specs.declared.side.OtherSide.{OtherSide}
use Rattle.odb_model.specs.State.{IsNumberedFrom}
use Rattle.odb_transdb.specs.declared.header.Header.{Header}
use Rattle.odb_transdb.specs.declared.error.TransdbError.{TransdbError}
use Rattle.odb_transdb.specs.Header.{is_header, first_on, active_first, other_of, first_by, first_held}
use Rattle.odb_transdb.specs.Opened.{side_entries, entries_from, entries_in}
use Rattle.odb_transdb.specs.Standing.{Db, IsOfSide, Stands}
use Rattle.odb_transdb.specs.Turning.{StandsSince}
use Rattle.odb_transdb.specs.Walking.{live_read, sides_read, log_entries, IsRecordOf, IsEntryOf, AddsPart, AreUpTo}
use Rattle.odb_transdb.specs.Runs.{run_upto, IsRun, IsTaken, IsUndamaged, IsLastRun}
use Rattle.odb_transdb.proofs.Entries.{count_read, read_split}
use Rattle.odb_transdb.proofs.Joining.{LiveIs, active_entries, live_count, drop_both, stands_read}
use Rattle.odb_transdb.proofs.Gathered.{own_of, since_read, last_of}
use Rattle.odb_transdb.proofs.Kept.{if_told_then}
use Rattle.odb_transdb.proofs.Placed.{parts_of}
use Rattle.odb_transdb.proofs.Runs.{run_all, undamaged_then}
use Rattle.odb_transdb.proofs.Walking.{IsReadUpTo, IsWalked, walked_all, its_next}

-- at an entry that ends the run
module _ (log : Log) (from : ℕ) (base : List Entry) (w mid : World) (window : Window) (at number : ℕ) (items : List Entry) (so_far : IsWalked log from base w mid window at number items) (stands : LogStands log (file_of log.file w))
    (reads : ReadsImage (file_of log.file w)) where
  abbrev list_in : File → List (List ℕ)
  list_in f = log_of log.start log.end log.first f.bytes

  abbrev So : File → Type 0
  So f = IsReadUpTo from log.start log.first (list_in f) base items at number

  pub run_ended : (most : ℕ) (r : LogRecord) → at < log.place → IfSome (file_of log.file w) (λ f. IsRecordOf (record_in log.start log.first (list_in f) at) at number (Ok r)) → r.number ≡ number → (e : Entry) → IsEntryOf r.number r.payload at (Ok e) → from ≤ number
      → (new : List Entry) → ((rest : List Entry) → run_upto most (items ++ e ∷ rest) ≡ new)
      → IfSome (file_of log.file w) (λ f. (all : List Entry) → log_entries log f.bytes ≡ Ok all → (rest : List Entry) → run_upto most ((base ++ drop (from - log.first) all) ++ rest) ≡ new)
  run_ended most r inside there its_number e is wanted new over = of_file (file_of log.file w) stands reads so_far.told there
    where
      of_file : (o : Option File) → LogStands log o → ReadsImage o → IfSome o So → IfSome o (λ f. IsRecordOf (record_in log.start log.first (list_in f) at) at number (Ok r))
          → IfSome o (λ f. (all : List Entry) → log_entries log f.bytes ≡ Ok all → (rest : List Entry) → run_upto most ((base ++ drop (from - log.first) all) ++ rest) ≡ new)
      of_file None here shown told found = tt
      of_file (Some f) here shown told found = λ all whole rest.
          let k : ℕ = from - log.first in
          let next = its_next log from base w mid window at number items so_far stands reads f here shown inside told in
          let payload : r.payload ≡ next.payload = cc (found.0, next.there) in
          let one : read_entry number next.payload ≡ Ok e = ap (λ (n : ℕ). read_entry n next.payload) (sym its_number) ∙ ap (read_entry r.number) (sym payload) ∙ is.0 in
          let split = read_split next.payload next.others log.first log.start told.done told.all all e told.read (subst (λ (n : ℕ). read_entry n next.payload ≡ Ok e) told.number_is one)
          (ap (entries_from log.first log.start) (sym next.is) ∙ whole) in
          let few : k ≤ length told.all = omega (arith, told.number_is, count_read log.first log.start told.done told.all told.read) in
          let both : drop k all ≡ drop k told.all ++ e ∷ split.0 = ap (drop k) split.1 ∙ drop-append-le k told.all (e ∷ split.0) few in
          let behind : base ++ drop k all ≡ items ++ e ∷ split.0 =
          ap (λ (l : List Entry). base ++ l) both ∙ sym (append_assoc base (drop k told.all) (e ∷ split.0)) ∙ ap (λ (l : List Entry). l ++ e ∷ split.0) (sym told.items_are) in
          ap (λ (l : List Entry). run_upto most (l ++ rest)) behind ∙ ap (run_upto most) (append_assoc items (e ∷ split.0) rest) ∙ over (split.0 ++ rest)

  -- or at the side's end
  pub run_went_on : log.place ≤ at → IfSome (file_of log.file w) (λ f. (all : List Entry) → log_entries log f.bytes ≡ Ok all → items ≡ base ++ drop (from - log.first) all)
  run_went_on over =
      if_told_then (λ f. (found : List Entry) × (log_entries log f.bytes ≡ Ok found) × (items ≡ base ++ drop (from - log.first) found)) (λ f. (all : List Entry) → log_entries log f.bytes ≡ Ok all → items ≡ base ++ drop (from - log.first) all)
      (file_of log.file w)
      (λ f found. λ all whole. let same : found.0 ≡ all = cc (found.1, whole) in found.2 ∙ ap (λ (l : List Entry). base ++ drop (from - log.first) l) same)
      (walked_all log from base w mid window at number items so_far stands reads over)

-- an entry is added where its number is `from` or above
pub added : (from number : ℕ) (items new : List Entry) (e : Entry) (wanted : Bool) → wanted ≡ nat_le from number → (wanted ≡ true → new ≡ items ++ e ∷ []) → (wanted ≡ false → new ≡ items) → new ≡ items ++ drop (from - number) (e ∷ [])
added from number items new e true is takes leaves =
    let low : from ≤ number = leb-true from number (sym is) in
    let none : from - number ≡ 0 = omega arith in
    takes refl ∙ ap (λ (n : ℕ). items ++ drop n (e ∷ [])) (sym none)
added from number items new e false is takes leaves =
    let high : number < from = leb-false from number (sym is) in
    let gone : drop (from - number) (e ∷ []) ≡ [] = drop_all (from - number) (e ∷ []) (omega arith) in
    leaves refl ∙ sym (ap (λ (l : List Entry). items ++ l) gone ∙ append-nil items)

-- what a Live side's walk tells
pub live_taken : (most : ℕ) (h : Header) (log active : Log) (o : Option File) (from : ℕ) (base items : List Entry) (r : Result Bool TransdbError) → LiveIs h h.other log active → IsOfSide h h.active active → LogStands log o → ReadsImage o → base ≡ []
    → IfSome o (λ f. (all : List Entry) → log_entries log f.bytes ≡ Ok all → IsUndamaged (λ over. IsTaken most over (base ++ drop (from - log.first) all) items) r)
    → IfSome o (λ f. (front : List Entry) → live_read h h.other f.bytes ≡ Ok front → IsUndamaged (λ over. IsTaken most over (drop (from - first_held h) front) items × (first_held h + length front ≡ active_first h)) r)
live_taken most h log active None from base items r is side stands reads none told = tt
live_taken most h log active (Some f) from base items r is side stands reads none told = λ front found.
    let read : side_entries h (other_of h) f.bytes ≡ Ok front = ap (λ (o : OtherSide). live_read h o f.bytes) (sym is.live) ∙ found in
    let whole : log_entries log f.bytes ≡ Ok front = active_entries h (other_of h) log f.bytes is.side ∙ read in
    let first : first_held h ≡ first_on h (other_of h) = ap (first_by h) is.live in
    let skip : from - log.first ≡ from - first_held h = ap (λ (n : ℕ). from - n) (is.side.first ∙ sym first) in
    let behind : base ++ drop (from - log.first) front ≡ drop (from - first_held h) front = ap (λ (l : List Entry). l ++ drop (from - log.first) front) none ∙ ap (λ (n : ℕ). drop n front) skip in
    let count : first_held h + length front ≡ active_first h = ap (λ (n : ℕ). n + length front) first ∙ live_count h log active f front is.side is.next side.first stands reads read in
    undamaged_then (λ over. IsTaken most over (base ++ drop (from - log.first) front) items) (λ over. IsTaken most over (drop (from - first_held h) front) items × (first_held h + length front ≡ active_first h)) r
    (λ over taken. (subst (λ (l : List Entry). IsTaken most over l items) behind taken, count)) (told front whole)

-- what both walks tell
abbrev pub FrontOf : ℕ → Header → ℕ → List Entry → Bool → File → Type 0
FrontOf most h from items over f = (front : List Entry) → live_read h h.other f.bytes ≡ Ok front → IsTaken most over (drop (from - first_held h) front) items × (first_held h + length front ≡ active_first h)

module _ (most : ℕ) (h : Header) (active : Log) (from : ℕ) (side : IsOfSide h h.active active) where
  abbrev k : ℕ
  k = from - first_held h

  abbrev pub FrontTold : List Entry → Bool → File → Type 0
  FrontTold = FrontOf most h from

  abbrev pub RunTold : List Entry → File → Type 0
  RunTold items f = (all : List Entry) → sides_read h f.bytes ≡ Ok all → items ≡ run_upto most (drop k all)

  -- over in the Live side
  pub live_over : (o : Option File) (items : List Entry) → IfSome o (FrontTold items true) → IfSome o (RunTold items)
  live_over o items told =
      if_told_then (FrontTold items true) (RunTold items) o
      (λ f is. λ all whole.
      let parts = parts_of (live_read h h.other f.bytes) (side_entries h h.active f.bytes) all whole in
      let one = is parts.front parts.first_is in
      sym (one.0 (drop (k - length parts.front) parts.rest)) ∙ ap (run_upto most) (sym (drop_both k parts.front parts.rest)) ∙ ap (λ (l : List Entry). run_upto most (drop k l)) (sym parts.both)) told

  -- or it went on, and the active side's walk was over or not
  ends_run : (over : Bool) (left : ℕ) (behind items : List Entry) → (over ≡ false → IsRun most left items) → IsTaken most over behind items → items ≡ run_upto most behind
  ends_run true left behind items is taken = sym (taken []) ∙ ap (run_upto most) (append-nil behind)
  ends_run false left behind items is taken = sym (run_all most left items (is refl)) ∙ ap (run_upto most) taken

  pub both_over : (o : Option File) (over : Bool) (left : ℕ) (first items : List Entry) → (over ≡ false → IsRun most left items) → IfSome o (FrontTold first false)
      → IfSome o (λ f. (rest : List Entry) → log_entries active f.bytes ≡ Ok rest → IsTaken most over (first ++ drop (from - active.first) rest) items) → IfSome o (RunTold items)
  both_over None over left first items is front rest = tt
  both_over (Some f) over left first items is front rest = λ all whole.
      let parts = parts_of (live_read h h.other f.bytes) (side_entries h h.active f.bytes) all whole in
      let one = front parts.front parts.first_is in
      let taken = rest parts.rest (active_entries h h.active active f.bytes side ∙ parts.second_is) in
      let skip : from - active.first ≡ k - length parts.front = omega (arith, one.1, side.first) in
      let behind : first ++ drop (from - active.first) parts.rest ≡ drop k all =
      ap (λ (l : List Entry). l ++ drop (from - active.first) parts.rest) one.0 ∙ ap (λ (n : ℕ). drop k parts.front ++ drop n parts.rest) skip ∙ sym (drop_both k parts.front parts.rest) ∙ ap (drop k) (sym parts.both) in
      ends_run over left (first ++ drop (from - active.first) parts.rest) items is taken ∙ ap (run_upto most) behind

-- what is given, by what the sides hold
abbrev pub RunToldOf : ℕ → Db → ℕ → List Entry → File → Type 0
RunToldOf most db from items f = (all : List Entry) → sides_read db.header f.bytes ≡ Ok all → items ≡ run_upto most (drop (from - first_held db.header) all)

module _ (most : ℕ) (db : Db) (from : ℕ) (items : List Entry) where
  pub given_run : (o : Option File) → Stands db o → ReadsImage o → IfSome o (RunToldOf most db from items) → IfSome o (λ f. items ≡ run_upto most (drop (from - first_held db.header) (entries_in (Some f))))
  given_run None stands reads told = tt
  given_run (Some f) stands reads told = told (entries_in (Some f)) (stands_read db f stands reads)

  pub given_last_run : (all : List Entry) → IsTrue (is_header db.header) → first_held db.header ≤ from → (o : Option File) → StandsSince db all o → ReadsImage o → IfSome o (RunToldOf most db from items) → IfSome o (λ f. IsLastRun most from db.active.next all items)
  given_last_run all lawful low None since reads told = tt
  given_last_run all lawful low (Some f) since reads told =
      let own = own_of db all lawful f since reads in
      record {
        behind = drop (from - first_held db.header) own.entries;
        last = last_of db all lawful from own.entries low own.end;
        run = told own.entries (since_read db all lawful f since reads);
      }

  -- where the file stands no record is damaged
  pub never_ended : (all : List Entry) → IsTrue (is_header db.header) → (Q : File → Type 0) → (o : Option File) → StandsSince db all o → ReadsImage o → IfSome o (λ f. (found : List Entry) → sides_read db.header f.bytes ≡ Ok found → ⊥) → IfSome o Q
  never_ended all lawful Q None since reads told = tt
  never_ended all lawful Q (Some f) since reads told = absurd (told (own_of db all lawful f since reads).entries (since_read db all lawful f since reads))

-- the numbers of a Live side's entries
pub live_numbers : (h : Header) (log active : Log) (from bytes : ℕ) (base items : List Entry) → LiveIs h h.other log active → IsOfSide h h.active active → first_held h ≤ from → base ≡ [] → AddsPart from log.first log.next bytes base items → AreUpTo from (active_first h) items
live_numbers h log active from bytes base items is side low none part =
    let first : first_held h ≡ first_on h (other_of h) = ap (first_by h) is.live in
    let next : log.next ≡ active_first h = is.next ∙ side.first in
    let start : max from log.first ≡ from = omega (arith, is.side.first, first, low) in
    let new_is : items ≡ part.0 = part.1 ∙ ap (λ (l : List Entry). l ++ part.0) none in (
      subst (IsNumberedFrom from) (sym new_is) (subst (λ (n : ℕ). IsNumberedFrom n part.0) start part.2.numbers),
      omega (arith, part.2.count, start, next, ap (length {A = Entry}) new_is),
    )
