-- The entries of both sides, one behind another.
use Rattle.std.proofs.Common.{◌≡◌, inl, inr, ℕ, ◌+◌, ◌-◌, ◌≤◌, max, false, List, [], ◌++◌, length, drop, Option, Some, None, Result, Ok, Err, refl, sym, ◌∙◌, ap, subst, arith, length-append}
use Rattle.std.specs.Prelude.{IfSome, IfOk}
use Rattle.std.proofs.lemmas.Bool.{cases_lt}
use Rattle.std.proofs.lemmas.List.{drop_all, drop-append-le}
use Rattle.std.proofs.Math.Seq.{drop-append-add}
use Rattle.odb_device.specs.World.{File, World, file_of}
use Rattle.odb_device.specs.Images.{ReadsImage}
use Rattle.odb_device.specs.Moments.{Runs}
use Rattle.odb_device.proofs.Time.{joins, weakens, run_end}
use Rattle.odb_reclog.specs.Records.{log_of}
use Rattle.odb_reclog.specs.Standing.{Log, Stands as LogStands}
use Rattle.odb_model.specs.declared.entry.Entry.{Entry}
use Rattle.odb_model.specs.declared.side.OtherSide.{OtherSide}
use Rattle.odb_model.specs.declared.side.OtherSide.TheVariants.{Live, Dirty, Clean}
use Rattle.odb_model.specs.State.{IsNumberedFrom}
use Rattle.odb_transdb.specs.declared.header.Header.{Header}
use Rattle.odb_transdb.specs.declared.error.TransdbError.{TransdbError}
use Rattle.odb_transdb.specs.Header.{side_start, first_on, active_first, other_of, first_by, first_held}
use Rattle.odb_transdb.specs.Opened.{side_list, entries_from, side_entries, joined, entries_in}
use Rattle.odb_transdb.specs.Standing.{Db, IsOfSide, IsLiveBy, Stands}
use Rattle.odb_transdb.specs.Walking.{live_read, sides_read, IsReadOf, AddsPart, AddsSome, AreSome}
use Rattle.odb_transdb.proofs.Entries.{count_read}
use Rattle.odb_transdb.proofs.Opened.{read_by}
use Rattle.odb_transdb.proofs.Standing.{log_list, stands_has}
use Rattle.odb_transdb.proofs.Walking.{numbered_then}

pub drop_both : {A : Type 0} (k : ℕ) (a b : List A) → drop k (a ++ b) ≡ drop k a ++ drop (k - length a) b
drop_both {A} k a b = elim (cases_lt (length a) k) [
  | inr inside ↦
      let none : k - length a ≡ 0 = omega arith in
      drop-append-le k a b inside ∙ ap (λ (n : ℕ). drop k a ++ drop n b) (sym none)
  | inl behind ↦
      let whole : k ≡ length a + (k - length a) = omega arith in
      let gone : drop k a ≡ [] = drop_all k a (omega arith) in
      ap (λ (n : ℕ). drop n (a ++ b)) whole ∙ drop-append-add a b (k - length a) ∙ ap (λ (l : List A). l ++ drop (k - length a) b) (sym gone)
]

-- a walk behind another that left the file
pub reads_then : (file : ℕ) (w mid now : World) → file ≡ 0 → Runs 0 (λ f. f ≡ file_of 0 w) w mid → Runs file (λ f. f ≡ file_of file mid) mid now → Runs 0 (λ f. f ≡ file_of 0 w) w now
reads_then file w mid now zero first second =
    let same = run_end 0 (λ f. f ≡ file_of 0 w) w mid first in
    joins 0 (λ f. f ≡ file_of 0 w) w mid now first
    (weakens 0 (λ f. f ≡ file_of 0 mid) (λ f. f ≡ file_of 0 w) mid now (λ o is. is ∙ same) (subst (λ (k : ℕ). Runs k (λ f. f ≡ file_of k mid) mid now) zero second))

-- what the active log's list holds is what its side holds
pub active_entries : (h : Header) (side : ℕ) (log : Log) (bytes : List ℕ) → IsOfSide h side log → entries_from log.first log.start (log_of log.start log.end log.first bytes) ≡ side_entries h side bytes
active_entries h side log bytes is =
    ap (entries_from log.first log.start) (log_list h side log bytes is) ∙ ap (λ (n : ℕ). entries_from n log.start (side_list h side bytes)) is.first
    ∙ ap (λ (n : ℕ). entries_from (first_on h side) n (side_list h side bytes)) is.start

-- a Live side's entries go as far as the active side's first number
pub live_count : (h : Header) (log active : Log) (f : File) (all : List Entry) → IsOfSide h (other_of h) log → log.next ≡ active.first → active.first ≡ active_first h → LogStands log (Some f) → ReadsImage (Some f)
    → side_entries h (other_of h) f.bytes ≡ Ok all → first_on h (other_of h) + length all ≡ active_first h
live_count h log active f all is next first stands reads read =
    let one = stands f.bytes reads in
    let few = count_read (first_on h (other_of h)) (side_start h (other_of h)) (side_list h (other_of h) f.bytes) all read in
    let same = ap (length {A = List ℕ}) (log_list h (other_of h) log f.bytes is) in
    omega (arith, one.number, few, same, is.first, next, first)

-- the entries of both sides
pub both_read : (h : Header) (bytes : List ℕ) (from : ℕ) (front rest old new : List Entry) → live_read h h.other bytes ≡ Ok front → first_held h + length front ≡ active_first h → side_entries h h.active bytes ≡ Ok rest
    → old ≡ drop (from - first_held h) front → new ≡ old ++ drop (from - active_first h) rest → (sides_read h bytes ≡ Ok (front ++ rest)) × (new ≡ drop (from - first_held h) (front ++ rest))
both_read h bytes from front rest old new live count active old_is new_is =
    let skip : from - first_held h - length front ≡ from - active_first h = omega arith in (
      ap (λ (r : Result (List Entry) ℕ). joined r (side_entries h h.active bytes)) live ∙ ap (joined (Ok front)) active,
      new_is ∙ ap (λ (l : List Entry). l ++ drop (from - active_first h) rest) old_is
          ∙ ap (λ (n : ℕ). drop (from - first_held h) front ++ drop n rest) (sym skip) ∙ sym (drop_both (from - first_held h) front rest),
    )

pub both_numbers : (from first active next bytes : ℕ) (old new : List Entry) → first ≡ active → IsNumberedFrom from old → from + length old ≡ max from active → AddsPart from first next bytes old new → IsNumberedFrom from new × (from + length new ≡ max from next)
both_numbers from first active next bytes old new same numbered count part =
    let start : from + length old ≡ max from first = omega arith in (
      subst (IsNumberedFrom from) (sym part.1) (numbered_then from old part.0 numbered (subst (λ (n : ℕ). IsNumberedFrom n part.0) (sym start) part.2.numbers)),
      omega (arith, part.2.count, ap (length {A = Entry}) part.1, length-append old part.0),
    )

pub both_some : (from first active next : ℕ) (old new : List Entry) → first ≡ active → active ≤ next → IsNumberedFrom from old → from + length old ≡ max from active → AddsSome from first next old new → AreSome from next new
both_some from first active next old new same least numbered count some =
    let n = some.0 in
    let high = some.2 in
    let all = both_numbers from first active n some.1 old new same numbered count some.3 in
    (all.0, omega (arith, all.1, high, least))

-- those of a Live side alone
pub live_some : (from first next : ℕ) (old new : List Entry) → first ≤ from → old ≡ [] → AddsSome from first next old new → AreSome from next new
live_some from first next old new low none some =
    let part = some.3 in
    let start : max from first ≡ from = omega arith in
    let new_is : new ≡ part.0 = part.1 ∙ ap (λ (l : List Entry). l ++ part.0) none in (
      subst (IsNumberedFrom from) (sym new_is) (subst (λ (n : ℕ). IsNumberedFrom n part.0) start part.2.numbers),
      omega (arith, part.2.count, some.2, ap (length {A = Entry}) new_is),
    )

-- where there is a log of the other side, that is Live
pub record LiveIs (h : Header) (o : OtherSide) (log active : Log) : Type 0 where
  pub live : o ≡ Live
  pub side : IsOfSide h (other_of h) log
  pub next : log.next ≡ active.first
  pub usable : log.in_doubt ≡ false

pub live_is : (h : Header) (o : OtherSide) (live : Option Log) (log active : Log) → live ≡ Some log → IsLiveBy h o live active → LiveIs h o log active
live_is h Live (Some found) log active is by =
    let same : found ≡ log = cc is in
    subst (λ (l : Log). LiveIs h Live l active) same (record { live = refl; side = by.0; next = by.1; usable = by.2 })
live_is h Live None log active is by = absurd by
live_is h Dirty (Some found) log active is by = absurd by
live_is h Dirty None log active is by = absurd (cc is)
live_is h Clean (Some found) log active is by = absurd by
live_is h Clean None log active is by = absurd (cc is)

-- so its entries that were read are some of those before the active side's
pub live_adds : (h : Header) (log active : Log) (from : ℕ) (old new : List Entry) → LiveIs h h.other log active → IsOfSide h h.active active → first_held h ≤ from → old ≡ []
    → AddsSome from log.first log.next old new → AreSome from (active_first h) new
live_adds h log active from old new is side low none some =
    let first : first_held h ≡ first_on h (other_of h) = ap (first_by h) is.live in
    let next : log.next ≡ active_first h = is.next ∙ side.first in
    subst (λ (n : ℕ). AreSome from n new) next (live_some from log.first log.next old new (omega (arith, is.side.first, first, low)) none some)

pub live_told : (h : Header) (log active : Log) (o : Option File) (from : ℕ) (base items : List Entry) → LiveIs h h.other log active → IsOfSide h h.active active → LogStands log o → ReadsImage o → base ≡ []
    → IfSome o (λ f. (all : List Entry) × (entries_from log.first log.start (log_of log.start log.end log.first f.bytes) ≡ Ok all) × (items ≡ base ++ drop (from - log.first) all))
    → IfSome o (λ f. (all : List Entry) × (live_read h h.other f.bytes ≡ Ok all) × ((items ≡ drop (from - first_held h) all) × (first_held h + length all ≡ active_first h)))
live_told h log active None from base items is side stands reads none told = tt
live_told h log active (Some f) from base items is side stands reads none told =
    let all = told.0 in
    let read : side_entries h (other_of h) f.bytes ≡ Ok all = sym (active_entries h (other_of h) log f.bytes is.side) ∙ told.1 in
    let first : first_held h ≡ first_on h (other_of h) = ap (first_by h) is.live in
    let skip : from - log.first ≡ from - first_held h = ap (λ (n : ℕ). from - n) (is.side.first ∙ sym first) in (
      all,
      ap (λ (o : OtherSide). live_read h o f.bytes) is.live ∙ read,
      (
        told.2 ∙ ap (λ (l : List Entry). l ++ drop (from - log.first) all) none ∙ ap (λ (n : ℕ). drop n all) skip,
        ap (λ (n : ℕ). n + length all) first ∙ live_count h log active f all is.side is.next side.first stands reads read,
      ),
    )

-- what the two walks tell of a told file
pub both_told : (h : Header) (active : Log) (o : Option File) (from : ℕ) (old new result : List Entry) → IsOfSide h h.active active → result ≡ new
    → IfSome o (λ f. (all : List Entry) × (live_read h h.other f.bytes ≡ Ok all) × ((old ≡ drop (from - first_held h) all) × (first_held h + length all ≡ active_first h)))
    → IfSome o (λ f. (all : List Entry) × (entries_from active.first active.start (log_of active.start active.end active.first f.bytes) ≡ Ok all) × (new ≡ old ++ drop (from - active.first) all))
    → IfSome o (λ f. (all : List Entry) × (sides_read h f.bytes ≡ Ok all) × (result ≡ drop (from - first_held h) all))
both_told h active None from old new result side same front rest = tt
both_told h active (Some f) from old new result side same front rest =
    let read : side_entries h h.active f.bytes ≡ Ok rest.0 = sym (active_entries h h.active active f.bytes side) ∙ rest.1 in
    let new_is : new ≡ old ++ drop (from - active_first h) rest.0 = rest.2 ∙ ap (λ (n : ℕ). old ++ drop (from - n) rest.0) side.first in
    let both = both_read h f.bytes from front.0 rest.0 old new front.1 front.2.1 read front.2.0 new_is in
    (front.0 ++ rest.0, both.0, same ∙ both.1)

-- the entries of the sides, put together by the state of the other one
joined_none : (r : Result (List Entry) ℕ) → joined (Ok []) r ≡ r
joined_none (Ok entries) = refl
joined_none (Err at) = refl

pub sides_by : (h : Header) (o : OtherSide) (bytes : List ℕ) → joined (live_read h o bytes) (side_entries h h.active bytes) ≡ read_by h o bytes
sides_by h Live bytes = refl
sides_by h Dirty bytes = joined_none (side_entries h h.active bytes)
sides_by h Clean bytes = joined_none (side_entries h h.active bytes)

-- where the file stands, that is what a read of it gives
pub stands_read : (db : Db) (f : File) → Stands db (Some f) → ReadsImage (Some f) → sides_read db.header f.bytes ≡ Ok (entries_in (Some f))
stands_read db f stands reads = sides_by db.header db.header.other f.bytes ∙ (stands_has db (Some f) stands f.bytes reads).read

module _ (db : Db) (from : ℕ) (result : Result (List Entry) TransdbError) where
  given_entries : (read : Result (List Entry) ℕ) (entries : List Entry) (r : Result (List Entry) TransdbError) → read ≡ Ok entries → IsReadOf (λ all es. es ≡ drop (from - first_held db.header) all) read r
      → IfOk r (λ es. es ≡ drop (from - first_held db.header) entries)
  given_entries read entries (Ok es) is told = let same : told.0 ≡ entries = cc (told.1, is) in told.2 ∙ ap (λ (l : List Entry). drop (from - first_held db.header) l) same
  given_entries read entries (Err e) is told = tt

  pub given : (o : Option File) → Stands db o → ReadsImage o → IfSome o (λ f. IsReadOf (λ all es. es ≡ drop (from - first_held db.header) all) (sides_read db.header f.bytes) result)
      → IfSome o (λ f. IfOk result (λ es. es ≡ drop (from - first_held db.header) (entries_in (Some f))))
  given None stands reads told = tt
  given (Some f) stands reads told = given_entries (sides_read db.header f.bytes) (entries_in (Some f)) result (stands_read db f stands reads) told

-- a told file never refuses
pub never_damaged : (db : Db) (at : ℕ) (Q : File → Type 0) (o : Option File) → Stands db o → ReadsImage o → IfSome o (λ f. sides_read db.header f.bytes ≡ Err at) → IfSome o Q
never_damaged db at Q None stands reads told = tt
never_damaged db at Q (Some f) stands reads told = absurd (cc (told, stands_read db f stands reads))
