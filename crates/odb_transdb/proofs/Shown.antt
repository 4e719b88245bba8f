-- What the steps of an opening show.
use Rattle.std.proofs.Common.{◌≡◌, ◌⊎◌, inl, inr, ℕ, ◌+◌, ◌-◌, ◌≤◌, max, List, [], ◌++◌, length, drop, Option, Some, None, Result, Ok, Err, refl, sym, ◌∙◌, ap, subst, arith, length-append}
use Rattle.std.specs.Prelude.{IfSome}
use Rattle.std.proofs.Math.Seq.{drop-append-add}
use Rattle.odb_device.specs.World.{File}
use Rattle.odb_device.specs.Images.{ReadsImage, TornFrom}
use Rattle.odb_reclog.specs.Records.{log_of}
use Rattle.odb_reclog.specs.Standing.{Log, Stands as LogStands}
use Rattle.odb_reclog.proofs.Laws.{lists_beside}
use Rattle.odb_model.specs.declared.entry.Entry.{Entry}
use Rattle.odb_model.specs.declared.side.OtherSide.{OtherSide}
use Rattle.odb_model.specs.declared.side.OtherSide.TheVariants.{Live, Dirty, Clean}
use Rattle.odb_model.specs.State.{IsNumberedFrom}
use Rattle.odb_model.specs.Width.{records_width}
use Rattle.odb_transdb.specs.declared.header.Header.{Header}
use Rattle.odb_transdb.specs.declared.error.TransdbError.{TransdbError}
use Rattle.odb_transdb.specs.declared.error.TransdbError.TheVariants.{NoDatabase, Damaged, Full, FaultBefore, InDoubt, NotClean, Held, Fault, NoMemory}
use Rattle.odb_transdb.specs.Header.{side_start, side_end, first_on, active_first, other_of, first_by, first_held}
use Rattle.odb_transdb.specs.Opened.{Opened, damaged, side_list, entries_from, side_entries, joined, with_entries, with_sides}
use Rattle.odb_transdb.specs.Standing.{IsOfSide, IsLiveBy}
use Rattle.odb_transdb.specs.Answers.{IsAnswerBy}
use Rattle.odb_transdb.specs.Walking.{live_read, IsReadOf, AddsPart}
use Rattle.odb_transdb.proofs.Opened.{sound_sides}
use Rattle.odb_transdb.proofs.Standing.{log_list}
use Rattle.odb_transdb.proofs.Sides.{IsInside, active_sides, beside}
use Rattle.odb_transdb.proofs.Walking.{numbered_then}

-- a refusal is the same whatever was to be answered
pub answer_err : {T U : Type 0} (P : T → Opened → Type 0) (Q : U → Opened → Type 0) (what shown : Opened) (e : TransdbError) → what ≡ shown → IsAnswerBy P (Err e) shown → IsAnswerBy Q (Err e) what
answer_err P Q what shown NoDatabase same told = same ∙ told
answer_err P Q what shown (Damaged at) same told = same ∙ told
answer_err P Q what shown (Full need room) same told = absurd told
answer_err P Q what shown NotClean same told = absurd told
answer_err P Q what shown (Held mark last) same told = absurd told
answer_err P Q what shown FaultBefore same told = absurd told
answer_err P Q what shown (InDoubt number) same told = absurd told
answer_err P Q what shown Fault same told = tt
answer_err P Q what shown NoMemory same told = tt

-- a record that is no entry decides what the bytes stand for
pub read_answer : {T U : Type 0} (P : List Entry → T → Type 0) (Q : U → Opened → Type 0) (what : Opened) (read : Result (List Entry) ℕ) (e : TransdbError) → ((at : ℕ) → read ≡ Err at → what ≡ damaged at) → IsReadOf P read (Err e)
    → IsAnswerBy Q (Err e) what
read_answer P Q what read NoDatabase gives told = absurd told
read_answer P Q what read (Damaged at) gives told = gives at told
read_answer P Q what read (Full need room) gives told = absurd told
read_answer P Q what read NotClean gives told = absurd told
read_answer P Q what read (Held mark last) gives told = absurd told
read_answer P Q what read FaultBefore gives told = absurd told
read_answer P Q what read (InDoubt number) gives told = absurd told
read_answer P Q what read Fault gives told = tt
read_answer P Q what read NoMemory gives told = tt

-- of a Live side
module _ (h : Header) (live : h.other ≡ Live) (payloads : List (List ℕ)) where
  abbrev other_entries : Result (List Entry) ℕ
  other_entries = entries_from (first_on h (other_of h)) (side_start h (other_of h)) payloads

  pub live_refused : {T U : Type 0} (P : List Entry → T → Type 0) (Q : File → U → Opened → Type 0) (o : Option File) (e : TransdbError) → IfSome o (λ f. payloads ≡ side_list h (other_of h) f.bytes)
      → first_on h (other_of h) + length payloads ≡ active_first h → IsReadOf P other_entries (Err e) → IfSome o (λ f. IsAnswerBy (Q f) (Err e) (with_sides h h.other f.bytes))
  live_refused P Q None e read ends told = tt
  live_refused P Q (Some f) e read ends told = read_answer P (Q f) (with_sides h h.other f.bytes) other_entries e gives told
    where
      sound : first_on h (other_of h) + length (side_list h (other_of h) f.bytes) ≡ active_first h
      sound = ap (λ (l : List (List ℕ)). first_on h (other_of h) + length l) (sym read) ∙ ends

      gives : (at : ℕ) → other_entries ≡ Err at → with_sides h h.other f.bytes ≡ damaged at
      gives at is =
          let entries : side_entries h (other_of h) f.bytes ≡ Err at = ap (entries_from (first_on h (other_of h)) (side_start h (other_of h))) (sym read) ∙ is in
          ap (λ (o : OtherSide). with_sides h o f.bytes) live ∙ sound_sides h Live f.bytes sound
          ∙ ap (λ (r : Result (List Entry) ℕ). with_entries h (joined r (side_entries h h.active f.bytes))) entries

  pub live_numbered : (bytes : ℕ) (base items : List Entry) → base ≡ [] → first_on h (other_of h) + length payloads ≡ active_first h
      → AddsPart (first_on h (other_of h)) (first_on h (other_of h)) (first_on h (other_of h) + length payloads) bytes base items
      → IsNumberedFrom (first_held h) items × (first_held h + length items ≡ active_first h)
  live_numbered bytes base items none ends part =
      let first : first_held h ≡ first_on h (other_of h) = ap (first_by h) live in
      let same : items ≡ part.0 = part.1 ∙ ap (λ (l : List Entry). l ++ part.0) none in
      let start : max (first_on h (other_of h)) (first_on h (other_of h)) ≡ first_held h = omega (arith, first) in (
        subst (IsNumberedFrom (first_held h)) (sym same) (subst (λ (n : ℕ). IsNumberedFrom n part.0) start part.2.numbers),
        omega (arith, first, ap (length {A = Entry}) same, part.2.count, ends),
      )

-- they stay while the active side's log is opened
live_list : (h : Header) (log : Log) (at n : ℕ) (f g : File) → h.active ≤ 1 → IsInside h h.active at n → IsOfSide h (other_of h) log → LogStands log (Some f) → TornFrom at n (Some f) (Some g) → ReadsImage (Some g)
    → side_list h (other_of h) g.bytes ≡ side_list h (other_of h) f.bytes
live_list h log at n f g low inside is stands torn reads =
    let b = torn g.bytes reads in
    let one = stands b.0 b.1 in
    let same : log_of log.start log.end log.first g.bytes ≡ log_of log.start log.end log.first b.0 =
    lists_beside log.start log.end log.first at n b.0 g.bytes one.long b.2 (apart (beside h h.active (other_of h) at n (active_sides h low) inside)) in
    sym (log_list h (other_of h) log g.bytes is) ∙ same ∙ one.list ∙ log_list h (other_of h) log f.bytes is
  where
    apart : (at + n ≤ side_start h (other_of h)) ⊎ (side_end h (other_of h) ≤ at) → (at + n ≤ log.start) ⊎ (log.end ≤ at)
    apart (inl before) = inl (omega (arith, is.start))
    apart (inr behind) = inr (omega (arith, is.end))

live_same : (h : Header) (o : OtherSide) (live : Option Log) (active : Log) (at n : ℕ) (f g : File) → h.active ≤ 1 → IsInside h h.active at n → IsLiveBy h o live active → IfSome live (λ log. LogStands log (Some f))
    → TornFrom at n (Some f) (Some g) → ReadsImage (Some g) → live_read h o g.bytes ≡ live_read h o f.bytes
live_same h Live (Some log) active at n f g low inside by lives torn reads =
    ap (entries_from (first_on h (other_of h)) (side_start h (other_of h))) (live_list h log at n f g low inside by.0 lives torn reads)
live_same h Live None active at n f g low inside by lives torn reads = absurd by
live_same h Dirty live active at n f g low inside by lives torn reads = refl
live_same h Clean live active at n f g low inside by lives torn reads = refl

pub live_still : (h : Header) (live : Option Log) (active : Log) (at n : ℕ) (front : List Entry) (mid now : Option File) → h.active ≤ 1 → IsInside h h.active at n → IsLiveBy h h.other live active
    → IfSome live (λ log. LogStands log mid) → TornFrom at n mid now → ReadsImage now → IfSome mid (λ f. live_read h h.other f.bytes ≡ Ok front) → IfSome now (λ g. live_read h h.other g.bytes ≡ Ok front)
live_still h live active at n front mid None low inside by lives torn reads read = tt
live_still h live active at n front None (Some g) low inside by lives torn reads read = absurd (cc torn)
live_still h live active at n front (Some f) (Some g) low inside by lives torn reads read = live_same h h.other live active at n f g low inside by lives torn reads ∙ read

-- the numbers of all of the entries, and the width of the active side's
pub all_numbered : (held first next bytes : ℕ) (front all : List Entry) → IsNumberedFrom held front → held + length front ≡ first → first ≤ next → AddsPart first first next bytes front all
    → IsNumberedFrom held all × (held + length all ≡ next)
all_numbered held first next bytes front all numbered count least part =
    let start : max first first ≡ held + length front = omega (arith, count) in (
      subst (IsNumberedFrom held) (sym part.1) (numbered_then held front part.0 numbered (subst (λ (n : ℕ). IsNumberedFrom n part.0) start part.2.numbers)),
      omega (arith, part.2.count, count, ap (length {A = Entry}) part.1, length-append front part.0),
    )

pub active_width : (held first next bytes : ℕ) (front all : List Entry) → held + length front ≡ first → AddsPart first first next bytes front all → records_width (drop (first - held) all) ≡ bytes
active_width held first next bytes front all count part =
    let skip : first - held ≡ length front + 0 = omega (arith, count) in
    ap (λ (l : List Entry). records_width (drop (first - held) l)) part.1 ∙ ap (λ (n : ℕ). records_width (drop n (front ++ part.0))) skip
    ∙ ap records_width (drop-append-add front part.0 0) ∙ part.2.width (omega arith)
