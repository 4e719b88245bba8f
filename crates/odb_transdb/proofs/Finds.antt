-- What an opening finds.
use Rattle.std.proofs.Common.{◌≡◌, ℕ, ◌+◌, List, ◌++◌, length, Option, Some, None, Result, Ok, Err, refl, sym, ◌∙◌, ap, subst, arith, length-append}
use Rattle.std.specs.Prelude.{is_some, IfSome}
use Rattle.std.proofs.lemmas.Bool.{false≢true}
use Rattle.odb_device.specs.World.{File}
use Rattle.odb_device.specs.Images.{ReadsImage}
use Rattle.odb_device.proofs.Torn.{each_weakens}
use Rattle.odb_pair.specs.Places.{holding as holding_value, opened as pair_opened}
use Rattle.odb_pair.specs.Standing.{PairState, StandsFor as PairStandsFor}
use Rattle.odb_reclog.specs.Standing.{Log, Stands as LogStands}
use Rattle.odb_model.specs.declared.entry.Entry.{Entry}
use Rattle.odb_model.specs.declared.side.OtherSide.{OtherSide}
use Rattle.odb_model.specs.declared.side.OtherSide.TheVariants.{Live, Dirty, Clean}
use Rattle.odb_transdb.specs.declared.header.Header.{Header}
use Rattle.odb_transdb.specs.declared.error.TransdbError.{TransdbError}
use Rattle.odb_transdb.specs.declared.error.TransdbError.TheVariants.{NoDatabase, Damaged, Full, FaultBefore, InDoubt, NotClean, Held, Fault, NoMemory}
use Rattle.odb_transdb.specs.Header.{side_start, first_on, active_first, other_of, first_by, first_held}
use Rattle.odb_transdb.specs.Opened.{Opened, holding, side_list, side_entries, joined, with_entries, first_other, with_sides, with_header, opened, entries_of, entries_in}
use Rattle.odb_transdb.specs.Standing.{Db, IsOfSide, IsLiveBy, IsSettled, HasPlaces, Stands}
use Rattle.odb_transdb.specs.Answers.{IsAnswerBy, IsOpenAnswer}
use Rattle.odb_transdb.specs.Walking.{live_read, sides_read, IsReadOf}
use Rattle.odb_transdb.specs.Opening.{IsUnless, IsChecked}
use Rattle.odb_transdb.proofs.Opened.{IsSound, Has, read_by, by_sides, opens_read, holds_has}
use Rattle.odb_transdb.proofs.Entries.{count_read}
use Rattle.odb_transdb.proofs.Standing.{log_list, stands_made}
use Rattle.odb_transdb.proofs.Joining.{sides_by, live_count}
use Rattle.odb_transdb.proofs.Begun.{IsBased, AreBased, IsOfPair, pair_opens}
use Rattle.odb_transdb.proofs.Shown.{answer_err, read_answer}

-- damage as it was shown
pub unless_answer : {T U : Type 0} (P : T → Type 0) (Q : U → Opened → Type 0) (what shown : Opened) (e : TransdbError) → what ≡ shown → IsUnless shown P (Err e) → IsAnswerBy Q (Err e) what
unless_answer P Q what shown NoDatabase same told = absurd told
unless_answer P Q what shown (Damaged at) same told = same ∙ told
unless_answer P Q what shown (Full need room) same told = absurd told
unless_answer P Q what shown NotClean same told = absurd told
unless_answer P Q what shown (Held mark last) same told = absurd told
unless_answer P Q what shown FaultBefore same told = absurd told
unless_answer P Q what shown (InDoubt number) same told = absurd told
unless_answer P Q what shown Fault same told = tt
unless_answer P Q what shown NoMemory same told = absurd told

pub record Parts (a b : Result (List Entry) ℕ) (all : List Entry) : Type 0 where
  pub front : List Entry
  pub rest : List Entry
  pub first : a ≡ Ok front
  pub second : b ≡ Ok rest
  pub both : all ≡ front ++ rest

pub joined_parts : (a b : Result (List Entry) ℕ) (all : List Entry) → joined a b ≡ Ok all → Parts a b all
joined_parts (Ok front) (Ok rest) all is = let same : front ++ rest ≡ all = cc is in record { front = front; rest = rest; first = refl; second = refl; both = sym same }
joined_parts (Ok front) (Err at) all is = absurd (cc is)
joined_parts (Err at) b all is = absurd (cc is)

module _ (h : Header) (active : Log) (f : File) (side : IsOfSide h h.active active) (stands : LogStands active (Some f)) (reads : ReadsImage (Some f)) where
  -- the active side's entries go as far as its log
  active_count : (rest : List Entry) → side_entries h h.active f.bytes ≡ Ok rest → active_first h + length rest ≡ active.next
  active_count rest read =
      let one = stands f.bytes reads in
      let few = count_read (first_on h h.active) (side_start h h.active) (side_list h h.active f.bytes) rest read in
      let same = ap (length {A = List ℕ}) (log_list h h.active active f.bytes side) in
      omega (arith, one.number, few, same, side.first)

  held_count : (o : OtherSide) (live : Option Log) (all : List Entry) → IsLiveBy h o live active → IfSome live (λ log. LogStands log (Some f)) → read_by h o f.bytes ≡ Ok all → first_by h o + length all ≡ active.next
  held_count Live (Some log) all by lives read =
      let parts = joined_parts (side_entries h (other_of h) f.bytes) (side_entries h h.active f.bytes) all read in
      omega (arith, live_count h log active f parts.front by.0 by.1 side.first lives reads parts.first, active_count parts.rest parts.second, ap (length {A = Entry}) parts.both, length-append parts.front parts.rest)
  held_count Live None all by lives read = absurd by
  held_count Dirty (Some log) all by lives read = absurd by
  held_count Dirty None all by lives read = active_count all read
  held_count Clean (Some log) all by lives read = absurd by
  held_count Clean None all by lives read = active_count all read

  -- the other side is as its state says
  sound_now : (o : OtherSide) (live : Option Log) → IsLiveBy h o live active → IfSome live (λ log. LogStands log (Some f)) → (o ≡ Clean → first_other h (other_of h) f.bytes ≡ None) → IsSound h o f.bytes
  sound_now Live (Some log) by lives clean =
      let one = lives f.bytes reads in
      let same = ap (length {A = List ℕ}) (log_list h (other_of h) log f.bytes by.0) in
      omega (arith, one.number, same, by.0.first, by.1, side.first)
  sound_now Live None by lives clean = absurd by
  sound_now Dirty (Some log) by lives clean = absurd by
  sound_now Dirty None by lives clean = tt
  sound_now Clean (Some log) by lives clean = absurd by
  sound_now Clean None by lives clean = clean refl

-- when both logs are open
pub record AreOpen (pair : PairState) (h : Header) (live : Option Log) (active : Log) (o now : Option File) : Type 0 where
  pub based : AreBased pair h o now
  pub told : is_some now ≡ is_some o
  pub reads : ReadsImage now
  pub side : IsOfSide h h.active active
  pub stands : LogStands active now
  pub by : IsLiveBy h h.other live active
  pub lives : IfSome live (λ log. LogStands log now)

module _ (pair : PairState) (h : Header) (live : Option Log) (active : Log) (o now : Option File) (are : AreOpen pair h live active o now) where
  -- the bytes hold what both sides hold
  shows : (f g : File) → AreOpen pair h live active (Some f) (Some g) → opened f.bytes ≡ with_entries h (sides_read h g.bytes)
  shows f g are =
      let one = are.based g.bytes are.reads in
      let sound = sound_now h active g are.side are.stands are.reads h.other live are.by are.lives one.clean in
      sym one.opens ∙ opens_read h g.bytes (record { has = one.has; sound = sound }) ∙ ap (with_entries h) (sym (sides_by h h.other g.bytes))

  abbrev pub ReadNow : Option File → Type 0
  ReadNow now = IfSome now (λ g. (all : List Entry) × (sides_read h g.bytes ≡ Ok all))

  abbrev pub made : List ℕ → List ℕ → Db
  made places live_places = record { header = h; pair = pair; active = active; live = live; places = places; live_places = live_places }

  pub stands_sides : (p q : List ℕ) → IsSettled (made p q) → ReadNow now → IfSome now (λ g. HasPlaces (made p q) (Some g)) → Stands (made p q) now
  stands_sides p q settled read places = of_files o now are read places
    where
      of_files : (o now : Option File) → AreOpen pair h live active o now → ReadNow now → IfSome now (λ g. HasPlaces (made p q) (Some g)) → Stands (made p q) now
      of_files None now are read places = subst (Stands (made p q)) (sym are.based) settled
      of_files (Some f) None are read places = settled
      of_files (Some f) (Some g) are read places =
          let holds = shows f g are ∙ ap (with_entries h) read.1 in
          let by_state = sym (sides_by h h.other g.bytes) ∙ read.1 in
          stands_made (made p q) read.0 (Some g) are.reads are.stands are.lives
          (each_weakens (IsBased pair h (opened f.bytes)) (PairStandsFor pair) (Some g) (λ image one. one.pair_is) are.based)
          (each_weakens (IsBased pair h (opened f.bytes)) (Has h read.0) (Some g) (λ image one. holds_has h read.0 image (one.opens ∙ holds)) are.based)
          (held_count h active g are.side are.stands are.reads h.other live read.0 are.by are.lives by_state) settled places

  pub entries_sides : entries_in now ≡ entries_in o
  entries_sides = of_files o now are
    where
      of_files : (o now : Option File) → AreOpen pair h live active o now → entries_in now ≡ entries_in o
      of_files None now are = ap entries_in are.based
      of_files (Some f) None are = absurd (false≢true are.told)
      of_files (Some f) (Some g) are = ap entries_of (are.based g.bytes are.reads).opens

-- what the sides' lengths and zeros show, and what a Live side's end and its records show
pub refused_check : {U : Type 0} (Q : U → Opened → Type 0) (pair : PairState) (h : Header) (o : Option File) (e : TransdbError) → IsOfPair pair h → IfSome o (λ f. pair_opened f.bytes ≡ holding_value pair.value)
    → IfSome o (λ f. IsUnless {T = Unit {0}} (with_header (Some h) f.bytes) (λ _. IsChecked h f.bytes) (Err e)) → IfSome o (λ f. IsAnswerBy Q (Err e) (opened f.bytes))
refused_check Q pair h None e of found told = tt
refused_check Q pair h (Some f) e of found told = unless_answer {T = Unit {0}} (λ _. IsChecked h f.bytes) Q (opened f.bytes) (with_header (Some h) f.bytes) e (pair_opens pair h f.bytes of found) told

pub refused_live : {T U : Type 0} (P : File → T → Opened → Type 0) (Q : U → Opened → Type 0) (pair : PairState) (h : Header) (o mid : Option File) (e : TransdbError) → mid ≡ o → ReadsImage o → AreBased pair h o o
    → IfSome mid (λ f. IsAnswerBy (P f) (Err e) (with_sides h h.other f.bytes)) → IfSome o (λ f. IsAnswerBy Q (Err e) (opened f.bytes))
refused_live {T} {U} P Q pair h o mid e same reads based told = of_file o reads based (subst (λ (x : Option File). IfSome x (λ f. IsAnswerBy (P f) (Err e) (with_sides h h.other f.bytes))) same told)
  where
    of_file : (o : Option File) → ReadsImage o → AreBased pair h o o → IfSome o (λ f. IsAnswerBy (P f) (Err e) (with_sides h h.other f.bytes)) → IfSome o (λ f. IsAnswerBy Q (Err e) (opened f.bytes))
    of_file None reads based told = tt
    of_file (Some f) reads based told = answer_err (P f) Q (opened f.bytes) (with_sides h h.other f.bytes) e (by_sides h f.bytes (based f.bytes reads).has) told

-- The entries of the other side were read, of the file as it is now
pub record HasFront (pair : PairState) (h : Header) (front : List Entry) (o now : Option File) : Type 0 where
  pub based : AreBased pair h o now
  pub told : is_some now ≡ is_some o
  pub reads : ReadsImage now
  pub read : IfSome now (λ g. live_read h h.other g.bytes ≡ Ok front)
  pub count : first_held h + length front ≡ active_first h

sound_read : (h : Header) (o : OtherSide) (bytes : List ℕ) (front : List Entry) → live_read h o bytes ≡ Ok front → first_by h o + length front ≡ active_first h → (o ≡ Clean → first_other h (other_of h) bytes ≡ None) → IsSound h o bytes
sound_read h Live bytes front read count clean = omega (arith, count, count_read (first_on h (other_of h)) (side_start h (other_of h)) (side_list h (other_of h) bytes) front read)
sound_read h Dirty bytes front read count clean = tt
sound_read h Clean bytes front read count clean = clean refl

module _ (pair : PairState) (h : Header) (front : List Entry) where
  -- then the active side decides
  shows_rest : (f g : File) → HasFront pair h front (Some f) (Some g) → opened f.bytes ≡ with_entries h (joined (Ok front) (side_entries h h.active g.bytes))
  shows_rest f g has =
      let one = has.based g.bytes has.reads in
      let sound = sound_read h h.other g.bytes front has.read has.count one.clean in
      sym one.opens ∙ opens_read h g.bytes (record { has = one.has; sound = sound }) ∙ ap (with_entries h) (sym (sides_by h h.other g.bytes))
      ∙ ap (λ (r : Result (List Entry) ℕ). with_entries h (joined r (side_entries h h.active g.bytes))) has.read

  pub refused_rest : {T U : Type 0} (P : List Entry → T → Type 0) (Q : U → Opened → Type 0) (o now : Option File) (e : TransdbError) → HasFront pair h front o now → IfSome now (λ g. IsReadOf P (side_entries h h.active g.bytes) (Err e))
      → IfSome o (λ f. IsAnswerBy Q (Err e) (opened f.bytes))
  refused_rest P Q None now e has told = tt
  refused_rest P Q (Some f) None e has told = absurd (false≢true has.told)
  refused_rest P Q (Some f) (Some g) e has told =
      read_answer P Q (opened f.bytes) (side_entries h h.active g.bytes) e
      (λ at is. shows_rest f g has ∙ ap (λ (r : Result (List Entry) ℕ). with_entries h (joined (Ok front) r)) is) told

  module _ (all : List Entry) where
    -- or both hold these entries
    abbrev pub Rest : Option File → Type 0
    Rest now = IfSome now (λ g. (rest : List Entry) × (side_entries h h.active g.bytes ≡ Ok rest) × (all ≡ front ++ rest))

    pub found_all : (o now : Option File) → HasFront pair h front o now → Rest now → IfSome o (λ f. opened f.bytes ≡ holding h all)
    found_all None now has read = tt
    found_all (Some f) None has read = absurd (false≢true has.told)
    found_all (Some f) (Some g) has read =
        shows_rest f g has ∙ ap (λ (r : Result (List Entry) ℕ). with_entries h (joined (Ok front) r)) read.1 ∙ ap (holding h) (sym read.2)

    pub read_all : (o now : Option File) → HasFront pair h front o now → Rest now → IfSome now (λ g. (entries : List Entry) × (sides_read h g.bytes ≡ Ok entries))
    read_all o None has read = tt
    read_all o (Some g) has read = (
      front ++ read.0,
      ap (λ (r : Result (List Entry) ℕ). joined r (side_entries h h.active g.bytes)) has.read ∙ ap (joined (Ok front)) read.1,
    )

-- `open` answers less of what was found
pub open_answer : (o : Option File) (db : Db) (entries : List Entry) → IfSome o (λ f. opened f.bytes ≡ holding db.header entries) → IfSome o (λ f. IsOpenAnswer (Ok db) (opened f.bytes))
open_answer None db entries found = tt
open_answer (Some f) db entries found = (entries, found)

pub open_refusal : {T U : Type 0} (P : T → Opened → Type 0) (Q : U → Opened → Type 0) (o : Option File) (e : TransdbError) → IfSome o (λ f. IsAnswerBy P (Err e) (opened f.bytes)) → IfSome o (λ f. IsAnswerBy Q (Err e) (opened f.bytes))
open_refusal P Q None e told = tt
open_refusal P Q (Some f) e told = answer_err P Q (opened f.bytes) (opened f.bytes) e refl told
