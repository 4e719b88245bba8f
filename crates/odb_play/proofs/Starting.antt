-- What an opening leaves, and a play behind it.
use Rattle.std.proofs.Common.{◌≡◌, ◌≢◌, ◌⊎◌, inl, inr, ℕ, ◌+◌, ◌-◌, Bool, false, List, [], length, drop, Option, Some, None, refl, sym, ◌∙◌, ap, subst, arith}
use Rattle.std.specs.Prelude.{IsSome, IfSome, is_some, take}
use Rattle.odb_device.specs.World.{File, Talk, World, present, file_of}
use Rattle.odb_device.specs.Images.{EachImage, ReadsImage}
use Rattle.odb_device.specs.Counts.{Adds}
use Rattle.odb_device.specs.Calls.{Keeps}
use Rattle.odb_device.specs.Moments.{Runs}
use Rattle.odb_device.specs.Steps.{Steps}
use Rattle.odb_device.proofs.Time.{changes_count, weakens}
use Rattle.odb_device.proofs.Stretches.{steps_of_run}
use Rattle.odb_kept.specs.Kept.{KeptBy}
use Rattle.odb_kept.proofs.Keeping.{step_within}
use Rattle.odb_kept.proofs.Running.{opened_then}
use Rattle.odb_model.specs.declared.entry.Entry.{Entry}
use Rattle.odb_model.specs.declared.status.Status.{Status}
use Rattle.odb_model.specs.declared.status.Status.TheVariants.{Done, Usage, ReadFault, WriteFault, FileFault, NoDatabase, Exists, Damaged, NotHeld, InputTooLong, NoMemory, NotACopy, Unfinished}
use Rattle.odb_machine.specs.Machine.{Machine, first_machine, history_or_more}
use Rattle.odb_model.specs.Script.{ended_lines, all_lines}
use Rattle.odb_model.specs.State.{IsNumberedFrom}
use Rattle.odb_model.specs.Width.{records_width}
use Rattle.odb_machine.specs.Play.{Answer, IsRun, Plays, PlayEnds, lines_so_far, most_input, text_of_answer}
use Rattle.odb_transdb.specs.declared.header.Header.{Header}
use Rattle.odb_transdb.specs.Header.{first_held, active_first}
use Rattle.odb_pair.specs.Places.{gate}
use Rattle.odb_transdb.specs.Opened.{Opened, no_database, holding, opened, entries_of, entries_in}
use Rattle.odb_transdb.specs.Standing.{Db, Stands, IsPlaced}
use Rattle.odb_transdb.specs.Answers.{KeepsOpened}
use Rattle.odb_transdb.specs.Worlds.{OpensAsBefore, OnlyClosesGates, HasClosedGates}
use Rattle.odb_transdb.specs.declared.error.TransdbError.{TransdbError}
use Rattle.odb_transdb.specs.declared.error.TransdbError.TheVariants.{NoDatabase as NoPair, Damaged as BadBytes, Full, FaultBefore, InDoubt, NotClean, Held as NotCovered, Fault, NoMemory as NoRoom}
use Rattle.odb_commit.specs.Standing.{sides_of}
use Rattle.odb_system.specs.Held.{Held, StandsFor, Begins}
use Rattle.odb_system.specs.Durable.{StandsBy, IsDurableBy}
use Rattle.odb_system.specs.Kept.{MayHaveSides, OpensBy, IsKept, Rests}
use Rattle.odb_transdb.proofs.Standing.{stands_settled}
use Rattle.odb_system.proofs.Keeping.{rests_log}
use Rattle.odb_play.specs.Outside.{RoseBy}
use Rattle.odb_play.specs.Crash.{IsFound, KeepsAtEntry, SurvivesCrashes, LosesNoCommit}
use Rattle.odb_play.specs.Part.{after_of, Along, IsHeard}
use Rattle.odb_play.specs.Played.{IsPlayed, IsPlayedOn}
use Rattle.odb_play.specs.Started.{IsStarted, machine_of, RefusesOpening, status_of}
use Rattle.odb_play.specs.Opening.{HoldsFrom, IsOpeningOf, IsPlayedFrom, IsRefused, PlayOutcome}
use Rattle.odb_play.proofs.Outside.{touches_run, touches_then, rose_by_wider, rise_wider}
use Rattle.odb_play.proofs.Parts.{audible}
use Rattle.odb_play.proofs.Commits.{loses_none}

plays_wider : (P Q : ℕ → ℕ → Type 0) (m : Machine) (lines : List (List ℕ)) (answers : List Answer) → ((file n : ℕ) → P file n → Q file n) → Plays P m lines answers → Plays Q m lines answers
plays_wider P Q m lines answers gives plays = record {
  run = plays.run;
  serial = plays.serial;
  risen = rise_wider P Q answers gives plays.risen;
  counted = λ file. gives file _ (plays.counted file);
}

-- a count that rose in a part of a call rose in the whole
ends_wider : (P Q : ℕ → ℕ → Type 0) (m : Machine) (status : Status) (begun ended : Bool) (input : List ℕ) (answers : List Answer) (output : List ℕ) → ((file n : ℕ) → P file n → Q file n)
    → PlayEnds P m status begun ended input answers output → PlayEnds Q m status begun ended input answers output
ends_wider P Q m Done begun ended input answers output gives ends = (ends.0, ends.1, (plays_wider P Q m (all_lines input) answers gives ends.2.0, ends.2.1))
ends_wider P Q m ReadFault begun ended input answers output gives ends = (ends.0, ends.1, (plays_wider P Q m (ended_lines input) answers gives ends.2.0, ends.2.1))
ends_wider P Q m InputTooLong begun ended input answers output gives ends = (ends.0, (plays_wider P Q m (ended_lines (take most_input input)) answers gives ends.1.0, ends.1.1))
ends_wider P Q m WriteFault begun ended input answers output gives ends =
    let s = ends.1 in
    (ends.0, (s.0, plays_wider P Q m (take s.0 (lines_so_far ended input)) answers gives s.1, s.2, s.3, s.4, s.5, s.6, s.7, s.8, s.9))
ends_wider P Q m NoMemory begun ended input answers output gives ends =
    let s = ends.1 in
    (ends.0, (s.0, plays_wider P Q m (take s.0 (lines_so_far ended input)) answers gives s.1, s.2, s.3, s.4, s.5, s.6))
ends_wider P Q m Usage begun ended input answers output gives ends = absurd ends
ends_wider P Q m (FileFault file) begun ended input answers output gives ends = absurd ends
ends_wider P Q m NoDatabase begun ended input answers output gives ends = absurd ends
ends_wider P Q m Exists begun ended input answers output gives ends = absurd ends
ends_wider P Q m (Damaged file at) begun ended input answers output gives ends = absurd ends
ends_wider P Q m (NotHeld bank mark first) begun ended input answers output gives ends = absurd ends
ends_wider P Q m (NotACopy bank file) begun ended input answers output gives ends = absurd ends
ends_wider P Q m (Unfinished file) begun ended input answers output gives ends = absurd ends

-- however it ends, the answers are those of a run
run_played : (P : ℕ → ℕ → Type 0) (m : Machine) (status : Status) (begun ended : Bool) (input : List ℕ) (answers : List Answer) (output : List ℕ) → PlayEnds P m status begun ended input answers output
    → (lines : List (List ℕ)) × IsRun m lines answers
run_played P m Done begun ended input answers output ends = (all_lines input, ends.2.0.run)
run_played P m ReadFault begun ended input answers output ends = (ended_lines input, ends.2.0.run)
run_played P m InputTooLong begun ended input answers output ends = (ended_lines (take most_input input), ends.1.0.run)
run_played P m WriteFault begun ended input answers output ends = (take ends.1.0 (lines_so_far ended input), ends.1.1.run)
run_played P m NoMemory begun ended input answers output ends = (take ends.1.0 (lines_so_far ended input), ends.1.1.run)
run_played P m Usage begun ended input answers output ends = absurd ends
run_played P m (FileFault file) begun ended input answers output ends = absurd ends
run_played P m NoDatabase begun ended input answers output ends = absurd ends
run_played P m Exists begun ended input answers output ends = absurd ends
run_played P m (Damaged file at) begun ended input answers output ends = absurd ends
run_played P m (NotHeld bank mark first) begun ended input answers output ends = absurd ends
run_played P m (NotACopy bank file) begun ended input answers output ends = absurd ends
run_played P m (Unfinished file) begun ended input answers output ends = absurd ends

-- the machine at entry, and what is read

-- an image that opens as one from before is kept as that is
kept_opened : (entry : Machine) (before image : List ℕ) → opened image ≡ opened before → IsKept entry 0 before → IsKept entry 0 image
kept_opened entry before image same kept = record {
  log = λ here. elim (kept.log refl) as (λ w. OpensBy entry entry.history image ⊎ OpensBy entry (history_or_more entry) image) [
    | inl now ↦ inl (opens_same entry.history now)
    | inr more ↦ inr (opens_same (history_or_more entry) more)
  ];
}
  where
    opens_same : (es : List Entry) → OpensBy entry es before → OpensBy entry es image
    opens_same es opens = record { header = opens.header; format = opens.format; sides = opens.sides; first = opens.first; holds = same ∙ opens.holds }

keeps_opened : (entry : Machine) (old now : Option File) → EachImage (IsKept entry 0) old → KeepsOpened old now → EachImage (IsKept entry 0) now
keeps_opened entry None now each keeps = subst (EachImage (IsKept entry 0)) (sym keeps) tt
keeps_opened entry (Some old) None each keeps = tt
keeps_opened entry (Some old) (Some f) each keeps = λ image is. let before = keeps image is in kept_opened entry before.0 image before.2 (each before.0 before.1)

-- no bytes are no database
no_bytes : opened [] ≡ no_database
unfolding opened gate
no_bytes = refl

opens_nothing : (h : Header) (es : List Entry) → opened [] ≡ holding h es → ⊥
opens_nothing h es e = let both : no_database ≡ holding h es = sym no_bytes ∙ e in cc

-- the file of TRANSDB is told, where a machine asks something of it
pub told_log : (entry : Machine) (old : World) → KeepsAtEntry entry old → IsSome (file_of 0 old)
told_log entry old keeps = elim (keeps.told 0) as (λ w. IsSome (file_of 0 old)) [
  | inl told ↦ told
  | inr all ↦ absurd (elim ((all []).log refl) as (λ w. ⊥) [ inl now ↦ opens_nothing now.header entry.history now.holds | inr more ↦ opens_nothing more.header (history_or_more entry) more.holds ])
]

found_by : (entry : Machine) (h : Header) (es : List Entry) (bytes : List ℕ) → opened bytes ≡ holding h es → IsKept entry 0 bytes → IsFound entry (first_machine h.format (sides_of h) es)
found_by entry h es bytes read kept = elim (kept.log refl) as (λ w. IsFound entry (first_machine h.format (sides_of h) es)) [
  | inl now ↦ let same = one_reading now.header entry.history now.holds in record { format = ap (λ (x : Header). x.format) same.0 ∙ sym now.format; sides = subst (λ (x : Header). MayHaveSides entry (sides_of x)) (sym same.0) now.sides; history = inl same.1 }
  | inr more ↦ let same = one_reading more.header (history_or_more entry) more.holds in record { format = ap (λ (x : Header). x.format) same.0 ∙ sym more.format; sides = subst (λ (x : Header). MayHaveSides entry (sides_of x)) (sym same.0) more.sides; history = inr same.1 }
]
  where
    one_reading : (g : Header) (gs : List Entry) → opened bytes ≡ holding g gs → (h ≡ g) × (es ≡ gs)
    one_reading g gs other = let both : holding h es ≡ holding g gs = sym read ∙ other in ((let x : h ≡ g = cc in x), (let y : es ≡ gs = cc in y))

pub found_read : (entry : Machine) (h : Header) (es : List Entry) (o : Option File) → IsSome o → EachImage (IsKept entry 0) o → ReadsImage o → IfSome o (λ f. opened f.bytes ≡ holding h es) → IsFound entry (first_machine h.format (sides_of h) es)
found_read entry h es None told each reads opens = cc
found_read entry h es (Some f) told each reads opens = found_by entry h es f.bytes opens (each f.bytes reads)

-- an opening, and a play behind it

module _ (m : Machine) (status : Status) (old mid new : World) (run : Runs 0 (KeepsOpened (file_of 0 old)) old mid) (rests : Rests m (present mid)) (played_on : IsPlayedOn m status mid new) where
  abbrev behind : IsPlayed m status mid new
  behind = played_on.played

  silent : (present mid).said ≡ (present old).said
  silent = run.only.said mid.time run.only.later (omega arith)

  pub played_behind : IsPlayed m status old new
  played_behind = record {
    only = touches_then 0 old mid new (touches_run 0 (KeepsOpened (file_of 0 old)) old mid run) behind.only;
    input = behind.input;
    output = behind.output;
    answers = behind.answers;
    takes = subst (λ (t : Talk). Adds behind.input t.taken new.talk.taken) run.only.talk behind.takes;
    says = subst (λ (o : Option (List ℕ)). Adds behind.output o (present new).said) silent behind.says;
    ends = subst (λ (t : Talk). PlayEnds (RoseBy old new) m status t.has_ended new.talk.has_ended behind.input behind.answers behind.output) run.only.talk
        (ends_wider (RoseBy mid new) (RoseBy old new) m status mid.talk.has_ended new.talk.has_ended behind.input behind.answers behind.output
        (λ file n rose. rose_by_wider old mid new new file n (changes_count 0 old mid run.only file) (omega arith) rose) behind.ends);
  }

  -- while the files are opened the machine at entry keeps them
  opening_kept : (entry : Machine) → KeptBy (IsKept entry) (present old) → Steps (KeptBy (IsKept entry)) old mid
  opening_kept entry keeps =
      step_within (IsKept entry) 0 old mid keeps
      (weakens 0 (KeepsOpened (file_of 0 old)) (EachImage (IsKept entry 0)) old mid (λ o opens. keeps_opened entry (file_of 0 old) o (keeps 0) opens) run)

  along_all : (entry : Machine) → KeptBy (IsKept entry) (present old) → Steps (Along entry m behind.answers (present old).said) old new
  along_all entry keeps =
      opened_then IsKept after_of text_of_answer entry m behind.answers old mid new audible (opening_kept entry keeps)
      (steps_of_run 0 (KeepsOpened (file_of 0 old)) old mid run).1 rests.keeps played_on.kept

  heard_all : IsHeard behind.answers old new
  heard_all = record {
    told = played_on.heard.told;
    untold = played_on.heard.untold;
    all = played_on.heard.all;
    alone = played_on.heard.alone;
    front = played_on.heard.front;
    rest = played_on.heard.rest;
    text = played_on.heard.text;
    says = subst (λ (o : Option (List ℕ)). Adds played_on.heard.front o (present new).said) silent played_on.heard.says;
  }

  pub survives : ((entry : Machine) → KeepsAtEntry entry old → IsFound entry m) → SurvivesCrashes m behind.answers old new
  survives found = λ entry keeps. (found entry keeps, along_all entry keeps.keeps)

  pub loses : LosesNoCommit m behind.answers old new
  loses = λ entry keeps.
      let lines = run_played (RoseBy mid new) m status mid.talk.has_ended new.talk.has_ended behind.input behind.answers behind.output behind.ends in
      loses_none m entry lines.0 behind.answers old new lines.1 (told_log entry old keeps) (along_all entry keeps.keeps) heard_all

-- what was opened, as it is told of
played_opens : (h : Header) (es : List Entry) (file : Option File) → IfSome file (λ f. opened f.bytes ≡ holding h es)
    → first_held h ≡ 1 → IfSome file (λ f. HoldsFrom h.format (sides_of h) es (opened f.bytes))
played_opens h es None opens whole = tt
played_opens h es (Some f) opens whole = (h, opens, refl, refl, whole)

-- a system in which nothing is in doubt has no halted book
unhalted : (held : Held) (es : List Entry) → StandsFor held (machine_of held es) → held.book.halted ≡ None
unhalted held es stands = stands.book.halted

-- the files rest behind it
pub rests_started : (held : Held) (old mid : World) (started : IsStarted held old mid) → Rests (machine_of held started.entries) (present mid)
rests_started held old mid started =
    rests_log (machine_of held started.entries) held.book.transdb (present mid) (record { format = refl; sides = refl; first = started.whole })
    (subst (λ (b : Bool). StandsBy b held.book.transdb (file_of 0 mid)) (started.stands.settled refl refl)
    (subst (λ (d : Option ℕ). IsDurableBy d held.book.transdb (file_of 0 mid)) (unhalted held started.entries started.stands) started.durable)) started.holds

pub played_from : (held : Held) (status : Status) (old mid new : World) → Runs 0 (KeepsOpened (file_of 0 old)) old mid → OnlyClosesGates old mid → ReadsImage (file_of 0 old) → (started : IsStarted held old mid)
    → IsPlayedOn (machine_of held started.entries) status mid new → IsPlayedFrom status old new
unfolding played_behind
played_from held status old mid new run gates reads started played =
    let m : Machine = machine_of held started.entries in
    let h : Header = held.book.transdb.header in
    let rests : Rests m (present mid) = rests_started held old mid started in
    record {
      format = h.format;
      sides = sides_of h;
      entries = started.entries;
      opens = played_opens h started.entries (file_of 0 old) started.opens started.whole;
      played = played_behind m status old mid new run rests played;
      begun = mid;
      opening = run;
      gates = gates;
      resting = rests;
      behind = played.causes;
      kept = played.kept;
      crash = survives m status old mid new run rests played
          (λ entry keeps. found_read entry h started.entries (file_of 0 old) (told_log entry old keeps) (keeps.keeps 0) reads started.opens);
      commits = loses m status old mid new run rests played;
    }

-- by the status

pub outcome_played : (status : Status) (old new : World) → IsPlayedFrom status old new → PlayOutcome status old new
outcome_played Done old new from = from
outcome_played ReadFault old new from = from
outcome_played WriteFault old new from = from
outcome_played InputTooLong old new from = from
outcome_played NoMemory old new from = inr from
outcome_played Usage old new from = absurd from.played.ends
outcome_played (FileFault file) old new from = absurd from.played.ends
outcome_played NoDatabase old new from = absurd from.played.ends
outcome_played Exists old new from = absurd from.played.ends
outcome_played (Damaged file at) old new from = absurd from.played.ends
outcome_played (NotHeld bank mark first) old new from = absurd from.played.ends
outcome_played (NotACopy bank file) old new from = absurd from.played.ends
outcome_played (Unfinished file) old new from = absurd from.played.ends

pub outcome_refused : (status : Status) (old new : World) → RefusesOpening status → IsRefused status old new → PlayOutcome status old new
outcome_refused NoMemory old new refusal refused = inl refused
outcome_refused (FileFault file) old new refusal refused = refused
outcome_refused NoDatabase old new refusal refused = refused
outcome_refused (Damaged file at) old new refusal refused = refused
outcome_refused (NotHeld bank mark first) old new refusal refused = refused
outcome_refused Done old new refusal refused = absurd refusal
outcome_refused Usage old new refusal refused = absurd refusal
outcome_refused ReadFault old new refusal refused = absurd refusal
outcome_refused WriteFault old new refusal refused = absurd refusal
outcome_refused Exists old new refusal refused = absurd refusal
outcome_refused InputTooLong old new refusal refused = absurd refusal
outcome_refused (NotACopy bank file) old new refusal refused = absurd refusal
outcome_refused (Unfinished file) old new refusal refused = absurd refusal

opening_of : (h : Header) (es : List Entry) (m : Machine) (status : Status) (what : Opened) (old new : World) → first_held h ≡ 1 → what ≡ holding h es → IsPlayed m status old new
    → IsOpeningOf status what
opening_of h es m Done what old new whole opens played = (h, es, opens, whole)
opening_of h es m ReadFault what old new whole opens played = (h, es, opens, whole)
opening_of h es m WriteFault what old new whole opens played = (h, es, opens, whole)
opening_of h es m InputTooLong what old new whole opens played = (h, es, opens, whole)
opening_of h es m NoMemory what old new whole opens played = tt
opening_of h es m (FileFault file) what old new whole opens played = tt
opening_of h es m Usage what old new whole opens played = absurd played.ends
opening_of h es m NoDatabase what old new whole opens played = absurd played.ends
opening_of h es m Exists what old new whole opens played = absurd played.ends
opening_of h es m (Damaged file at) what old new whole opens played = absurd played.ends
opening_of h es m (NotHeld bank mark first) what old new whole opens played = absurd played.ends
opening_of h es m (NotACopy bank file) what old new whole opens played = absurd played.ends
opening_of h es m (Unfinished file) what old new whole opens played = absurd played.ends

opening_by : (h : Header) (es : List Entry) (m : Machine) (status : Status) (file : Option File) (mid new : World) → first_held h ≡ 1
    → IfSome file (λ f. opened f.bytes ≡ holding h es) → IsPlayed m status mid new → IfSome file (λ f. IsOpeningOf status (opened f.bytes))
opening_by h es m status None mid new whole opens played = tt
opening_by h es m status (Some f) mid new whole opens played = opening_of h es m status (opened f.bytes) mid new whole opens played

pub opening_played : (held : Held) (m : Machine) (status : Status) (old mid new : World) → IsStarted held old mid → IsPlayed m status mid new → IfSome (file_of 0 old) (λ f. IsOpeningOf status (opened f.bytes))
opening_played held m status old mid new started played = opening_by held.book.transdb.header started.entries m status (file_of 0 old) mid new started.whole started.opens played

-- a play that was begun ends with no fault of a file
pub no_file_fault : (m : Machine) (status : Status) (file : ℕ) (old new : World) → IsPlayed m status old new → status ≡ FileFault file → ⊥
no_file_fault m status file old new played same = let P : Status → Type 0 = λ s. IsPlayed m s old new in (subst P same played).ends

-- the log begins with the entries read

pub begins_with : (db : Db) (es : List Entry) → first_held db.header ≡ 1 → db.active.in_doubt ≡ false → IsPlaced db → IsNumberedFrom (first_held db.header) es → first_held db.header + length es ≡ db.active.next
    → records_width (drop (active_first db.header - first_held db.header) es) ≡ db.active.place - db.active.start → Begins db es
begins_with db es whole usable placed numbered next width = record {
  numbered = subst (λ (n : ℕ). IsNumberedFrom n es) whole numbered;
  first = whole;
  next = omega (arith, next, whole);
  filled = subst (λ (n : ℕ). records_width (drop (active_first db.header - n) es) ≡ db.active.place - db.active.start) whole width;
  usable = usable;
  placed = placed;
}

-- the file that is left holds them
holds_read : (h : Header) (es : List Entry) (old now : Option File) → is_some now ≡ is_some old → IfSome old (λ f. opened f.bytes ≡ holding h es) → entries_in now ≡ entries_in old → IfSome now (λ f. entries_in (Some f) ≡ es)
holds_read h es old None told opens same = tt
holds_read h es None (Some g) told opens same = absurd (cc told)
holds_read h es (Some f) (Some g) told opens same = same ∙ ap entries_of opens

pub started_with : (held : Held) (db : Db) (es : List Entry) (old new : World) → Runs 0 (KeepsOpened (file_of 0 old)) old new → IfSome (file_of 0 old) (λ f. opened f.bytes ≡ holding db.header es)
    → entries_in (file_of 0 new) ≡ entries_in (file_of 0 old) → Stands db (file_of 0 new) → first_held db.header ≡ 1 → StandsFor held (first_machine db.header.format (sides_of db.header) es)
    → held.book.transdb ≡ db → held.book.halted ≡ None → IsStarted held old new
started_with held db es old new run opens same stands whole is transdb settled = record {
  entries = es;
  stands = subst (λ (d : Db). StandsFor held (first_machine d.header.format (sides_of d.header) es)) (sym transdb) is;
  durable = subst (λ (d : Option ℕ). IsDurableBy d held.book.transdb (file_of 0 new)) (sym settled)
      (subst (λ (d : Db). StandsBy d.pair.settled d (file_of 0 new)) (sym transdb)
      (subst (λ (b : Bool). StandsBy b db (file_of 0 new)) (sym (stands_settled db (file_of 0 new) stands).settled) stands));
  opens = subst (λ (d : Db). IfSome (file_of 0 old) (λ f. opened f.bytes ≡ holding d.header es)) (sym transdb) opens;
  holds = holds_read db.header es (file_of 0 old) (file_of 0 new) (run.only.told new.time run.only.later (omega arith)) opens same;
  whole = ap (λ (d : Db). first_held d.header) transdb ∙ whole;
}

-- what a refusal of the log leaves, by the status that it gives
pub refused_with : (error : TransdbError) (old new : World) → OpensAsBefore old new → OnlyClosesGates old new → (error ≢ Fault → HasClosedGates old new) → (error ≡ NoPair → Keeps 0 old new) → IsRefused (status_of error) old new
refused_with NoPair old new run bytes closed nothing = record { run = run; bytes = bytes; closed = λ never. closed (λ same. absurd (cc same)); nothing = λ same. nothing refl }
refused_with (BadBytes at) old new run bytes closed nothing = record { run = run; bytes = bytes; closed = λ never. closed (λ same. absurd (cc same)); nothing = λ same. absurd (cc same) }
refused_with NoRoom old new run bytes closed nothing = record { run = run; bytes = bytes; closed = λ never. closed (λ same. absurd (cc same)); nothing = λ same. absurd (cc same) }
refused_with Fault old new run bytes closed nothing = record { run = run; bytes = bytes; closed = λ never. absurd (never 0 refl); nothing = λ same. absurd (cc same) }
refused_with FaultBefore old new run bytes closed nothing = record { run = run; bytes = bytes; closed = λ never. absurd (never 0 refl); nothing = λ same. absurd (cc same) }
refused_with (Full need room) old new run bytes closed nothing = record { run = run; bytes = bytes; closed = λ never. absurd (never 0 refl); nothing = λ same. absurd (cc same) }
refused_with NotClean old new run bytes closed nothing = record { run = run; bytes = bytes; closed = λ never. absurd (never 0 refl); nothing = λ same. absurd (cc same) }
refused_with (NotCovered mark last) old new run bytes closed nothing = record { run = run; bytes = bytes; closed = λ never. absurd (never 0 refl); nothing = λ same. absurd (cc same) }
refused_with (InDoubt number) old new run bytes closed nothing = record { run = run; bytes = bytes; closed = λ never. absurd (never 0 refl); nothing = λ same. absurd (cc same) }

-- and a refusal behind an opening
pub refused_behind : (status : Status) (old new : World) → OpensAsBefore old new → OnlyClosesGates old new → HasClosedGates old new → status ≢ NoDatabase → IsRefused status old new
refused_behind status old new run bytes closed other = record { run = run; bytes = bytes; closed = λ never. closed; nothing = λ same. absurd (other same) }
