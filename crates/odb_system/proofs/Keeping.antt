-- How the files of a machine are kept through a step that writes TRANSDB alone.
use Rattle.std.proofs.Common.{◌≡◌, ◌≢◌, ◌⊎◌, inl, inr, ℕ, ◌+◌, ◌-◌, ◌≤◌, Bool, true, false, ◌==◌, List, [], ◌∷◌, ◌++◌, length, Option, Some, None, option_map, Result, Ok, Err, sym, ◌∙◌, ap, subst, refl, arith, eqb-true}
use Rattle.std.specs.Prelude.{is_some, IfSome}
use Rattle.odb_device.specs.World.{File, Moment, World, present, file_of}
use Rattle.odb_device.specs.Images.{IsImage, EachImage, TornFrom, end_of}
use Rattle.odb_device.specs.Calls.{FileCountRose}
use Rattle.odb_device.specs.Moments.{ChangesOnly, Runs}
use Rattle.odb_device.specs.Steps.{Steps, IsQuiet}
use Rattle.odb_device.proofs.Time.{begins, weakens, run_end, rose_behind}
use Rattle.odb_device.proofs.Stretches.{steps_of_run}
use Rattle.odb_device.proofs.Torn.{each_weakens, stays_from}
use Rattle.odb_kept.specs.Kept.{KeptBy, KeptByEither, KeptElsewhere}
use Rattle.odb_kept.proofs.Keeping.{kept_whole, step_kept}
use Rattle.odb_model.specs.declared.entry.Entry.{Entry}
use Rattle.odb_model.specs.declared.reply.Head.{Head}
use Rattle.odb_model.specs.declared.reply.Reply.{Reply}
use Rattle.odb_model.specs.declared.reply.Reply.TheVariants.{Committed, Fault, InDoubt, Turned}
use Rattle.odb_machine.specs.Sides.{Sides}
use Rattle.odb_machine.specs.Clearing.{next_in}
use Rattle.odb_machine.specs.Book.{Book, with_entry, with_doubted}
use Rattle.odb_machine.specs.Machine.{Machine, book_of, with_doubt, history_or_more}
use Rattle.odb_codec.specs.Image.{entry_image}
use Rattle.odb_transdb.specs.declared.header.Header.{Header}
use Rattle.odb_transdb.specs.Header.{first_held}
use Rattle.odb_transdb.specs.Opened.{Holds, holding, entries_in}
use Rattle.odb_transdb.specs.Standing.{Db, Stands}
use Rattle.odb_transdb.specs.Answers.{HoldsAll, HoldsAllOrMore}
use Rattle.odb_transdb.specs.Worlds.{RoseAtGate, WritesFromGate, WritesRecord, WritesBehindGate}
use Rattle.odb_commit.specs.declared.error.CommitError.{CommitError}
use Rattle.odb_commit.specs.declared.error.CommitError.TheVariants as e
use Rattle.odb_commit.specs.Parts.{Parts}
use Rattle.odb_commit.specs.Sealing.{IsSealed, Forces}
use Rattle.odb_commit.specs.Standing.{sides_of}
use Rattle.odb_system.specs.Held.{Begins, HasCauses, sealing_reply, told_by}
use Rattle.odb_system.specs.Durable.{Risen}
use Rattle.odb_system.specs.Kept.{AreSidesBy, OpensBy, IsKept, Rests, BehindPair, RoseFromGate, IsDoubtCaused, WritesWithinLog, StepWrites}
use Rattle.odb_system.proofs.Carried.{is_plain, Moved}

-- of the other files nothing is asked
pub nothing_else : (m : Machine) (g : ℕ) (image : List ℕ) → g ≢ 0 → IsKept m g image
nothing_else m g image other = record { log = λ here. absurd (other here) }

each_of : (P : List ℕ → Type 0) (file : Option File) → ((image : List ℕ) → P image) → EachImage P file
each_of P None all = tt
each_of P (Some f) all = λ image is. all image

pub kept_elsewhere : (m : Machine) (moment : Moment) → KeptElsewhere 0 (IsKept m) moment
kept_elsewhere m moment = λ g other. each_of (IsKept m g) (moment.files g) (λ image. nothing_else m g image other)

-- of a file that isn't told nothing is said
untold_each : (P : List ℕ → Type 0) (o : Option File) → is_some o ≡ false → EachImage P o
untold_each P None none = tt
untold_each P (Some f) none = cc

-- a log under a header of the machine's format and sides, whose entries are numbered from 1 on
pub record IsLogOf (m : Machine) (db : Db) : Type 0 where
  pub format : m.format ≡ db.header.format
  pub sides : m.sides ≡ sides_of db.header
  pub first : first_held db.header ≡ 1

-- the machine's own sides may always be there
pub sides_own : (b : Bool) (sides : Sides) (next : ℕ) (there : Sides) → sides ≡ there → AreSidesBy b sides next there
sides_own false sides next there is = is
sides_own true sides next there is = inl is

pub opens_log : (m : Machine) (db : Db) (es entries : List Entry) (image : List ℕ) → IsLogOf m db → es ≡ entries → Holds db.header es image → OpensBy m entries image
opens_log m db es entries image is same holds = record {
  header = db.header;
  format = is.format;
  sides = sides_own m.may_turn m.sides (next_in m) (sides_of db.header) is.sides;
  first = is.first;
  holds = subst (λ (x : List Entry). Holds db.header x image) same holds;
}

pub kept_exact : (m : Machine) (image : List ℕ) → OpensBy m m.history image → IsKept m 0 image
kept_exact m image opens = record { log = λ here. inl opens }

kept_more : (m : Machine) (image : List ℕ) → OpensBy m (history_or_more m) image → IsKept m 0 image
kept_more m image opens = record { log = λ here. inr opens }

-- the files rest where the log stands for file 0, which holds just the history
exact_log : (m : Machine) (db : Db) (o : Option File) → IsLogOf m db → Stands db o → IfSome o (λ f. entries_in (Some f) ≡ m.history) → EachImage (OpensBy m m.history) o
exact_log m db None is stands same = tt
exact_log m db (Some f) is stands same = λ image here. opens_log m db (entries_in (Some f)) m.history image is same (stands.2 image here).holds

pub rests_log : (m : Machine) (db : Db) (moment : Moment) → IsLogOf m db → Stands db (moment.files 0) → IfSome (moment.files 0) (λ f. entries_in (Some f) ≡ m.history) → Rests m moment
rests_log m db moment is stands same =
    let exact : EachImage (OpensBy m m.history) (moment.files 0) = exact_log m db (moment.files 0) is stands same in
    record {
      keeps = kept_whole (IsKept m) 0 moment (each_weakens (OpensBy m m.history) (IsKept m 0) (moment.files 0) (kept_exact m) exact) (kept_elsewhere m moment);
      exact = λ settled. exact;
    }

-- what a told file holds, as the machine has it
synced_end : (ranges : List (ℕ × ℕ)) (n : ℕ) → n ≤ end_of ranges n
synced_end [] n = omega arith
synced_end (r ∷ ranges) n = omega (arith, synced_end ranges n)

pub synced_image : (f : File) → IsImage f f.synced
synced_image f = record { no_shorter = omega arith; no_longer = synced_end f.ranges (length f.synced); outside = λ i within out. refl }

pub same_entries : (h g : Header) (es gs : List Entry) (image : List ℕ) → Holds h es image → Holds g gs image → gs ≡ es
same_entries h g es gs image first second = let both : holding g gs ≡ holding h es = sym second ∙ first in cc

pub holds_history : (m : Machine) (db : Db) (o : Option File) → EachImage (OpensBy m m.history) o → Stands db o → IfSome o (λ f. entries_in (Some f) ≡ m.history)
holds_history m db None exact stands = tt
holds_history m db (Some f) exact stands =
    let is : IsImage f f.synced = synced_image f in
    let opens : OpensBy m m.history f.synced = exact f.synced is in
    same_entries opens.header db.header m.history (entries_in (Some f)) f.synced opens.holds (stands.2 f.synced is).holds

-- what is said of each image with the entries that the file holds, is said of it with the history
at_history : (P : List Entry → List ℕ → Type 0) (h : List Entry) (before now : Option File) → is_some now ≡ is_some before → IfSome before (λ f. entries_in (Some f) ≡ h)
    → EachImage (P (entries_in before)) now → EachImage (P h) now
at_history P h None None told same each = tt
at_history P h None (Some g) told same each = cc
at_history P h (Some f) None told same each = tt
at_history P h (Some f) (Some g) told same each = λ image is. subst (λ es. P es image) same (each image is)

along_history : (P : List Entry → List ℕ → Type 0) (h : List Entry) (old new : World) → IfSome (file_of 0 old) (λ f. entries_in (Some f) ≡ h)
    → Runs 0 (EachImage (P (entries_in (file_of 0 old)))) old new → Runs 0 (EachImage (P h)) old new
along_history P h old new same run = record {
  only = run.only;
  each = λ k from to. at_history P h (file_of 0 old) ((new.moment k).files 0) (run.only.told k from to) same (run.each k from to);
}

-- the entries that the file holds behind the step
same_behind : (h : List Entry) (before now : Option File) → is_some now ≡ is_some before → IfSome before (λ f. entries_in (Some f) ≡ h) → entries_in now ≡ entries_in before → IfSome now (λ f. entries_in (Some f) ≡ h)
same_behind h None None told was is = tt
same_behind h None (Some g) told was is = cc
same_behind h (Some f) None told was is = tt
same_behind h (Some f) (Some g) told was is = is ∙ was

more_behind : (h : List Entry) (x : Entry) (before now : Option File) → is_some now ≡ is_some before → IfSome before (λ f. entries_in (Some f) ≡ h)
    → IfSome now (λ f. entries_in (Some f) ≡ entries_in before ++ x ∷ []) → IfSome now (λ f. entries_in (Some f) ≡ h ++ x ∷ [])
more_behind h x None None told was is = tt
more_behind h x None (Some g) told was is = cc
more_behind h x (Some f) None told was is = tt
more_behind h x (Some f) (Some g) told was is = is ∙ ap (λ es. es ++ x ∷ []) was

-- a machine of the same format and sides, whose next entry has the same number
opens_moved : (m n : Machine) (es fs : List Entry) (image : List ℕ) → n.format ≡ m.format → n.sides ≡ m.sides → n.may_turn ≡ m.may_turn → next_in n ≡ next_in m → es ≡ fs → OpensBy m es image → OpensBy n fs image
opens_moved m n es fs image format sides turn next is opens = record {
  header = opens.header;
  format = format ∙ opens.format;
  sides =
      subst (λ (b : Bool). AreSidesBy b n.sides (next_in n) (sides_of opens.header)) (sym turn)
      (subst (λ (x : Sides). AreSidesBy m.may_turn x (next_in n) (sides_of opens.header)) (sym sides)
      (subst (λ (k : ℕ). AreSidesBy m.may_turn m.sides k (sides_of opens.header)) (sym next) opens.sides));
  first = opens.first;
  holds = subst (λ (x : List Entry). Holds opens.header x image) is opens.holds;
}

next_same : (m n : Machine) → m.history ≡ n.history → next_in n ≡ next_in m
next_same m n history = ap (λ (h : List Entry). length h + 1) (sym history)

-- and of the same history, where none was in doubt
kept_behind : (m n : Machine) → n.format ≡ m.format → n.sides ≡ m.sides → n.may_turn ≡ m.may_turn → m.history ≡ n.history → m.in_doubt ≡ None → (image : List ℕ) → IsKept m 0 image → IsKept n 0 image
kept_behind m n format sides turn history settled image kept = elim (kept.log refl) as (λ w. IsKept n 0 image) [
  | inl now ↦ kept_exact n image (opens_moved m n m.history n.history image format sides turn (next_same m n history) history now)
  | inr more ↦ kept_exact n image (opens_moved m n (history_or_more m) n.history image format sides turn (next_same m n history) (ap (with_doubt m.history) settled ∙ history) more)
]

-- a machine with the same book
module _ (m n : Machine) (same : book_of n ≡ book_of m) (format : n.format ≡ m.format) (turn : n.may_turn ≡ m.may_turn) where
  history_as : m.history ≡ n.history
  history_as = sym (ap (λ (b : Book). b.history) same)

  opens_as : (es fs : List Entry) (image : List ℕ) → es ≡ fs → OpensBy m es image → OpensBy n fs image
  opens_as es fs image is opens = opens_moved m n es fs image format (ap (λ (b : Book). b.sides) same) turn (next_same m n history_as) is opens

  more_as : history_or_more m ≡ history_or_more n
  more_as = sym (ap (λ (b : Book). with_doubt b.history b.in_doubt) same)

  kept_as : (file : ℕ) (image : List ℕ) → IsKept m file image → IsKept n file image
  kept_as file image kept = record {
    log = λ here. elim (kept.log here) as (λ w. OpensBy n n.history image ⊎ OpensBy n (history_or_more n) image) [
      | inl now ↦ inl (opens_as m.history n.history image history_as now)
      | inr more ↦ inr (opens_as (history_or_more m) (history_or_more n) image more_as more)
    ];
  }

  pub rests_as : (moment : Moment) → Rests m moment → Rests n moment
  rests_as moment rests = record {
    keeps = λ g. each_weakens (IsKept m g) (IsKept n g) (moment.files g) (kept_as g) (rests.keeps g);
    exact = λ settled. each_weakens (OpensBy m m.history) (OpensBy n n.history) (moment.files 0) (λ image. opens_as m.history n.history image history_as) (rests.exact (sym (ap (λ (b : Book). b.in_doubt) same) ∙ settled));
  }

-- the files rest where each image of TRANSDB has the history
pub rests_exact : (m : Machine) (moment : Moment) → EachImage (OpensBy m m.history) (moment.files 0) → Rests m moment
rests_exact m moment exact = record {
  keeps = kept_whole (IsKept m) 0 moment (each_weakens (OpensBy m m.history) (IsKept m 0) (moment.files 0) (kept_exact m) exact) (kept_elsewhere m moment);
  exact = λ settled. exact;
}

-- what goes so without the pair does so behind it
pub behind_none : (b : Bool) (m : Machine) (Goes : World → World → Type 0) (old new : World) → EachImage (OpensBy m m.history) (file_of 0 old) → Goes old new → BehindPair b m Goes old new
behind_none false m Goes old new exact goes = goes
behind_none true m Goes old new exact goes = (
  old,
  record {
    only = begins 0 (TornFrom 0 1024 (file_of 0 old)) old (stays_from 0 1024 (file_of 0 old) (file_of 0 old) refl);
    keeps = begins 0 (EachImage (OpensBy m m.history)) old exact;
  },
  goes,
)

-- what is written where no entry was sealed and nothing was turned
pub still_writes : (m : Machine) (head : Head) (reply : Reply) (old new : World) → is_plain reply ≡ true → new ≡ old → StepWrites m head reply old new
unfolding is_plain
still_writes m head (Committed k) old new plain same = cc
still_writes m head (Fault f) old new plain same = cc
still_writes m head (InDoubt k) old new plain same = cc
still_writes m head (Turned side first) old new plain same = cc
still_writes m head reply old new plain same = same

pub still_doubt : (m n : Machine) (reply : Reply) (old new : World) → is_plain reply ≡ true → IsDoubtCaused m reply n old new
unfolding is_plain
still_doubt m n (InDoubt k) old new plain = cc
still_doubt m n reply old new plain = tt

pub still_gate : (reply : Reply) → is_plain reply ≡ true → (told_by reply).rose_at_gate ≡ true → ⊥
unfolding is_plain
still_gate (InDoubt k) plain rose = cc
still_gate reply plain rose = cc

pub still_causes : (reply : Reply) (old new : World) → is_plain reply ≡ true → HasCauses (Risen old new) (told_by reply)
unfolding is_plain
still_causes (Fault f) old new plain = cc
still_causes (InDoubt k) old new plain = cc
still_causes reply old new plain = record { rose_has = λ file risen. cc; before_has = λ risen. cc; at_has = λ risen. cc }

-- what is written from where the pair is settled, by the reply
abbrev pub WritesSo : Machine → Reply → World → World → Type 0
WritesSo m (Committed k) old new = WritesWithinLog WritesRecord m old new
WritesSo m (InDoubt k) old new = WritesWithinLog WritesFromGate m old new
WritesSo m (Fault f) old new = WritesWithinLog WritesBehindGate m old new
WritesSo m reply old new = Unit {0}

abbrev pub IsSoDoubted : Machine → Reply → Machine → World → World → Type 0
IsSoDoubted m (InDoubt k) after old new = RoseFromGate m after old new
IsSoDoubted m reply after old new = Unit {0}

-- the results that a sealing has
abbrev pub IsAnswered : Result ℕ CommitError → Type 0
IsAnswered (Ok number) = Unit {0}
IsAnswered (Err e.FaultBefore) = Unit {0}
IsAnswered (Err (e.InDoubt number)) = Unit {0}
IsAnswered (Err error) = ⊥

pub answered_by : (entry : Entry) (result : Result ℕ CommitError) (old new : Parts) → IsSealed entry result old new → IsAnswered result
answered_by entry (Ok number) old new sealed = tt
answered_by entry (Err e.FaultBefore) old new sealed = tt
answered_by entry (Err (e.InDoubt number)) old new sealed = tt
answered_by entry (Err error) old new sealed = sealed

-- the causes of FAULT
pub fault_causes : (old new : World) → FileCountRose 0 old new → HasCauses (Risen old new) (told_by (Fault 0))
fault_causes old new rose = record {
  rose_has = λ file risen. subst (Risen old new) (sym (eqb-true file 0 risen)) rose;
  before_has = λ risen. rose;
  at_has = λ risen. cc;
}

-- A log that has the history was forced, or not, with this result. What the machine behind it keeps
-- and what was written is told of from a moment at which the pair is settled
module _ (m : Machine) (db new_db : Db) (old new : World) (is : IsLogOf m db) (begun : Begins db m.history) (none : m.in_doubt ≡ None) (stands : Stands db (file_of 0 old))
    (exact : EachImage (OpensBy m m.history) (file_of 0 old)) (x : Entry) where
  log_has : IfSome (file_of 0 old) (λ f. entries_in (Some f) ≡ m.history)
  log_has = holds_history m db (file_of 0 old) exact stands

  within_log : (Bounds : Db → World → World → Type 0) → Bounds db old new → WritesWithinLog Bounds m old new
  within_log Bounds only = record { log = db; format = is.format; sides = is.sides; begins = begun; only = only }

  alone : (rose : RoseAtGate db (entry_image x) old new) → Runs 0 (HoldsAll db m.history) old rose.mid
  alone rose = along_history (Holds db.header) m.history old rose.mid log_has rose.before

  -- the log and the machine behind it
  module _ (result : Result ℕ CommitError) (forces : Forces x (entry_image x) result db new_db old new) (n : Machine) (moved : Moved result x (book_of m) (book_of n)) (format : n.format ≡ m.format) where
    told_same : is_some (file_of 0 new) ≡ is_some (file_of 0 old)
    told_same = forces.puts.run.only.told new.time forces.puts.run.only.later (omega arith)

    log_after : n.sides ≡ m.sides → IsLogOf n new_db
    log_after sides = record {
      format = format ∙ is.format ∙ ap (λ (h : Header). h.format) (sym forces.placed.header);
      sides = sides ∙ is.sides ∙ ap sides_of (sym forces.placed.header);
      first = ap first_held forces.placed.header ∙ is.first;
    }

    -- the same log, as the machine behind it has it
    log_then : n.sides ≡ m.sides → IsLogOf n db
    log_then sides = record { format = format ∙ is.format; sides = sides ∙ is.sides; first = is.first }

    abbrev either_of : List ℕ → Type 0
    either_of image = IsKept m 0 image ⊎ IsKept n 0 image

    was_kept : (image : List ℕ) → Holds db.header m.history image → either_of image
    was_kept image holds = inl (kept_exact m image (opens_log m db m.history m.history image is refl holds))

    -- each image holds the history, or that with the entry
    moving : n.sides ≡ m.sides → m.history ++ x ∷ [] ≡ history_or_more n → Runs 0 (EachImage either_of) old new
    moving sides more =
        weakens 0 (EachImage (λ image. Holds db.header m.history image ⊎ Holds db.header (m.history ++ x ∷ []) image)) (EachImage either_of) old new
        (λ o. each_weakens (λ image. Holds db.header m.history image ⊎ Holds db.header (m.history ++ x ∷ []) image) either_of o
        (λ image w. elim w as (λ v. IsKept m 0 image ⊎ IsKept n 0 image) [
          | inl now ↦ was_kept image now
          | inr then_ ↦ inr (kept_more n image (opens_log n db (m.history ++ x ∷ []) (history_or_more n) image (log_then sides) more then_))
        ]))
        (along_history (λ es image. Holds db.header es image ⊎ Holds db.header (es ++ x ∷ []) image) m.history old new log_has forces.puts.run)

    keeps_by : Runs 0 (EachImage either_of) old new → Steps (KeptByEither (IsKept m) (IsKept n)) old new
    keeps_by run = step_kept (IsKept m) (IsKept n) 0 old new (kept_elsewhere m (present old)) (kept_elsewhere n (present old)) run

  -- what is left, by the result: of the writes and of a doubt as from here on
  pub record Sealed (result : Result ℕ CommitError) (n : Machine) : Type 0 where
    pub keeps : Steps (KeptByEither (IsKept m) (IsKept n)) old new
    pub rests_so : Rests n (present new)
    pub writes : WritesSo m (sealing_reply result) old new
    pub doubt : IsSoDoubted m (sealing_reply result) n old new
    pub causes : HasCauses (Risen old new) (told_by (sealing_reply result))
    pub only : ChangesOnly 0 old new
    pub quiet : IsQuiet old new

  pub sealed_so : (result : Result ℕ CommitError) (n : Machine) → Forces x (entry_image x) result db new_db old new → Moved result x (book_of m) (book_of n) → n.format ≡ m.format → n.may_turn ≡ m.may_turn → IsAnswered result → Sealed result n
  sealed_so (Ok number) n forces moved format turn answered =
      let sides : n.sides ≡ m.sides = ap (λ (b : Book). b.sides) moved in
      let grown : n.history ≡ m.history ++ x ∷ [] = ap (λ (b : Book). b.history) moved in
      let settled : n.in_doubt ≡ None = ap (λ (b : Book). b.in_doubt) moved ∙ none in
      let more : m.history ++ x ∷ [] ≡ history_or_more n = sym (ap (with_doubt n.history) settled ∙ grown) in
      let holds : IfSome (file_of 0 new) (λ f. entries_in (Some f) ≡ n.history) =
      subst (λ (es : List Entry). IfSome (file_of 0 new) (λ f. entries_in (Some f) ≡ es)) (sym grown)
      (more_behind m.history x (file_of 0 old) (file_of 0 new) (told_same (Ok number) forces n moved format) log_has forces.puts.added) in
      record {
        keeps = keeps_by (Ok number) forces n moved format (moving (Ok number) forces n moved format sides more);
        rests_so = rests_log n new_db (present new) (log_after (Ok number) forces n moved format sides) forces.forced.stands holds;
        writes = within_log WritesRecord (forces.only, forces.forced.clear);
        doubt = tt;
        causes = record { rose_has = λ file risen. cc; before_has = λ risen. cc; at_has = λ risen. cc };
        only = forces.puts.run.only;
        quiet = (steps_of_run 0 _ old new forces.puts.run).1;
      }
  sealed_so (Err e.FaultBefore) n forces moved format turn answered =
      let fault = forces.faulted refl in
      let sides : n.sides ≡ m.sides = ap (λ (b : Book). b.sides) moved in
      let same : n.history ≡ m.history = ap (λ (b : Book). b.history) moved in
      let holds : IfSome (file_of 0 new) (λ f. entries_in (Some f) ≡ n.history) =
      subst (λ (es : List Entry). IfSome (file_of 0 new) (λ f. entries_in (Some f) ≡ es)) (sym same)
      (same_behind m.history (file_of 0 old) (file_of 0 new) (told_same (Err e.FaultBefore) forces n moved format) log_has fault.settles.entries) in
      record {
        keeps = keeps_by (Err e.FaultBefore) forces n moved format
            (weakens 0 (HoldsAll db m.history) (EachImage (either_of (Err e.FaultBefore) forces n moved format)) old new
            (λ o. each_weakens (Holds db.header m.history) (either_of (Err e.FaultBefore) forces n moved format) o (was_kept (Err e.FaultBefore) forces n moved format))
            (along_history (Holds db.header) m.history old new log_has fault.keeps));
        rests_so = rests_log n new_db (present new) (log_after (Err e.FaultBefore) forces n moved format sides) fault.settles.stands holds;
        writes = within_log WritesBehindGate fault.gate;
        doubt = tt;
        causes = fault_causes old new fault.rose;
        only = forces.puts.run.only;
        quiet = (steps_of_run 0 _ old new forces.puts.run).1;
      }
  sealed_so (Err (e.InDoubt number)) n forces moved format turn answered =
      let gate_rose : RoseAtGate db (entry_image x) old new = (forces.doubted number refl).gate in
      let rose : FileCountRose 0 old new = rose_behind 0 0 old gate_rose.mid new gate_rose.before.only gate_rose.rose in
      let sides : n.sides ≡ m.sides = ap (λ (b : Book). b.sides) moved in
      let same : n.history ≡ m.history = ap (λ (b : Book). b.history) moved in
      let doubted : n.in_doubt ≡ Some x = ap (λ (b : Book). b.in_doubt) moved in
      let more : m.history ++ x ∷ [] ≡ history_or_more n = sym (ap (with_doubt n.history) doubted ∙ ap (λ (es : List Entry). es ++ x ∷ []) same) in
      let run = moving (Err (e.InDoubt number)) forces n moved format sides more in
      record {
        keeps = keeps_by (Err (e.InDoubt number)) forces n moved format run;
        rests_so = record {
          keeps = kept_whole (IsKept n) 0 (present new) (each_kept (file_of 0 new) (run_end 0 _ old new run)) (kept_elsewhere n (present new));
          exact = λ settled. let no : None ≡ Some x = sym settled ∙ doubted in cc;
        };
        writes = within_log WritesFromGate forces.only;
        doubt = record {
          log = db;
          format = is.format;
          sides = is.sides;
          begins = begun;
          entry = x;
          doubt = doubted;
          rose = gate_rose;
          alone = alone gate_rose;
        };
        causes = record {
          rose_has = λ file risen. subst (Risen old new) (sym (eqb-true file 0 risen)) rose;
          before_has = λ risen. cc;
          at_has = λ risen. rose;
        };
        only = forces.puts.run.only;
        quiet = (steps_of_run 0 _ old new forces.puts.run).1;
      }
    where
      -- an image of the history is kept by the machine behind it too
      each_kept : (o : Option File) → EachImage (either_of (Err (e.InDoubt number)) forces n moved format) o → EachImage (IsKept n 0) o
      each_kept o each =
          each_weakens (λ image. IsKept m 0 image ⊎ IsKept n 0 image) (IsKept n 0) o
          (λ image w. elim w as (λ v. IsKept n 0 image) [
            | inl was ↦ kept_behind m n format (ap (λ (b : Book). b.sides) moved) turn (sym (ap (λ (b : Book). b.history) moved)) none image was
            | inr is ↦ is
          ]) each
  sealed_so (Err error) n forces moved format turn answered = absurd answered
