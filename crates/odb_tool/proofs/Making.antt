-- The files of a database are made one behind another.
use Rattle.std.proofs.Common.{◌≡◌, ◌≢◌, ℕ, true, false, [], sym, ap, subst, refl, ◌∙◌, arith, inl, inr, Option}
use Rattle.odb_device.specs.World.{File, World, file_of}
use Rattle.odb_device.specs.Images.{EachImage, TornFrom}
use Rattle.odb_device.specs.Calls.{FileCountRose}
use Rattle.odb_device.specs.Moments.{Runs, WritesWithin}
use Rattle.odb_device.specs.Steps.{Files, OnlyThis}
use Rattle.odb_device.proofs.Stretches.{steps_none, steps_then, steps_weaken, steps_end, steps_count, steps_of_run}
use Rattle.odb_transdb.specs.Header.{new_header}
use Rattle.odb_transdb.specs.Opened.{Holds}
use Rattle.odb_bank.specs.Files.{StandsAt}
use Rattle.odb_transdb.specs.Steps.{PairComesLast}
use Rattle.odb_tool.specs.Created.{is_made, LeavesOthers, MakesFiles, IsNewDatabank, HasDatabase, KeepsLog, LeavesLog, MakesInOrder}

clash : {A : Type 0} → true ≡ false → A
clash e = cc e

pub makes_begin : (w : World) → MakesFiles w w
makes_begin w = record { steps = steps_none (Files (LeavesOthers w)) w (λ g unmade. refl); quiet = (refl, refl) }

-- behind some files another one of them
pub makes_then : (file : ℕ) (P : Option File → Type 0) (old mid new : World) → is_made file ≡ true → MakesFiles old mid → Runs file P mid new → MakesFiles old new
makes_then file P old mid new made first run =
    let next = steps_of_run file P mid new run in
    record {
      steps =
          steps_then (Files (LeavesOthers old)) old mid new first.steps
          (steps_weaken (Files (OnlyThis file P mid)) (Files (LeavesOthers old)) mid new
          (λ m only g unmade. (only g).1 (λ same. clash (sym (ap is_made same ∙ made) ∙ unmade)) ∙ steps_end (Files (LeavesOthers old)) old mid first.steps g unmade) next.0);
      quiet = (next.1.0 ∙ first.quiet.0, next.1.1 ∙ first.quiet.1);
    }

-- a count that rose behind them rose from their beginning on
pub rose_then : (g : ℕ) (old mid new : World) → MakesFiles old mid → FileCountRose g mid new → FileCountRose g old new
rose_then g old mid new first rose = omega (arith, steps_count (Files (LeavesOthers old)) old mid first.steps g, rose)

still : (file g : ℕ) (P : Option File → Type 0) (old new : World) → g ≢ file → Runs file P old new → file_of g new ≡ file_of g old
still file g P old new other run = run.only.others new.time g run.only.later (omega arith) other

bank_still : (bank g file : ℕ) (P : Option File → Type 0) (old new : World) → g ≢ file → Runs file P old new → IsNewDatabank bank g old → IsNewDatabank bank g new
bank_still bank g file P old new other run there = λ h. subst (EachImage (StandsAt bank h 0)) (sym (still file g P old new other run)) (there h)

-- what is there once all are made
pub all_made : (side_kib : ℕ) (P Q R : Option File → Type 0) (a b c d : World) → Runs 3 P a b → Runs 4 Q b c → Runs 0 R c d
    → IsNewDatabank 2 2 a → IsNewDatabank 2 3 b → IsNewDatabank 4 4 c → EachImage (Holds (new_header side_kib) []) (file_of 0 d) → HasDatabase side_kib d
all_made side_kib P Q R a b c d shadow main log first second third fourth = record {
  transdb = fourth;
  sysdb = bank_still 2 2 0 R c d (λ e. omega (arith, e)) log (bank_still 2 2 4 Q b c (λ e. omega (arith, e)) main (bank_still 2 2 3 P a b (λ e. omega (arith, e)) shadow first));
  shadow = bank_still 2 3 0 R c d (λ e. omega (arith, e)) log (bank_still 2 3 4 Q b c (λ e. omega (arith, e)) main second);
  main = bank_still 4 4 0 R c d (λ e. omega (arith, e)) log third;
}

-- in which order

keeps_begin : (w : World) → KeepsLog w w
keeps_begin w = steps_none (Files (λ g now. g ≡ 0 → now ≡ file_of 0 w)) w (λ g same. ap (λ (k : ℕ). file_of k w) same)

pub keeps_then : (file : ℕ) (P : Option File → Type 0) (old mid new : World) → (file ≡ 0 → ⊥) → KeepsLog old mid → Runs file P mid new → KeepsLog old new
keeps_then file P old mid new other first run =
    let next = steps_of_run file P mid new run in
    steps_then (Files (λ g now. g ≡ 0 → now ≡ file_of 0 old)) old mid new first
    (steps_weaken (Files (OnlyThis file P mid)) (Files (λ g now. g ≡ 0 → now ≡ file_of 0 old)) mid new
    (λ m only g same. (only g).1 (λ at. other (sym at ∙ same)) ∙ ap (λ (k : ℕ). file_of k mid) same ∙ steps_end (Files (λ g now. g ≡ 0 → now ≡ file_of 0 old)) old mid first 0 refl) next.0)

pub keeps_one : (file : ℕ) (P : Option File → Type 0) (old new : World) → (file ≡ 0 → ⊥) → Runs file P old new → KeepsLog old new
keeps_one file P old new other run = keeps_then file P old old new other (keeps_begin old) run

pub leaves_looked : (old new : World) → WritesWithin 0 0 0 old new → LeavesLog old new
leaves_looked old new run =
    steps_weaken (Files (OnlyThis 0 (TornFrom 0 0 (file_of 0 old)) old)) (Files (λ g now. g ≡ 0 → TornFrom 0 0 (file_of 0 old) now)) old new
    (λ m only g same. (only g).0 same) (steps_of_run 0 (TornFrom 0 0 (file_of 0 old)) old new run).0

leaves_then : (old mid new : World) → LeavesLog old mid → KeepsLog mid new → LeavesLog old new
leaves_then old mid new first second =
    steps_then (Files (λ g now. g ≡ 0 → TornFrom 0 0 (file_of 0 old) now)) old mid new first
    (steps_weaken (Files (λ g now. g ≡ 0 → now ≡ file_of 0 mid)) (Files (λ g now. g ≡ 0 → TornFrom 0 0 (file_of 0 old) now)) mid new
    (λ m keeps g same. subst (TornFrom 0 0 (file_of 0 old)) (sym (keeps g same)) (steps_end (Files (λ g now. g ≡ 0 → TornFrom 0 0 (file_of 0 old) now)) old mid first 0 refl)) second)

pub order_then : (side_kib : ℕ) (old mid new : World) → WritesWithin 0 0 0 old mid → MakesInOrder side_kib KeepsLog mid new → MakesInOrder side_kib LeavesLog old new
order_then side_kib old mid new looked (inl keeps) = inl (leaves_then old mid new (leaves_looked old mid looked) keeps)
order_then side_kib old mid new looked (inr last) = inr (record {
  mid = last.mid;
  left = leaves_then old mid last.mid (leaves_looked old mid looked) last.left;
  sysdb = last.sysdb;
  shadow = last.shadow;
  main = last.main;
  log = last.log;
})

-- the log behind the three files
pub log_last : (side_kib : ℕ) (P Q R : Option File → Type 0) (w a b c d : World) → Runs 2 P w a → Runs 3 Q a b → Runs 4 R b c → Runs 0 (PairComesLast (new_header side_kib) (file_of 0 c)) c d
    → IsNewDatabank 2 2 a → IsNewDatabank 2 3 b → IsNewDatabank 4 4 c → MakesInOrder side_kib KeepsLog w d
log_last side_kib P Q R w a b c d sysdb shadow main log first second third = inr (record {
  mid = c;
  left = keeps_then 4 R w b c (λ e. cc e) (keeps_then 3 Q w a b (λ e. cc e) (keeps_one 2 P w a (λ e. cc e) sysdb) shadow) main;
  sysdb = bank_still 2 2 4 R b c (λ e. omega (arith, e)) main (bank_still 2 2 3 Q a b (λ e. omega (arith, e)) shadow first);
  shadow = bank_still 2 3 4 R b c (λ e. omega (arith, e)) main second;
  main = third;
  log = log;
})

-- what was looked at and then made
pub makes_looked : (old mid new : World) → WritesWithin 0 0 0 old mid → MakesFiles mid new → MakesFiles old new
makes_looked old mid new looked made =
    let first = makes_then 0 (TornFrom 0 0 (file_of 0 old)) old old mid refl (makes_begin old) looked in
    record {
      steps =
          steps_then (Files (LeavesOthers old)) old mid new first.steps
          (steps_weaken (Files (LeavesOthers mid)) (Files (LeavesOthers old)) mid new (λ m only g unmade. only g unmade ∙ steps_end (Files (LeavesOthers old)) old mid first.steps g unmade) made.steps);
      quiet = (made.quiet.0 ∙ first.quiet.0, made.quiet.1 ∙ first.quiet.1);
    }

pub makes_unwritten : (old new : World) → WritesWithin 0 0 0 old new → MakesFiles old new
makes_unwritten old new looked = makes_then 0 (TornFrom 0 0 (file_of 0 old)) old old new refl (makes_begin old) looked
