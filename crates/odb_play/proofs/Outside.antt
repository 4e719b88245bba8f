-- How the parts of a play follow one another: what they change, and the counts.
use Rattle.std.proofs.Common.{◌≡◌, ℕ, ◌+◌, ◌-◌, ◌^◌, ◌≤◌, Bool, true, false, cond, List, [], ◌∷◌, ◌++◌, length, Option, refl, sym, ◌∙◌, ap, subst, arith, length-append}
use Rattle.std.specs.Prelude.{min}
use Rattle.std.specs.List.{filter}
use Rattle.std.proofs.lemmas.List.{append-nil}
use Rattle.std.proofs.lemmas.List.Elements.{filter-append}
use Rattle.odb_device.specs.World.{File, Moment, World, present, faults_of}
use Rattle.odb_device.specs.Counts.{Rose}
use Rattle.odb_device.specs.Console.{Talks, Says, SaysNothing, SaysOnly}
use Rattle.odb_device.specs.Moments.{Runs}
use Rattle.odb_device.specs.Steps.{Steps, Files, IsAsIn, OnlyThis, IsQuiet}
use Rattle.odb_device.proofs.Stretches.{steps_none, steps_then, steps_weaken, steps_end, steps_count, steps_of_run, steps_of_talks}
use Rattle.odb_device.proofs.Talking.{adds_none, says_both}
use Rattle.odb_machine.specs.Machine.{Machine}
use Rattle.odb_machine.specs.Play.{Answer, RiseOnly, tells_fault, faults_told, machine_after, text_of_answer}
use Rattle.odb_system.specs.Durable.{Risen}
use Rattle.odb_system.specs.Kept.{Rests}
use Rattle.odb_play.specs.Outside.{IsStill, Passed, LeavesFiles, LeavesOthers, TouchesOnly, RoseBy}
use Rattle.odb_play.specs.Part.{IsCaused, IsStep, StepsTaken, EndsAnyhow, EndsSaid, Causes, CausesOfSaid}

-- whatever holds at each moment
pub passes : (Q : Moment → Type 0) (old new : World) → Steps Q old new → Passed old new
passes Q old new steps = steps_weaken Q (λ m. Unit {0}) old new (λ m q. tt) steps

pub passed_then : (old mid new : World) → Passed old mid → Passed mid new → Passed old new
passed_then old mid new a b = steps_then (λ m. Unit {0}) old mid new a b

still_passes : (old new : World) → LeavesFiles old new → Passed old new
still_passes old new still = passes (IsStill old) old new still

still_then : (old mid new : World) → LeavesFiles old mid → LeavesFiles mid new → LeavesFiles old new
still_then old mid new a b =
    let there = steps_end (IsStill old) old mid a in
    steps_then (IsStill old) old mid new a (steps_weaken (IsStill mid) (IsStill old) mid new (λ m is. ((λ g. is.0 g ∙ there.0 g), (λ g. is.1 g ∙ there.1 g))) b)

still_none : (w : World) → LeavesFiles w w
still_none w = steps_none (IsStill w) w ((λ g. refl), (λ g. refl))

-- calls of the console alone
pub still_talks : (old new : World) → Talks old new → LeavesFiles old new
still_talks old new talks =
    let steps = steps_of_talks old new talks in
    record {
      later = steps.later;
      past = steps.past;
      told = steps.told;
      said = steps.said;
      faults = steps.faults;
      take_faults = steps.take_faults;
      say_faults = steps.say_faults;
      each = λ k from to. ((λ g. talks.files k g from to), (λ g. talks.faults k from to g));
    }

pub touches_run : (file : ℕ) (P : Option File → Type 0) (old new : World) → Runs file P old new → TouchesOnly file old new
touches_run file P old new run = steps_weaken (Files (OnlyThis file P old)) (LeavesOthers file old) old new (λ m only g other. (only g).1 other) (steps_of_run file P old new run).0

pub touches_talks : (file : ℕ) (old new : World) → Talks old new → TouchesOnly file old new
touches_talks file old new talks = steps_weaken (Files (IsAsIn old)) (LeavesOthers file old) old new (λ m as_in g other. as_in g) (steps_of_talks old new talks)

pub touches_then : (file : ℕ) (old mid new : World) → TouchesOnly file old mid → TouchesOnly file mid new → TouchesOnly file old new
touches_then file old mid new a b =
    steps_then (LeavesOthers file old) old mid new a
    (steps_weaken (LeavesOthers file mid) (LeavesOthers file old) mid new
    (λ m others g other. others g other ∙ steps_end (LeavesOthers file old) old mid a g other) b)

-- a count that rose in a later part of a call, or in an earlier one
pub say_rose_later : (start now new : World) → TouchesOnly 0 start now → Rose now.talk.say_faults new.talk.say_faults → Rose start.talk.say_faults new.talk.say_faults
say_rose_later start now new only rose = omega (arith, only.say_faults)

pub take_rose_later : (start now new : World) → TouchesOnly 0 start now → Rose now.talk.take_faults new.talk.take_faults → Rose start.talk.take_faults new.talk.take_faults
take_rose_later start now new only rose = omega (arith, only.take_faults)

rose_wider : (a b c d n : ℕ) → a ≤ b → c ≤ d → min (b + n) (2 ^ 64 - 1) ≤ c → min (a + n) (2 ^ 64 - 1) ≤ d
rose_wider a b c d n before after rose = omega arith

rose_added : (a b c m n : ℕ) → min (a + m) (2 ^ 64 - 1) ≤ b → min (b + n) (2 ^ 64 - 1) ≤ c → min (a + (m + n)) (2 ^ 64 - 1) ≤ c
rose_added a b c m n first second = omega arith

-- a count that rose in a part rose in the whole
pub rose_by_wider : (a b c d : World) (file n : ℕ) → faults_of file a ≤ faults_of file b → faults_of file c ≤ faults_of file d → RoseBy b c file n → RoseBy a d file n
rose_by_wider a b c d file n before after rose = rose_wider (faults_of file a) (faults_of file b) (faults_of file c) (faults_of file d) n before after rose

pub rose_by_then : (old mid new : World) (file m n : ℕ) → RoseBy old mid file m → RoseBy mid new file n → RoseBy old new file (m + n)
rose_by_then old mid new file m n first second = rose_added (faults_of file old) (faults_of file mid) (faults_of file new) m n first second

pub rise_wider : (P Q : ℕ → ℕ → Type 0) (answers : List Answer) → ((file n : ℕ) → P file n → Q file n) → RiseOnly P answers → RiseOnly Q answers
rise_wider P Q [] gives rise = tt
rise_wider P Q (a ∷ answers) gives rise = ((λ file up. gives file 1 (rise.0 file up)), rise_wider P Q answers gives rise.1)

pub rise_append : (P : ℕ → ℕ → Type 0) (xs ys : List Answer) → RiseOnly P xs → RiseOnly P ys → RiseOnly P (xs ++ ys)
rise_append P [] ys first second = second
rise_append P (a ∷ xs) ys first second = (first.0, rise_append P xs ys first.1 second)

pub faults_told-append : (file : ℕ) (xs ys : List Answer) → faults_told file (xs ++ ys) ≡ faults_told file xs + faults_told file ys
faults_told-append file xs ys =
    ap length (filter-append (λ answer. tells_fault file answer.reply) xs ys)
    ∙ length-append (filter (λ answer. tells_fault file answer.reply) xs) (filter (λ answer. tells_fault file answer.reply) ys)

-- in the step of one answer: as its reply tells
one_counted : (told : Bool) (answer : Answer) (file : ℕ) (old new : World) → faults_of file old ≤ faults_of file new → (told ≡ true → Risen old new file)
    → RoseBy old new file (length (cond told (answer ∷ []) []))
one_counted true answer file old new later rose = rose refl
one_counted false answer file old new later rose = omega (arith, later)

pub counted_one : (answer : Answer) (file : ℕ) (old new : World) → faults_of file old ≤ faults_of file new → (tells_fault file answer.reply ≡ true → Risen old new file)
    → RoseBy old new file (faults_told file (answer ∷ []))
counted_one answer file old new later rose = one_counted (tells_fault file answer.reply) answer file old new later rose

-- a step, and the saying of its answer
pub touches_line : (P : Option File → Type 0) (bytes : List ℕ) (old mid new : World) → Runs 0 P old mid → SaysOnly bytes mid new → TouchesOnly 0 old new
touches_line P bytes old mid new step says = touches_then 0 old mid new (touches_run 0 P old mid step) (touches_talks 0 mid new says.talks)

-- each answer that tells of a fault of the file tells of one by which its count rose
abbrev pub TellRisen : ℕ → List Answer → Type 0
TellRisen file [] = Unit {0}
TellRisen file (a ∷ answers) = (tells_fault file a.reply ≡ true → a.seen.rose file ≡ true) × TellRisen file answers

-- causes of answers, one list behind another
module _ (End : List ℕ → World → World → Type 0) (grows : (bytes : List ℕ) (old mid new : World) → LeavesFiles old mid → Says bytes old mid → End [] mid new → End bytes old new) where
  pub steps_earlier : (m : Machine) (bytes : List ℕ) (answers : List Answer) (old mid new : World) → LeavesFiles old mid → Says bytes old mid → StepsTaken End m [] answers mid new → StepsTaken End m bytes answers old new
  steps_earlier m bytes [] old mid new still says ends = grows bytes old mid new still says ends
  steps_earlier m bytes (a ∷ answers) old mid new still says taken =
      let step = taken.2 in (
        taken.0,
        taken.1,
        record {
          reaches = still_then old mid taken.0 still step.reaches;
          says = subst (λ (l : List ℕ). Says l old taken.0) (append-nil bytes) (says_both bytes [] old mid taken.0 says step.says);
          passes = step.passes;
          quiet = step.quiet;
          caused = step.caused;
          rests = step.rests;
        },
        taken.3,
      )

  pub steps_behind_said : (m : Machine) (bytes : List ℕ) (xs ys : List Answer) (old mid new : World) → StepsTaken EndsSaid m bytes xs old mid → StepsTaken End (machine_after m xs) [] ys mid new → StepsTaken End m bytes (xs ++ ys) old new
  steps_behind_said m bytes [] ys old mid new first second = steps_earlier m bytes ys old mid new first.0 first.1 second
  steps_behind_said m bytes (a ∷ xs) ys old mid new first second = (first.0, first.1, first.2, steps_behind_said a.after (text_of_answer a) xs ys first.1 mid new first.3 second)

grows_anyhow : (bytes : List ℕ) (old mid new : World) → LeavesFiles old mid → Says bytes old mid → EndsAnyhow [] mid new → EndsAnyhow bytes old new
grows_anyhow bytes old mid new still says ends = still_then old mid new still ends

grows_said : (bytes : List ℕ) (old mid new : World) → LeavesFiles old mid → Says bytes old mid → EndsSaid [] mid new → EndsSaid bytes old new
grows_said bytes old mid new still says ends = (still_then old mid new still ends.0, subst (λ (l : List ℕ). Says l old new) (append-nil bytes) (says_both bytes [] old mid new says ends.1))

pub causes_then : (m : Machine) (xs ys : List Answer) (old mid new : World) → CausesOfSaid m xs old mid → Causes (machine_after m xs) ys mid new → Causes m (xs ++ ys) old new
causes_then m xs ys old mid new first second = steps_behind_said EndsAnyhow grows_anyhow m [] xs ys old mid new first second

pub causes_then_said : (m : Machine) (xs ys : List Answer) (old mid new : World) → CausesOfSaid m xs old mid → CausesOfSaid (machine_after m xs) ys mid new → CausesOfSaid m (xs ++ ys) old new
causes_then_said m xs ys old mid new first second = steps_behind_said EndsSaid grows_said m [] xs ys old mid new first second

taken_anyhow : (m : Machine) (bytes : List ℕ) (answers : List Answer) (old new : World) → StepsTaken EndsSaid m bytes answers old new → StepsTaken EndsAnyhow m bytes answers old new
taken_anyhow m bytes [] old new ends = ends.0
taken_anyhow m bytes (a ∷ answers) old new taken = (taken.0, taken.1, taken.2, taken_anyhow a.after (text_of_answer a) answers taken.1 new taken.3)

pub causes_anyhow : (m : Machine) (answers : List Answer) (old new : World) → CausesOfSaid m answers old new → Causes m answers old new
causes_anyhow m answers old new causes = taken_anyhow m [] answers old new causes

-- no step, and calls that say nothing
pub causes_quiet : (m : Machine) (old new : World) → LeavesFiles old new → SaysNothing old new → CausesOfSaid m [] old new
causes_quiet m old new still silent = (still, silent ∙ adds_none (present old).said)

-- one step, and calls behind it
one_step : (m : Machine) (a : Answer) (old mid : World) → Passed old mid → IsQuiet old mid → IsCaused m a old mid → Rests a.after (present mid) → IsStep m a [] old old mid
one_step m a old mid passed quiet cause rests = record {
  reaches = still_none old;
  says = adds_none (present old).said;
  passes = passed;
  quiet = quiet;
  caused = cause;
  rests = rests;
}

pub causes_one : (m : Machine) (a : Answer) (old mid new : World) → Passed old mid → IsQuiet old mid → IsCaused m a old mid → Rests a.after (present mid) → LeavesFiles mid new → Causes m (a ∷ []) old new
causes_one m a old mid new step quiet cause rests after = (old, mid, one_step m a old mid step quiet cause rests, after)

pub causes_one_said : (m : Machine) (a : Answer) (old mid new : World) → Passed old mid → IsQuiet old mid → IsCaused m a old mid → Rests a.after (present mid) → LeavesFiles mid new → Says (text_of_answer a) mid new → CausesOfSaid m (a ∷ []) old new
causes_one_said m a old mid new step quiet cause rests after said = (old, mid, one_step m a old mid step quiet cause rests, (after, said))

-- what the causes tell of the whole of it
step_passed : (m : Machine) (a : Answer) (bytes : List ℕ) (old before after : World) → IsStep m a bytes old before after → Passed old after
step_passed m a bytes old before after step = passed_then old before after (still_passes old before step.reaches) step.passes

taken_passed : (m : Machine) (bytes : List ℕ) (answers : List Answer) (old new : World) → StepsTaken EndsAnyhow m bytes answers old new → Passed old new
taken_passed m bytes [] old new causes = still_passes old new causes
taken_passed m bytes (a ∷ answers) old new causes =
    passed_then old causes.1 new (step_passed m a bytes old causes.0 causes.1 causes.2) (taken_passed a.after (text_of_answer a) answers causes.1 new causes.3)

count_of : (file : ℕ) (old new : World) → Passed old new → faults_of file old ≤ faults_of file new
count_of file old new passed = steps_count (λ m. Unit {0}) old new passed file

taken_rise : (m : Machine) (bytes : List ℕ) (answers : List Answer) (old new : World) → StepsTaken EndsAnyhow m bytes answers old new → RiseOnly (RoseBy old new) answers
taken_rise m bytes [] old new causes = tt
taken_rise m bytes (a ∷ answers) old new causes =
    let rest = taken_passed a.after (text_of_answer a) answers causes.1 new causes.3 in
    let step = causes.2 in
    let first = step_passed m a bytes old causes.0 causes.1 step in (
      λ file up. rose_by_wider old causes.0 causes.1 new file 1 (count_of file old causes.0 (still_passes old causes.0 step.reaches)) (count_of file causes.1 new rest) (step.caused.rose file up),
      rise_wider (RoseBy causes.1 new) (RoseBy old new) answers (λ file n rose. rose_by_wider old causes.1 new new file n (count_of file old causes.1 first) (omega arith) rose)
          (taken_rise a.after (text_of_answer a) answers causes.1 new causes.3),
    )

pub causes_rise : (m : Machine) (answers : List Answer) (old new : World) → Causes m answers old new → RiseOnly (RoseBy old new) answers
causes_rise m answers old new causes = taken_rise m [] answers old new causes

-- and of the faults that the answers tell, where each tells of one that rose
taken_count : (m : Machine) (bytes : List ℕ) (answers : List Answer) (file : ℕ) (old new : World) → TellRisen file answers → StepsTaken EndsAnyhow m bytes answers old new → RoseBy old new file (faults_told file answers)
taken_count m bytes [] file old new tell causes = let later = count_of file old new (still_passes old new causes) in omega (arith, later)
taken_count m bytes (a ∷ answers) file old new tell causes =
    let step = causes.2 in
    let one : RoseBy causes.0 causes.1 file (faults_told file (a ∷ [])) = counted_one a file causes.0 causes.1 (count_of file causes.0 causes.1 step.passes) (λ told. step.caused.rose file (tell.0 told)) in
    let first : RoseBy old causes.1 file (faults_told file (a ∷ [])) = rose_by_wider old causes.0 causes.1 causes.1 file (faults_told file (a ∷ [])) (count_of file old causes.0 (still_passes old causes.0 step.reaches)) (omega arith) one in
    let rest : RoseBy causes.1 new file (faults_told file answers) = taken_count a.after (text_of_answer a) answers file causes.1 new tell.1 causes.3 in
    subst (λ (n : ℕ). RoseBy old new file n) (sym (faults_told-append file (a ∷ []) answers))
    (rose_by_then old causes.1 new file (faults_told file (a ∷ [])) (faults_told file answers) first rest)

pub causes_count : (m : Machine) (answers : List Answer) (file : ℕ) (old new : World) → TellRisen file answers → Causes m answers old new → RoseBy old new file (faults_told file answers)
causes_count m answers file old new tell causes = taken_count m [] answers file old new tell causes
