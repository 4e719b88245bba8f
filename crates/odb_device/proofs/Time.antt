-- How calls go on from one another.
use Rattle.std.proofs.Common.{◌≡◌, ◌⊎◌, inl, inr, ℕ, ◌<◌, ◌≤◌, Option, Result, Ok, Err, sym, ◌∙◌, ap, subst, refl, arith}
use Rattle.std.specs.Prelude.{is_some, OnErr}
use Rattle.std.proofs.lemmas.Bool.{cases_lt}
use Rattle.odb_device.specs.World.{File, Moment, World, present, file_of, faults_of}
use Rattle.odb_device.specs.Calls.{CallsOn, FileCountRose}
use Rattle.odb_device.specs.Moments.{NoCountFalls, ChangesOnly, Throughout, Runs}

-- each moment of one call is the one before it or the one after it
pub call_cases : (old new : World) → ((k : ℕ) → k ≤ old.time → new.moment k ≡ old.moment k) → ((k : ℕ) → old.time < k → k ≤ new.time → new.moment k ≡ present new)
    → (k : ℕ) → old.time ≤ k → k ≤ new.time → (new.moment k ≡ present old) ⊎ (new.moment k ≡ present new)
call_cases old new past during k from to = elim (cases_lt old.time k) [
  | inl after ↦ inr (during k after to)
  | inr before ↦ let same : k ≡ old.time = omega arith in inl (past k before ∙ ap old.moment same)
]

-- counts through no call, one call, and one stretch behind another
pub none_falls : (w : World) → NoCountFalls w w
none_falls w = λ j k g from then to. let same : j ≡ k = omega arith in omega (arith, ap (λ (m : ℕ). (w.moment m).faults g) same)

pub call_falls : (old new : World) → ((k : ℕ) → k ≤ old.time → new.moment k ≡ old.moment k) → ((k : ℕ) → old.time < k → k ≤ new.time → new.moment k ≡ present new)
    → ((g : ℕ) → faults_of g old ≤ faults_of g new) → NoCountFalls old new
call_falls old new past during counts = λ j k g from then to. elim (cases_lt old.time j) [
  | inl after ↦ omega (arith, ap (λ (m : Moment). m.faults g) (during j after (omega arith)), ap (λ (m : Moment). m.faults g) (during k (omega arith) to))
  | inr before ↦
      let same : j ≡ old.time = omega arith in
      let first : new.moment j ≡ present old = past j before ∙ ap old.moment same in
      elim (call_cases old new past during k (omega arith) to) [
        | inl is ↦ omega (arith, ap (λ (m : Moment). m.faults g) first, ap (λ (m : Moment). m.faults g) is)
        | inr is ↦ omega (arith, ap (λ (m : Moment). m.faults g) first, ap (λ (m : Moment). m.faults g) is, counts g)
      ]
]

pub then_falls : (old mid new : World) → ((k : ℕ) → k ≤ mid.time → new.moment k ≡ mid.moment k) → NoCountFalls old mid → NoCountFalls mid new → NoCountFalls old new
then_falls old mid new past a b = λ j k g from then to. elim (cases_lt mid.time j) [
  | inl after ↦ b j k g (omega arith) then to
  | inr first ↦ elim (cases_lt mid.time k) [
    | inl after ↦
        let one = a j mid.time g from first (omega arith) in
        let two = b mid.time k g (omega arith) (omega arith) to in
        omega (arith, one, two, ap (λ (m : Moment). m.faults g) (past j first), ap (λ (m : Moment). m.faults g) (past mid.time (omega arith)))
    | inr second ↦ omega (arith, a j k g from then second, ap (λ (m : Moment). m.faults g) (past j first), ap (λ (m : Moment). m.faults g) (past k second))
  ]
]

-- so from the one end to the other
pub ends_count : (old new : World) → old.time ≤ new.time → ((k : ℕ) → k ≤ old.time → new.moment k ≡ old.moment k) → NoCountFalls old new → (g : ℕ) → faults_of g old ≤ faults_of g new
ends_count old new later past falls g = omega (arith, falls old.time new.time g (omega arith) later (omega arith), ap (λ (m : Moment). m.faults g) (past old.time (omega arith)))

pub changes_none : (file : ℕ) (w : World) → ChangesOnly file w w
changes_none file w = record {
  later = omega arith;
  past = λ k le. refl;
  others = λ k g from to other. let same : k ≡ w.time = omega arith in ap (λ (m : ℕ). (w.moment m).files g) same;
  told = λ k from to. let same : k ≡ w.time = omega arith in ap (λ (m : ℕ). is_some ((w.moment m).files file)) same;
  said = λ k from to. let same : k ≡ w.time = omega arith in ap (λ (m : ℕ). (w.moment m).said) same;
  talk = refl;
  faults = none_falls w;
}

pub changes_call : (file : ℕ) (old new : World) → CallsOn file old new → ChangesOnly file old new
changes_call file old new call = record {
  later = call.later;
  past = call.past;
  others = λ k g from to other. elim (call_cases old new call.past call.during k from to) [
    | inl before ↦ ap (λ (m : Moment). m.files g) before
    | inr after ↦ ap (λ (m : Moment). m.files g) after ∙ call.others g other
  ];
  told = λ k from to. elim (call_cases old new call.past call.during k from to) [
    | inl before ↦ ap (λ (m : Moment). is_some (m.files file)) before
    | inr after ↦ ap (λ (m : Moment). is_some (m.files file)) after ∙ call.told
  ];
  said = λ k from to. elim (call_cases old new call.past call.during k from to) [
    | inl before ↦ ap (λ (m : Moment). m.said) before
    | inr after ↦ ap (λ (m : Moment). m.said) after ∙ call.said
  ];
  talk = call.talk;
  faults = call_falls old new call.past call.during call.faults;
}

pub changes_then : (file : ℕ) (old mid new : World) → ChangesOnly file old mid → ChangesOnly file mid new → ChangesOnly file old new
changes_then file old mid new a b = record {
  later = omega (arith, a.later, b.later);
  past = λ k le. b.past k (omega (arith, a.later)) ∙ a.past k le;
  others = λ k g from to other. elim (cases_lt mid.time k) [
    | inl after ↦ b.others k g (omega arith) to other ∙ a.others mid.time g a.later (omega arith) other
    | inr before ↦ ap (λ (m : Moment). m.files g) (b.past k before) ∙ a.others k g from before other
  ];
  told = λ k from to. elim (cases_lt mid.time k) [
    | inl after ↦ b.told k (omega arith) to ∙ a.told mid.time a.later (omega arith)
    | inr before ↦ ap (λ (m : Moment). is_some (m.files file)) (b.past k before) ∙ a.told k from before
  ];
  said = λ k from to. elim (cases_lt mid.time k) [
    | inl after ↦ b.said k (omega arith) to ∙ a.said mid.time a.later (omega arith)
    | inr before ↦ ap (λ (m : Moment). m.said) (b.past k before) ∙ a.said k from before
  ];
  talk = b.talk ∙ a.talk;
  faults = then_falls old mid new b.past a.faults b.faults;
}

pub changes_count : (file : ℕ) (old new : World) → ChangesOnly file old new → (g : ℕ) → faults_of g old ≤ faults_of g new
changes_count file old new only = ends_count old new only.later only.past only.faults

-- a count that rose in a part rose in the whole
pub rose_behind : (file g : ℕ) (old mid new : World) → ChangesOnly file old mid → FileCountRose g mid new → FileCountRose g old new
rose_behind file g old mid new only rose = omega (arith, changes_count file old mid only g)

pub rose_before : (file g : ℕ) (old mid new : World) → FileCountRose g old mid → ChangesOnly file mid new → FileCountRose g old new
rose_before file g old mid new rose only = omega (arith, changes_count file mid new only g)

-- what holds anyhow holds where there is an error
pub on_err : {T E : Type 0} → (P : Type 0) (result : Result T E) → P → OnErr result P
on_err P (Ok x) here = tt
on_err P (Err e) here = here

pub throughout_none : (file : ℕ) (P : Option File → Type 0) (w : World) → P (file_of file w) → Throughout file P w w
throughout_none file P w here = λ k from to. let same : w.time ≡ k = omega arith in subst (λ (m : ℕ). P ((w.moment m).files file)) same here

pub throughout_call : (file : ℕ) (P : Option File → Type 0) (old new : World) → CallsOn file old new → P (file_of file old) → P (file_of file new) → Throughout file P old new
throughout_call file P old new call before after = λ k from to. elim (call_cases old new call.past call.during k from to) [
  | inl is ↦ subst (λ (m : Moment). P (m.files file)) (sym is) before
  | inr is ↦ subst (λ (m : Moment). P (m.files file)) (sym is) after
]

pub throughout_then : (file : ℕ) (P : Option File → Type 0) (old mid new : World) → Throughout file P old mid → ChangesOnly file mid new → Throughout file P mid new → Throughout file P old new
throughout_then file P old mid new a changes b = λ k from to. elim (cases_lt mid.time k) [
  | inl after ↦ b k (omega arith) to
  | inr before ↦ subst (λ (m : Moment). P (m.files file)) (sym (changes.past k before)) (a k from before)
]

-- before the first call
pub begins : (file : ℕ) (P : Option File → Type 0) (w : World) → P (file_of file w) → Runs file P w w
begins file P w here = record { only = changes_none file w; each = throughout_none file P w here }

-- one call more
pub goes_on : (file : ℕ) (P : Option File → Type 0) (old mid new : World) → Runs file P old mid → CallsOn file mid new → P (file_of file new) → Runs file P old new
goes_on file P old mid new so_far call here =
    let one = changes_call file mid new call in
    record {
      only = changes_then file old mid new so_far.only one;
      each = throughout_then file P old mid new so_far.each one (throughout_call file P mid new call (so_far.each mid.time so_far.only.later (omega arith)) here);
    }

-- one part behind another
pub joins : (file : ℕ) (P : Option File → Type 0) (old mid new : World) → Runs file P old mid → Runs file P mid new → Runs file P old new
joins file P old mid new a b = record { only = changes_then file old mid new a.only b.only; each = throughout_then file P old mid new a.each b.only b.each }

pub weakens : (file : ℕ) (P Q : Option File → Type 0) (old new : World) → ((o : Option File) → P o → Q o) → Runs file P old new → Runs file Q old new
weakens file P Q old new gives run = record { only = run.only; each = λ k from to. gives _ (run.each k from to) }

-- where the file stays as it was, behind a part where it does too
pub reads_then : (file : ℕ) (old mid new : World) → Runs file (λ f. f ≡ file_of file old) old mid → Runs file (λ f. f ≡ file_of file mid) mid new → Runs file (λ f. f ≡ file_of file old) old new
reads_then file old mid new a b =
    joins file (λ f. f ≡ file_of file old) old mid new a
    (weakens file (λ f. f ≡ file_of file mid) (λ f. f ≡ file_of file old) mid new (λ o is. is ∙ a.each mid.time a.only.later (omega arith)) b)

-- what holds at its end
pub run_end : (file : ℕ) (P : Option File → Type 0) (old new : World) → Runs file P old new → P (file_of file new)
run_end file P old new run = run.each new.time run.only.later (omega arith)
