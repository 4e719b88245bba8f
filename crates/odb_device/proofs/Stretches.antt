-- Stretches of calls: none, one, and one behind another; and what they are of one file, or of the
-- console.
use Rattle.std.proofs.Common.{◌≡◌, inl, inr, ℕ, ◌≤◌, List, Option, sym, ◌∙◌, ap, subst, refl, arith}
use Rattle.std.specs.Prelude.{is_some}
use Rattle.std.proofs.lemmas.Bool.{cases_lt, cases_eq}
use Rattle.odb_device.specs.World.{File, Moment, Talk, World, present, file_of, faults_of}
use Rattle.odb_device.specs.Counts.{Grows}
use Rattle.odb_device.specs.Calls.{CallsOn, Stays}
use Rattle.odb_device.specs.Console.{Talks}
use Rattle.odb_device.specs.Moments.{Runs}
use Rattle.odb_device.specs.Steps.{Steps, Files, IsAsIn, OnlyThis, IsQuiet}
use Rattle.odb_device.proofs.Time.{call_cases, none_falls, call_falls, then_falls, ends_count, changes_call}
use Rattle.odb_device.proofs.Talking.{grows_same, grows_then, between_same}

-- no call
pub steps_none : (Q : Moment → Type 0) (w : World) → Q (present w) → Steps Q w w
steps_none Q w here = record {
  later = omega arith;
  past = λ k le. refl;
  told = λ k g from to. let same : k ≡ w.time = omega arith in ap (λ (m : ℕ). is_some ((w.moment m).files g)) same;
  said = λ k from to.
      let same : k ≡ w.time = omega arith in
      let is : (w.moment k).said ≡ (present w).said = ap (λ (m : ℕ). (w.moment m).said) same in
      (grows_same _ _ is, grows_same _ _ (sym is));
  faults = none_falls w;
  take_faults = omega arith;
  say_faults = omega arith;
  each = λ k from to. let same : w.time ≡ k = omega arith in subst (λ (m : ℕ). Q (w.moment m)) same here;
}

-- one call on a file: Q before it and after it
pub steps_call : (Q : Moment → Type 0) (file : ℕ) (old new : World) → CallsOn file old new → Q (present old) → Q (present new) → Steps Q old new
steps_call Q file old new call before after = record {
  later = call.later;
  past = call.past;
  told = λ k g from to. elim (call_cases old new call.past call.during k from to) [
    | inl is ↦ ap (λ (m : Moment). is_some (m.files g)) is
    | inr is ↦ ap (λ (m : Moment). is_some (m.files g)) is ∙ elim (cases_eq g file) [
      | inl here ↦ subst (λ (f : ℕ). is_some (file_of f new) ≡ is_some (file_of f old)) (sym here) call.told
      | inr other ↦ ap is_some (call.others g other)
    ]
  ];
  said = λ k from to.
      let is : (new.moment k).said ≡ (present old).said = (changes_call file old new call).said k from to in
      (grows_same _ _ is, grows_same _ _ (call.said ∙ sym is));
  faults = call_falls old new call.past call.during call.faults;
  take_faults = omega (arith, ap (λ (t : Talk). t.take_faults) call.talk);
  say_faults = omega (arith, ap (λ (t : Talk). t.say_faults) call.talk);
  each = λ k from to. elim (call_cases old new call.past call.during k from to) [
    | inl is ↦ subst Q (sym is) before
    | inr is ↦ subst Q (sym is) after
  ];
}

-- one stretch behind another
pub steps_then : (Q : Moment → Type 0) (old mid new : World) → Steps Q old mid → Steps Q mid new → Steps Q old new
steps_then Q old mid new a b = record {
  later = omega (arith, a.later, b.later);
  past = λ k le. b.past k (omega (arith, a.later)) ∙ a.past k le;
  told = λ k g from to. elim (cases_lt mid.time k) [
    | inl after ↦ b.told k g (omega arith) to ∙ a.told mid.time g a.later (omega arith)
    | inr before ↦ ap (λ (m : Moment). is_some (m.files g)) (b.past k before) ∙ a.told k g from before
  ];
  said = λ k from to. elim (cases_lt mid.time k) [
    | inl after ↦
        let s = b.said k (omega arith) to in
        (grows_then (present old).said (present mid).said (new.moment k).said (a.said mid.time a.later (omega arith)).0 s.0, s.1)
    | inr before ↦
        let s = a.said k from before in
        let is : (new.moment k).said ≡ (mid.moment k).said = ap (λ (m : Moment). m.said) (b.past k before) in
        let last = (b.said new.time b.later (omega arith)).0 in (
          subst (Grows (present old).said) (sym is) s.0,
          subst (λ (m : Option (List ℕ)). Grows m (present new).said) (sym is) (grows_then (mid.moment k).said (present mid).said (present new).said s.1 last),
        )
  ];
  faults = then_falls old mid new b.past a.faults b.faults;
  take_faults = omega (arith, a.take_faults, b.take_faults);
  say_faults = omega (arith, a.say_faults, b.say_faults);
  each = λ k from to. elim (cases_lt mid.time k) [
    | inl after ↦ b.each k (omega arith) to
    | inr before ↦ subst Q (sym (b.past k before)) (a.each k from before)
  ];
}

-- what follows at each moment of it
pub steps_weaken : (P Q : Moment → Type 0) (old new : World) → ((m : Moment) → P m → Q m) → Steps P old new → Steps Q old new
steps_weaken P Q old new gives steps = record {
  later = steps.later;
  past = steps.past;
  told = steps.told;
  said = steps.said;
  faults = steps.faults;
  take_faults = steps.take_faults;
  say_faults = steps.say_faults;
  each = λ k from to. gives (new.moment k) (steps.each k from to);
}

-- and what follows where it is also known what may be told and said there
pub steps_know : (P Q : Moment → Type 0) (old new : World)
    → ((m : Moment) → ((g : ℕ) → is_some (m.files g) ≡ is_some (file_of g old)) → Grows (present old).said m.said → Grows m.said (present new).said → P m → Q m)
    → Steps P old new → Steps Q old new
steps_know P Q old new gives steps = record {
  later = steps.later;
  past = steps.past;
  told = steps.told;
  said = steps.said;
  faults = steps.faults;
  take_faults = steps.take_faults;
  say_faults = steps.say_faults;
  each = λ k from to. gives (new.moment k) (λ g. steps.told k g from to) (steps.said k from to).0 (steps.said k from to).1 (steps.each k from to);
}

-- what holds when it ends, and which files are told then
pub steps_end : (Q : Moment → Type 0) (old new : World) → Steps Q old new → Q (present new)
steps_end Q old new steps = steps.each new.time steps.later (omega arith)

pub steps_told : (Q : Moment → Type 0) (old new : World) → Steps Q old new → (g : ℕ) → is_some (file_of g new) ≡ is_some (file_of g old)
steps_told Q old new steps g = steps.told new.time g steps.later (omega arith)

-- no count falls from the one end to the other
pub steps_count : (Q : Moment → Type 0) (old new : World) → Steps Q old new → (g : ℕ) → faults_of g old ≤ faults_of g new
steps_count Q old new steps = ends_count old new steps.later steps.past steps.faults

-- a call that only reads a file changes none, whichever is asked about
pub steps_read : (file : ℕ) (old new : World) → CallsOn file old new → Stays file old new → Steps (Files (IsAsIn old)) old new
steps_read file old new call stays = steps_call (Files (IsAsIn old)) file old new call (λ g. refl) (λ g. elim (cases_eq g file) [
  | inl here ↦ subst (λ (f : ℕ). file_of f new ≡ file_of f old) (sym here) stays
  | inr other ↦ call.others g other
])

-- where each file has R at its number, a stretch in which none changes keeps that
pub steps_still : (R : ℕ → Option File → Type 0) (old new : World) → Files R (present old) → Steps (Files (IsAsIn old)) old new → Steps (Files R) old new
steps_still R old new here steps = steps_weaken (Files (IsAsIn old)) (Files R) old new (λ m as_in g. subst (R g) (sym (as_in g)) (here g)) steps

-- a run on one file is a quiet stretch that leaves the others
pub steps_of_run : (file : ℕ) (P : Option File → Type 0) (old new : World) → Runs file P old new → Steps (Files (OnlyThis file P old)) old new × IsQuiet old new
steps_of_run file P old new run = (
  record {
    later = run.only.later;
    past = run.only.past;
    told = λ k g from to. elim (cases_eq g file) [
      | inl here ↦ subst (λ (f : ℕ). is_some ((new.moment k).files f) ≡ is_some (file_of f old)) (sym here) (run.only.told k from to)
      | inr other ↦ ap is_some (run.only.others k g from to other)
    ];
    said = λ k from to.
        let is = run.only.said k from to in
        let end = run.only.said new.time run.only.later (omega arith) in
        (grows_same _ _ is, grows_same _ _ (end ∙ sym is));
    faults = run.only.faults;
    take_faults = omega (arith, ap (λ (t : Talk). t.take_faults) run.only.talk);
    say_faults = omega (arith, ap (λ (t : Talk). t.say_faults) run.only.talk);
    each = λ k from to g. (
      λ here. subst (λ (f : ℕ). P ((new.moment k).files f)) (sym here) (run.each k from to),
      λ other. run.only.others k g from to other,
    );
  },
  (run.only.said new.time run.only.later (omega arith), run.only.talk),
)

-- and back
pub run_of_steps : (file : ℕ) (P : Option File → Type 0) (old new : World) → Steps (Files (OnlyThis file P old)) old new → IsQuiet old new → Runs file P old new
run_of_steps file P old new steps quiet = record {
  only = record {
    later = steps.later;
    past = steps.past;
    others = λ k g from to other. (steps.each k from to g).1 other;
    told = λ k from to. steps.told k file from to;
    said = λ k from to. let s = steps.said k from to in between_same (present old).said (new.moment k).said s.0 (subst (Grows (new.moment k).said) quiet.0 s.1);
    talk = quiet.1;
    faults = steps.faults;
  };
  each = λ k from to. (steps.each k from to file).0 refl;
}

-- a quiet stretch in which no file changes is a run on any
pub run_still : (file : ℕ) (P : Option File → Type 0) (old new : World) → P (file_of file old) → Steps (Files (IsAsIn old)) old new → IsQuiet old new → Runs file P old new
run_still file P old new here steps quiet = run_of_steps file P old new
    (steps_weaken (Files (IsAsIn old)) (Files (OnlyThis file P old)) old new
    (λ m as_in g. ((λ same. subst P (sym (as_in g ∙ ap (λ (h : ℕ). file_of h old) same)) here), (λ other. as_in g))) steps) quiet

-- calls of the console alone leave each file
pub steps_of_talks : (old new : World) → Talks old new → Steps (Files (IsAsIn old)) old new
steps_of_talks old new talks = record {
  later = talks.later;
  past = talks.past;
  told = λ k g from to. ap is_some (talks.files k g from to);
  said = talks.said;
  faults = λ j k g from then to. omega (arith, talks.faults j from (omega arith) g, talks.faults k (omega arith) to g);
  take_faults = talks.take_faults;
  say_faults = talks.say_faults;
  each = λ k from to g. talks.files k g from to;
}

-- and back, where no file's count rose
pub talks_of_steps : (old new : World) → Steps (Files (IsAsIn old)) old new → ((g : ℕ) → faults_of g new ≡ faults_of g old) → Talks old new
talks_of_steps old new steps faults = record {
  later = steps.later;
  past = steps.past;
  files = λ k g from to. steps.each k from to g;
  said = steps.said;
  faults = λ k from to g.
      let before = steps.faults old.time k g (omega arith) from to in
      let behind = steps.faults k new.time g from to (omega arith) in
      omega (arith, before, behind, faults g, ap (λ (m : Moment). m.faults g) (steps.past old.time (omega arith)));
  take_faults = steps.take_faults;
  say_faults = steps.say_faults;
}
