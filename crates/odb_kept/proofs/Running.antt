-- How a run goes on, an answer more each time.
use Rattle.std.proofs.Common.{◌≡◌, inl, inr, ℕ, List, [], ◌∷◌, ◌++◌, length, take, drop, Option, sym, ◌∙◌, ap, subst, refl, arith, append_assoc, length-drop}
use Rattle.std.specs.Prelude.{flat_map}
use Rattle.std.proofs.lemmas.Bool.{cases_lt}
use Rattle.std.proofs.lemmas.List.{append-nil, take-append-drop, take_all}
use Rattle.odb_device.specs.World.{Moment, World, present}
use Rattle.odb_device.specs.Images.{EachImage}
use Rattle.odb_device.specs.Counts.{Adds, Grows}
use Rattle.odb_device.specs.Console.{Says, SaysOnly, AddsFront}
use Rattle.odb_device.specs.Moments.{AreImages}
use Rattle.odb_device.specs.Steps.{Steps, Files, IsAsIn, IsQuiet}
use Rattle.odb_device.proofs.Stretches.{steps_then, steps_weaken, steps_know, steps_end, steps_none, steps_of_talks}
use Rattle.odb_device.proofs.Talking.{adds_none, adds_then, between_same}
use Rattle.odb_kept.specs.Kept.{KeptBy, AreKept, KeptByEither}
use Rattle.odb_kept.specs.Running.{machine_after, machine_next, Begins, IsAudible, KeptAlong, IsRunning}
use Rattle.odb_kept.proofs.Keeping.{are_kept}

module _ {M A : Type 0} (kept : M → ℕ → List ℕ → Type 0) (after : A → M) (text : A → List ℕ) where
  abbrev Along : M → M → List A → World → Moment → Type 0
  Along entry first answers old m = KeptAlong kept after text entry first answers (present old).said m

  -- an answer more
  pub machine_after-more : (m : M) (answers : List A) (a : A) → machine_after after m (answers ++ a ∷ []) ≡ after a
  machine_after-more m [] a = refl
  machine_after-more m (b ∷ answers) a = machine_after-more (after b) answers a

  pub said-more : (answers : List A) (a : A) → flat_map text (answers ++ a ∷ []) ≡ flat_map text answers ++ text a
  said-more [] a = append-nil (text a)
  said-more (b ∷ answers) a = ap (λ (s : List ℕ). text b ++ s) (said-more answers a) ∙ sym (append_assoc (text b) (flat_map text answers) (text a))

  -- one list behind another
  pub machine_after-append : (m : M) (answers more : List A) → machine_after after m (answers ++ more) ≡ machine_after after (machine_after after m answers) more
  machine_after-append m [] more = refl
  machine_after-append m (b ∷ answers) more = machine_after-append (after b) answers more

  pub said-append : (answers more : List A) → flat_map text (answers ++ more) ≡ flat_map text answers ++ flat_map text more
  said-append [] more = refl
  said-append (b ∷ answers) more = ap (λ (s : List ℕ). text b ++ s) (said-append answers more) ∙ sym (append_assoc (text b) (flat_map text answers) (flat_map text more))

  begins_none : (answers : List A) → IsAudible text → Begins text [] answers
  begins_none [] audible = refl
  begins_none (a ∷ answers) audible = (text a, audible a, refl)

  -- what is kept along some answers is kept along more
  pub along_more : (entry first : M) (answers more : List A) (before : Option (List ℕ)) (m : Moment) → IsAudible text
      → KeptAlong kept after text entry first answers before m → KeptAlong kept after text entry first (answers ++ more) before m
  along_more entry first answers more before m audible along = at_rest along.rest refl
    where
      at_rest : (rest : List A) → along.rest ≡ rest → KeptAlong kept after text entry first (answers ++ more) before m
      at_rest [] is = record {
        whole = along.whole;
        rest = more;
        all = ap (λ (l : List A). l ++ more) (along.all ∙ ap (λ (l : List A). along.whole ++ l) is ∙ append-nil along.whole);
        part = [];
        begins = begins_none more audible;
        said = let none : along.part ≡ [] = subst (Begins text along.part) is along.begins in subst (λ (p : List ℕ). Adds (flat_map text along.whole ++ p) before m.said) none along.said;
        keeps = λ images are. elim (along.keeps images are) [
          | inl e ↦ inl (e.0, refl, e.2)
          | inr k ↦ elim k [
            | inl here ↦ inr (inl here)
            | inr next ↦ inr (inl (subst (λ (r : List A). AreKept (kept (machine_next after (machine_after after first along.whole) r)) m images) is next))
          ]
        ];
      }
      at_rest (b ∷ rest) is = record {
        whole = along.whole;
        rest = b ∷ (rest ++ more);
        all = ap (λ (l : List A). l ++ more) (along.all ∙ ap (λ (l : List A). along.whole ++ l) is) ∙ append_assoc along.whole (b ∷ rest) more;
        part = along.part;
        begins = let p : Begins text along.part (b ∷ rest) = subst (Begins text along.part) is along.begins in p;
        said = along.said;
        keeps = λ images are. elim (along.keeps images are) [
          | inl e ↦ inl e
          | inr k ↦ elim k [
            | inl here ↦ inr (inl here)
            | inr next ↦ inr (inr (subst (λ (r : List A). AreKept (kept (machine_next after (machine_after after first along.whole) r)) m images) is next))
          ]
        ];
      }

  -- and what is kept along a part of a run is kept along the whole of it
  pub along_behind : (entry first : M) (answers more : List A) (old mid : World) (m : Moment) → Says (flat_map text answers) old mid
      → KeptAlong kept after text (machine_after after first answers) (machine_after after first answers) more (present mid).said m → KeptAlong kept after text entry first (answers ++ more) (present old).said m
  along_behind entry first answers more old mid m says along = record {
    whole = answers ++ along.whole;
    rest = along.rest;
    all = ap (λ (l : List A). answers ++ l) along.all ∙ sym (append_assoc answers along.whole along.rest);
    part = along.part;
    begins = along.begins;
    said = subst (λ (s : List ℕ). Adds s (present old).said m.said)
        (sym (append_assoc (flat_map text answers) (flat_map text along.whole) along.part) ∙ ap (λ (s : List ℕ). s ++ along.part) (sym (said-append answers along.whole)))
        (adds_then (flat_map text answers) (flat_map text along.whole ++ along.part) (present old).said (present mid).said m.said says along.said);
    keeps =
        let machine : machine_after after first (answers ++ along.whole) ≡ machine_after after (machine_after after first answers) along.whole = machine_after-append first answers along.whole in
        λ images are. elim (along.keeps images are) [
          | inl e ↦ inr (inl (subst (λ (x : M). AreKept (kept x) m images) (sym (machine ∙ ap (machine_after after (machine_after after first answers)) e.0)) e.2))
          | inr k ↦ elim k [
            | inl here ↦ inr (inl (subst (λ (x : M). AreKept (kept x) m images) (sym machine) here))
            | inr next ↦ inr (inr (subst (λ (x : M). AreKept (kept (machine_next after x along.rest)) m images) (sym machine) next))
          ]
        ];
  }

  -- the machine that an opening found in place of the first
  pub along_entry : (entry first : M) (answers : List A) (before : Option (List ℕ)) (m : Moment) → KeptAlong kept after text first first answers before m → KeptAlong kept after text entry first answers before m
  along_entry entry first answers before m along = record {
    whole = along.whole;
    rest = along.rest;
    all = along.all;
    part = along.part;
    begins = along.begins;
    said = along.said;
    keeps = λ images are. elim (along.keeps images are) [
      | inl e ↦ inr (inl (subst (λ (l : List A). AreKept (kept (machine_after after first l)) m images) (sym e.0) e.2))
      | inr k ↦ inr k
    ];
  }

  -- Before the first answer: nothing is said, and at each moment the machine at entry keeps each file
  pub opened : (entry first : M) (old new : World) → Steps (KeptBy (kept entry)) old new → IsQuiet old new → KeptBy (kept first) (present new)
      → IsRunning kept after text entry first [] first old new
  opened entry first old new steps quiet here = record {
    steps = steps_know (KeptBy (kept entry)) (KeptAlong kept after text entry first [] (present old).said) old new
        (λ m told from to keeps. record {
          whole = [];
          rest = [];
          all = refl;
          part = [];
          begins = refl;
          said = between_same (present old).said m.said from (subst (Grows m.said) quiet.0 to) ∙ adds_none (present old).said;
          keeps = λ images are. inl (refl, refl, are_kept (kept entry) m images keeps are);
        }) steps;
    says = quiet.0 ∙ adds_none (present old).said;
    machine = refl;
    keeps = here;
  }

  -- A step is taken, and nothing said
  pub stepped : (entry first : M) (answers : List A) (m : M) (a : A) (old mid new : World) → IsAudible text → IsRunning kept after text entry first answers m old mid
      → Steps (KeptByEither (kept m) (kept (after a))) mid new → IsQuiet mid new → Steps (KeptAlong kept after text entry first (answers ++ a ∷ []) (present old).said) old new
  stepped entry first answers m a old mid new audible running step quiet =
      steps_then (KeptAlong kept after text entry first (answers ++ a ∷ []) (present old).said) old mid new
      (steps_weaken (KeptAlong kept after text entry first answers (present old).said) (KeptAlong kept after text entry first (answers ++ a ∷ []) (present old).said) old mid
      (λ k along. along_more entry first answers (a ∷ []) (present old).said k audible along) running.steps)
      (steps_know (KeptByEither (kept m) (kept (after a))) (KeptAlong kept after text entry first (answers ++ a ∷ []) (present old).said) mid new
      (λ k told from to either. record {
        whole = answers;
        rest = a ∷ [];
        all = refl;
        part = [];
        begins = (text a, audible a, refl);
        said =
            let same : k.said ≡ (present mid).said = between_same (present mid).said k.said from (subst (Grows k.said) quiet.0 to) in
            subst (λ (s : List ℕ). Adds s (present old).said k.said) (sym (append-nil (flat_map text answers))) (same ∙ running.says);
        keeps = λ images are. elim (either images are) [
          | inl b ↦ inr (inl (subst (λ (x : M). AreKept (kept x) k images) (sym running.machine) b))
          | inr c ↦ inr (inr c)
        ];
      }) step)

  -- and then its text is said, or a front of it
  pub answered : (entry first : M) (answers : List A) (m : M) (a : A) (old mid step new : World) → IsAudible text → IsRunning kept after text entry first answers m old mid
      → Steps (KeptByEither (kept m) (kept (after a))) mid step → IsQuiet mid step → KeptBy (kept (after a)) (present step) → SaysOnly (text a) step new
      → Steps (KeptAlong kept after text entry first (answers ++ a ∷ []) (present old).said) old new
  answered entry first answers m a old mid step new audible running steps quiet here saying =
      steps_then (Along entry first (answers ++ a ∷ []) old) old step new (stepped entry first answers m a old mid step audible running steps quiet) (record {
        later = talk.later;
        past = talk.past;
        told = talk.told;
        said = talk.said;
        faults = talk.faults;
        take_faults = talk.take_faults;
        say_faults = talk.say_faults;
        each = λ k from to. at_front (new.moment k) (talk.each k from to) (saying.fronts k from to);
      })
    where
      talk : Steps (Files (IsAsIn step)) step new
      talk = steps_of_talks step new saying.talks

      before : Adds (flat_map text answers) (present old).said (present step).said
      before = quiet.0 ∙ running.says

      kept_still : (k : Moment) → Files (IsAsIn step) k → (images : ℕ → List ℕ) → AreImages k images → AreKept (kept (after a)) k images
      kept_still k as_in images are = are_kept (kept (after a)) k images (λ g. subst (EachImage (kept (after a) g)) (sym (as_in g)) (here g)) are

      at_front : (k : Moment) → Files (IsAsIn step) k → AddsFront (text a) (present step).said k.said → Along entry first (answers ++ a ∷ []) old k
      at_front k as_in front = elim (cases_lt front.0 (length (text a))) [
        | inl short ↦ record {
          whole = answers;
          rest = a ∷ [];
          all = refl;
          part = take front.0 (text a);
          begins = (drop front.0 (text a), (λ none. absurd (omega (arith, ap length none, length-drop front.0 (text a)))), sym (take-append-drop front.0 (text a)));
          said = adds_then (flat_map text answers) (take front.0 (text a)) (present old).said (present step).said k.said before front.2;
          keeps = λ images are. inr (inr (kept_still k as_in images are));
        }
        | inr all ↦ record {
          whole = answers ++ a ∷ [];
          rest = [];
          all = sym (append-nil (answers ++ a ∷ []));
          part = [];
          begins = refl;
          said =
              let one : Adds (text a) (present step).said k.said = subst (λ (s : List ℕ). Adds s (present step).said k.said) (take_all front.0 (text a) all) front.2 in
              let both : Adds (flat_map text answers ++ text a) (present old).said k.said = adds_then (flat_map text answers) (text a) (present old).said (present step).said k.said before one in
              subst (λ (s : List ℕ). Adds s (present old).said k.said) (sym (append-nil (flat_map text (answers ++ a ∷ [])) ∙ said-more answers a)) both;
          keeps = λ images are. inr (inl (subst (λ (x : M). AreKept (kept x) k images) (sym (machine_after-more first answers a)) (kept_still k as_in images are)));
        }
      ]

  -- so the run goes on, where all of it was said
  pub goes_on : (entry first : M) (answers : List A) (m : M) (a : A) (old mid step new : World) → IsAudible text → IsRunning kept after text entry first answers m old mid
      → Steps (KeptByEither (kept m) (kept (after a))) mid step → IsQuiet mid step → KeptBy (kept (after a)) (present step) → SaysOnly (text a) step new → Says (text a) step new
      → IsRunning kept after text entry first (answers ++ a ∷ []) (after a) old new
  goes_on entry first answers m a old mid step new audible running steps quiet here saying says = record {
    steps = answered entry first answers m a old mid step new audible running steps quiet here saying;
    says = subst (λ (s : List ℕ). Adds s (present old).said (present new).said) (sym (said-more answers a))
        (adds_then (flat_map text answers) (text a) (present old).said (present step).said (present new).said (quiet.0 ∙ running.says) says);
    machine = machine_after-more first answers a;
    keeps = λ g. subst (EachImage (kept (after a) g)) (sym (steps_end (Files (IsAsIn step)) step new (steps_of_talks step new saying.talks) g)) (here g);
  }

  -- calls that leave the files, and say nothing, as a `take`
  pub goes_on_silently : (entry first : M) (answers : List A) (m : M) (old mid new : World) → IsRunning kept after text entry first answers m old mid
      → Steps (Files (IsAsIn mid)) mid new → (present new).said ≡ (present mid).said → IsRunning kept after text entry first answers m old new
  goes_on_silently entry first answers m old mid new running still silent = record {
    steps = steps_then (Along entry first answers old) old mid new running.steps (steps_know (Files (IsAsIn mid)) (Along entry first answers old) mid new
        (λ k told from to as_in. record {
          whole = answers;
          rest = [];
          all = sym (append-nil answers);
          part = [];
          begins = refl;
          said =
              let same : k.said ≡ (present mid).said = between_same (present mid).said k.said from (subst (Grows k.said) silent to) in
              subst (λ (s : List ℕ). Adds s (present old).said k.said) (sym (append-nil (flat_map text answers))) (same ∙ running.says);
          keeps = λ images are. inr (inl (subst (λ (x : M). AreKept (kept x) k images) (sym running.machine)
              (are_kept (kept m) k images (λ g. subst (EachImage (kept m g)) (sym (as_in g)) (running.keeps g)) are)));
        }) still);
    says = silent ∙ running.says;
    machine = running.machine;
    keeps = λ g. subst (EachImage (kept m g)) (sym (steps_end (Files (IsAsIn mid)) mid new still g)) (running.keeps g);
  }

  -- a part of a run behind another
  pub steps_behind : (entry first : M) (answers more : List A) (m : M) (old mid new : World) → IsAudible text → IsRunning kept after text entry first answers m old mid
      → Steps (KeptAlong kept after text m m more (present mid).said) mid new → Steps (KeptAlong kept after text entry first (answers ++ more) (present old).said) old new
  steps_behind entry first answers more m old mid new audible running steps =
      steps_then (Along entry first (answers ++ more) old) old mid new
      (steps_weaken (Along entry first answers old) (Along entry first (answers ++ more) old) old mid (λ k along. along_more entry first answers more (present old).said k audible along) running.steps)
      (steps_weaken (Along m m more mid) (Along entry first (answers ++ more) old) mid new
      (λ k along. along_behind entry first answers more old mid k running.says
      (subst (λ (x : M). KeptAlong kept after text x x more (present mid).said k) (sym running.machine) along)) steps)

  pub run_then : (entry first : M) (answers more : List A) (m last : M) (old mid new : World) → IsAudible text → IsRunning kept after text entry first answers m old mid → IsRunning kept after text m m more last mid new
      → IsRunning kept after text entry first (answers ++ more) last old new
  run_then entry first answers more m last old mid new audible a b = record {
    steps = steps_behind entry first answers more m old mid new audible a b.steps;
    says = subst (λ (s : List ℕ). Adds s (present old).said (present new).said) (sym (said-append answers more)) (adds_then (flat_map text answers) (flat_map text more) (present old).said (present mid).said (present new).said a.says b.says);
    machine = machine_after-append first answers more ∙ ap (λ (x : M). machine_after after x more) a.machine ∙ b.machine;
    keeps = b.keeps;
  }

  -- no answer yet
  pub run_none : (m : M) (w : World) → KeptBy (kept m) (present w) → IsRunning kept after text m m [] m w w
  run_none m w here = opened m m w w (steps_none (KeptBy (kept m)) w here) (refl, refl) here

  -- an opening, and a run behind it
  pub opened_then : (entry first : M) (answers : List A) (old mid new : World) → IsAudible text → Steps (KeptBy (kept entry)) old mid → IsQuiet old mid → KeptBy (kept first) (present mid)
      → Steps (KeptAlong kept after text first first answers (present mid).said) mid new → Steps (KeptAlong kept after text entry first answers (present old).said) old new
  opened_then entry first answers old mid new audible steps quiet here run = steps_behind entry first [] answers first old mid new audible (opened entry first old mid steps quiet here) run
