-- What is said, from one call of a console to the next.
use Rattle.std.proofs.Common.{◌≡◌, inl, inr, ℕ, ◌+◌, ◌-◌, ◌<◌, ◌≤◌, List, [], ◌∷◌, ◌++◌, length, take, drop, Option, Some, None, refl, sym, ◌∙◌, ap, subst, arith, append_assoc, length-append, length-drop}
use Rattle.std.specs.Prelude.{option_map}
use Rattle.std.proofs.lemmas.Bool.{cases_lt}
use Rattle.std.proofs.lemmas.List.{append-nil, append_cancel_left, take-append-drop, take-append-le, take_all}
use Rattle.std.proofs.Math.Seq.{take-add, take-append_seam, take-append-add}
use Rattle.odb_device.specs.World.{World, Moment, present, file_of, faults_of}
use Rattle.odb_device.specs.Images.{part}
use Rattle.odb_device.specs.Counts.{Rose, Adds, Grows}
use Rattle.odb_device.specs.Console.{Talks, Says, SaysNothing, TakesNothing, AddsFront, SaysOnly, BreaksOff}

-- a count that rose in a part of a call rose in the whole of it
pub rose_earlier : (first before now : ℕ) → first ≤ before → Rose before now → Rose first now
rose_earlier first before now le rose = omega arith

pub rose_later : (before mid now : ℕ) → Rose before mid → mid ≤ now → Rose before now
rose_later before mid now rose le = omega arith

-- no bytes are added
pub adds_none : (o : Option (List ℕ)) → Adds [] o o
adds_none None = refl
adds_none (Some s) = ap Some (sym (append-nil s))

pub adds_then : (a b : List ℕ) (old mid new : Option (List ℕ)) → Adds a old mid → Adds b mid new → Adds (a ++ b) old new
adds_then a b None mid new first second = second ∙ ap (option_map (λ (s : List ℕ). s ++ b)) first
adds_then a b (Some s) mid new first second = second ∙ ap (option_map (λ (t : List ℕ). t ++ b)) first ∙ ap Some (append_assoc s a b)

-- what is told stays told, and what isn't stays so
pub grows_same : (old new : Option (List ℕ)) → new ≡ old → Grows old new
grows_same old new same = ([], same ∙ adds_none old)

pub grows_then : (old mid new : Option (List ℕ)) → Grows old mid → Grows mid new → Grows old new
grows_then old mid new a b = (a.0 ++ b.0, adds_then a.0 b.0 old mid new a.1 b.1)

-- what lies between two lists, of which the second adds a front of these bytes, adds a front of
-- them too
pub front_between : (bytes : List ℕ) (n : ℕ) (old mid new : Option (List ℕ)) → Adds (take n bytes) old new → Grows old mid → Grows mid new → AddsFront bytes old mid
front_between bytes n None mid new adds a b = (0, omega arith, a.1)
front_between bytes n (Some s) mid new adds a b = (length a.0, omega (arith, ap length whole, length-append a.0 (b.0 ++ drop n bytes)), a.1 ∙ ap (λ (l : List ℕ). Some (s ++ l)) (sym front))
  where
    some : {x y : List ℕ} → Some x ≡ Some y → x ≡ y
    some e = cc

    both : Some (s ++ (a.0 ++ b.0)) ≡ Some (s ++ take n bytes)
    both = sym (adds_then a.0 b.0 (Some s) mid new a.1 b.1) ∙ adds

    rest : a.0 ++ b.0 ≡ take n bytes
    rest = append_cancel_left s (a.0 ++ b.0) (take n bytes) (some both)

    whole : bytes ≡ a.0 ++ (b.0 ++ drop n bytes)
    whole = sym (take-append-drop n bytes) ∙ ap (λ (l : List ℕ). l ++ drop n bytes) (sym rest) ∙ append_assoc a.0 b.0 (drop n bytes)

    front : take (length a.0) bytes ≡ a.0
    front = ap (take (length a.0)) whole ∙ take-append_seam a.0 (b.0 ++ drop n bytes)

-- what lies between a list and the same list is that list
pub between_same : (old mid : Option (List ℕ)) → Grows old mid → Grows mid old → mid ≡ old
between_same None mid a b = a.1
between_same (Some s) mid a b = a.1 ∙ ap (λ (l : List ℕ). Some (s ++ l)) none ∙ ap Some (append-nil s)
  where
    some : {x y : List ℕ} → Some x ≡ Some y → x ≡ y
    some e = cc

    both : Some (s ++ (a.0 ++ b.0)) ≡ Some (s ++ [])
    both = sym (adds_then a.0 b.0 (Some s) mid (Some s) a.1 b.1) ∙ adds_none (Some s)

    rest : a.0 ++ b.0 ≡ []
    rest = append_cancel_left s (a.0 ++ b.0) [] (some both)

    nil_front : (x y : List ℕ) → x ++ y ≡ [] → x ≡ []
    nil_front [] y e = refl
    nil_front (v ∷ x) y e = cc

    none : a.0 ≡ []
    none = nil_front a.0 b.0 rest

pub talks_none : (w : World) → Talks w w
talks_none w = record {
  later = omega arith;
  past = λ k le. refl;
  files = λ k g from to. let same : k ≡ w.time = omega arith in ap (λ (m : ℕ). (w.moment m).files g) same;
  said = λ k from to.
      let same : k ≡ w.time = omega arith in
      let is : (w.moment k).said ≡ (present w).said = ap (λ (m : ℕ). (w.moment m).said) same in
      (grows_same _ _ is, grows_same _ _ (sym is));
  faults = λ k from to g. let same : k ≡ w.time = omega arith in ap (λ (m : ℕ). (w.moment m).faults g) same;
  take_faults = omega arith;
  say_faults = omega arith;
}

-- one part behind another
pub talks_then : (old mid new : World) → Talks old mid → Talks mid new → Talks old new
talks_then old mid new a b = record {
  later = omega (arith, a.later, b.later);
  past = λ k le. b.past k (omega (arith, a.later)) ∙ a.past k le;
  files = λ k g from to. elim (cases_lt mid.time k) [
    | inl after ↦ b.files k g (omega arith) to ∙ a.files mid.time g a.later (omega arith)
    | inr before ↦ ap (λ (m : Moment). m.files g) (b.past k before) ∙ a.files k g from before
  ];
  said = λ k from to. elim (cases_lt mid.time k) [
    | inl after ↦
        let s = b.said k (omega arith) to in
        (grows_then (present old).said (present mid).said (new.moment k).said (a.said mid.time a.later (omega arith)).0 s.0, s.1)
    | inr before ↦
        let s = a.said k from before in
        let is : (new.moment k).said ≡ (mid.moment k).said = ap (λ (m : Moment). m.said) (b.past k before) in
        let seam = b.said mid.time (omega arith) b.later in
        let last = grows_then (present mid).said (new.moment mid.time).said (present new).said seam.0 seam.1 in (
          subst (Grows (present old).said) (sym is) s.0,
          subst (λ (m : Option (List ℕ)). Grows m (present new).said) (sym is) (grows_then (mid.moment k).said (present mid).said (present new).said s.1 last),
        )
  ];
  faults = λ k from to g. elim (cases_lt mid.time k) [
    | inl after ↦ b.faults k (omega arith) to g ∙ a.faults mid.time a.later (omega arith) g
    | inr before ↦ ap (λ (m : Moment). m.faults g) (b.past k before) ∙ a.faults k from before g
  ];
  take_faults = omega (arith, a.take_faults, b.take_faults);
  say_faults = omega (arith, a.say_faults, b.say_faults);
}

-- what a host shows whose moments come one for a call
pub talks_at_once : (old new : World) → old.time ≤ new.time → ((k : ℕ) → k ≤ old.time → new.moment k ≡ old.moment k) → ((k : ℕ) → old.time < k → k ≤ new.time → new.moment k ≡ present new)
    → ((g : ℕ) → file_of g new ≡ file_of g old) → Grows (present old).said (present new).said → ((g : ℕ) → faults_of g new ≡ faults_of g old)
    → old.talk.take_faults ≤ new.talk.take_faults → old.talk.say_faults ≤ new.talk.say_faults → Talks old new
talks_at_once old new later past during files said faults take_faults say_faults = record {
  later = later;
  past = past;
  files = λ k g from to. elim (cases_lt old.time k) [
    | inl after ↦ ap (λ (m : Moment). m.files g) (during k after to) ∙ files g
    | inr before ↦ let same : k ≡ old.time = omega arith in ap (λ (m : Moment). m.files g) (past k before) ∙ ap (λ (m : ℕ). (old.moment m).files g) same
  ];
  said = λ k from to. elim (cases_lt old.time k) [
    | inl after ↦
        let is : (new.moment k).said ≡ (present new).said = ap (λ (m : Moment). m.said) (during k after to) in
        (subst (Grows (present old).said) (sym is) said, grows_same _ _ (sym is))
    | inr before ↦
        let same : k ≡ old.time = omega arith in
        let is : (new.moment k).said ≡ (present old).said = ap (λ (m : Moment). m.said) (past k before) ∙ ap (λ (m : ℕ). (old.moment m).said) same in
        (grows_same _ _ is, subst (λ (m : Option (List ℕ)). Grows m (present new).said) (sym is) said)
  ];
  faults = λ k from to g. elim (cases_lt old.time k) [
    | inl after ↦ ap (λ (m : Moment). m.faults g) (during k after to) ∙ faults g
    | inr before ↦ let same : k ≡ old.time = omega arith in ap (λ (m : Moment). m.faults g) (past k before) ∙ ap (λ (m : ℕ). (old.moment m).faults g) same
  ];
  take_faults = take_faults;
  say_faults = say_faults;
}

-- at its end the files are as before
pub talks_files : (old new : World) → Talks old new → (g : ℕ) → file_of g new ≡ file_of g old
talks_files old new talks g = talks.files new.time g talks.later (omega arith)

-- where nothing is said, nothing is said by any moment
pub talks_silent : (old new : World) → Talks old new → SaysNothing old new → (k : ℕ) → old.time ≤ k → k ≤ new.time → (new.moment k).said ≡ (present old).said
talks_silent old new talks silent k from to =
    let b = talks.said k from to in
    between_same (present old).said (new.moment k).said b.0 (subst (Grows (new.moment k).said) silent b.1)

-- what is said by each moment follows from what is said in the end
pub says_front : (bytes : List ℕ) (n : ℕ) (old new : World) → Talks old new → TakesNothing old new → Says (take n bytes) old new → SaysOnly bytes old new
says_front bytes n old new talks input says = record {
  talks = talks;
  input = input;
  fronts = λ k from to. let b = talks.said k from to in front_between bytes n (present old).said (new.moment k).said (present new).said says b.0 b.1;
}

pub says_none : (w : World) → SaysOnly [] w w
says_none w = says_front [] 0 w w (talks_none w) (refl, refl) (adds_none (present w).said)

-- the first of two lists alone is a front of both
pub says_longer : (a b : List ℕ) (old new : World) → SaysOnly a old new → SaysOnly (a ++ b) old new
says_longer a b old new only = record {
  talks = only.talks;
  input = only.input;
  fronts = λ k from to.
      let f = only.fronts k from to in
      (f.0, omega (arith, f.1, length-append a b), subst (λ (l : List ℕ). Adds l (present old).said (new.moment k).said) (sym (take-append-le f.0 a b f.1)) f.2);
}

-- one list behind another
pub says_then : (a b : List ℕ) (old mid new : World) → SaysOnly a old mid → Says a old mid → SaysOnly b mid new → SaysOnly (a ++ b) old new
says_then a b old mid new first all second = record {
  talks = talks_then old mid new first.talks second.talks;
  input = (second.input.0 ∙ first.input.0, second.input.1 ∙ first.input.1);
  fronts = λ k from to. elim (cases_lt mid.time k) [
    | inl after ↦
        let f = second.fronts k (omega arith) to in
        let both : Adds (a ++ take f.0 b) (present old).said (new.moment k).said = adds_then a (take f.0 b) (present old).said (present mid).said (new.moment k).said all f.2 in
        (length a + f.0, omega (arith, f.1, length-append a b), subst (λ (l : List ℕ). Adds l (present old).said (new.moment k).said) (sym (take-append-add a b f.0)) both)
    | inr before ↦
        let f = (says_longer a b old mid first).fronts k from before in
        (f.0, f.1, ap (λ (m : Moment). m.said) (second.talks.past k before) ∙ f.2)
  ];
}

pub says_both : (a b : List ℕ) (old mid new : World) → Says a old mid → Says b mid new → Says (a ++ b) old new
says_both a b old mid new first second = adds_then a b (present old).said (present mid).said (present new).said first second

-- the first of two lists breaks off, or the second does
pub breaks_first : (a b : List ℕ) (old new : World) → BreaksOff a old new → BreaksOff (a ++ b) old new
breaks_first a b old new off = (off.0, omega (arith, off.1, length-append a b), subst (λ (l : List ℕ). Says l old new) (sym (take-append-le off.0 a b (omega (arith, off.1)))) off.2)

pub breaks_second : (a b : List ℕ) (old mid new : World) → Says a old mid → BreaksOff b mid new → BreaksOff (a ++ b) old new
breaks_second a b old mid new all off =
    (length a + off.0, omega (arith, off.1, length-append a b), subst (λ (l : List ℕ). Says l old new) (sym (take-append-add a b off.0)) (says_both a (take off.0 b) old mid new all off.2))

-- so far the first n of these bytes are said
pub record IsSaying (bytes : List ℕ) (start now : World) (n : ℕ) : Type 0 where
  pub within : n ≤ length bytes
  pub talks : Talks start now
  pub input : TakesNothing start now
  pub said : Says (take n bytes) start now

pub saying_none : (bytes : List ℕ) (w : World) → IsSaying bytes w w 0
saying_none bytes w = record { within = omega arith; talks = talks_none w; input = (refl, refl); said = adds_none (present w).said }

-- a call more that says nothing
pub saying_failed : (bytes : List ℕ) (start now new : World) (n : ℕ) → IsSaying bytes start now n → Talks now new → TakesNothing now new → SaysNothing now new → IsSaying bytes start new n
saying_failed bytes start now new n saying talks input silent = record {
  within = saying.within;
  talks = talks_then start now new saying.talks talks;
  input = (input.0 ∙ saying.input.0, input.1 ∙ saying.input.1);
  said = silent ∙ saying.said;
}

-- and one that says the first m bytes of the rest
pub saying_call : (bytes : List ℕ) (start now new : World) (n m : ℕ) → IsSaying bytes start now n → m ≤ length (part n (length bytes - n) bytes) → Talks now new → TakesNothing now new
    → Says (take m (part n (length bytes - n) bytes)) now new → IsSaying bytes start new (n + m)
saying_call bytes start now new n m saying within talks input said =
    let rest : part n (length bytes - n) bytes ≡ drop n bytes = take_all (length bytes - n) (drop n bytes) (omega (arith, length-drop n bytes)) in
    let one : Says (take m (drop n bytes)) now new = subst (λ (l : List ℕ). Says (take m l) now new) rest said in
    record {
      within = omega (arith, saying.within, within, ap length rest, length-drop n bytes);
      talks = talks_then start now new saying.talks talks;
      input = (input.0 ∙ saying.input.0, input.1 ∙ saying.input.1);
      said = subst (λ (l : List ℕ). Says l start new) (sym (take-add n m bytes)) (adds_then (take n bytes) (take m (drop n bytes)) (present start).said (present now).said (present new).said saying.said one);
    }

pub saying_only : (bytes : List ℕ) (start now : World) (n : ℕ) → IsSaying bytes start now n → SaysOnly bytes start now
saying_only bytes start now n saying = says_front bytes n start now saying.talks saying.input saying.said

pub saying_all : (bytes : List ℕ) (start now : World) (n : ℕ) → IsSaying bytes start now n → length bytes ≤ n → Says bytes start now
saying_all bytes start now n saying all = subst (λ (l : List ℕ). Says l start now) (take_all n bytes all) saying.said
