-- The frame law, and what looks at what.
use Rattle.std.proofs.Common.{◌≡◌, ℕ, ◌+◌, ◌≤◌, List, length, sym, ◌∙◌, ap, subst, arith}
use Rattle.std.specs.Prelude.{slice_index}
use Rattle.odb_device.specs.Images.{part}
use Rattle.odb_device.proofs.Bytes.{part_same}
use Rattle.odb_device.specs.TornSets.{InRange, TornIn}
use Rattle.odb_device.specs.Frames.{AgreeIn, LooksAt, AsksOf}

-- tearing outside of A leaves what A has
pub torn_agrees : (A P : ℕ → Type 0) (least end : ℕ) (old new : List ℕ) → ((i : ℕ) → A i → P i → ⊥) → least ≤ length old → TornIn P end old new → AgreeIn A least old new
torn_agrees A P least end old new apart long t = record {
  long = long;
  as_long = omega (arith, t.no_shorter);
  same = λ i low a. t.outside i (omega arith) (apart i a);
}

-- the frame law, of a value and of a property
pub frame : {T : Type 0} → (A P : ℕ → Type 0) (least end : ℕ) (f : List ℕ → T) (old new : List ℕ) → LooksAt A least f → ((i : ℕ) → A i → P i → ⊥) → least ≤ length old → TornIn P end old new → f new ≡ f old
frame A P least end f old new looks apart long t = looks old new (torn_agrees A P least end old new apart long t)

pub frame_holds : (A P : ℕ → Type 0) (least end : ℕ) (Q : List ℕ → Type 0) (old new : List ℕ) → AsksOf A least Q → ((i : ℕ) → A i → P i → ⊥) → least ≤ length old → TornIn P end old new → Q old → Q new
frame_holds A P least end Q old new asks apart long t = asks old new (torn_agrees A P least end old new apart long t)

-- what agrees on more agrees on less
pub agree_less : (A B : ℕ → Type 0) (least fewer : ℕ) (a b : List ℕ) → ((i : ℕ) → B i → A i) → fewer ≤ least → AgreeIn A least a b → AgreeIn B fewer a b
agree_less A B least fewer a b more low g = record {
  long = omega (arith, g.long);
  as_long = omega (arith, g.as_long);
  same = λ i small inside. g.same i (omega arith) (more i inside);
}

-- a byte, a part, and what is computed from one or two things that are looked at
pub looks_byte : (at : ℕ) → LooksAt (InRange at 1) (at + 1) (λ bytes. slice_index bytes at)
looks_byte at a b g = g.same at (omega arith) (omega arith, omega arith)

pub looks_part : (at n : ℕ) → LooksAt (InRange at n) (at + n) (part at n)
looks_part at n a b g = part_same at n b a g.as_long g.long (λ i low. g.same (at + i) (omega arith) (omega arith, omega arith))

pub looks_more : {T : Type 0} → (A B : ℕ → Type 0) (least more : ℕ) (f : List ℕ → T) → ((i : ℕ) → A i → B i) → least ≤ more → LooksAt A least f → LooksAt B more f
looks_more A B least more f inside low looks a b g = looks a b (agree_less B A more least a b inside low g)

pub looks_one : {T U : Type 0} → (A : ℕ → Type 0) (least : ℕ) (f : List ℕ → T) (h : T → U) → LooksAt A least f → LooksAt A least (λ bytes. h (f bytes))
looks_one A least f h looks a b g = ap h (looks a b g)

pub looks_both : {T U V : Type 0} → (A : ℕ → Type 0) (least : ℕ) (f : List ℕ → T) (g : List ℕ → U) (h : T → U → V) → LooksAt A least f → LooksAt A least g → LooksAt A least (λ bytes. h (f bytes) (g bytes))
looks_both A least f g h at_f at_g a b agree = ap (λ (t : _). h t (g b)) (at_f a b agree) ∙ ap (h (f a)) (at_g a b agree)

-- a property of what is looked at
pub asks : {T : Type 0} → (A : ℕ → Type 0) (least : ℕ) (f : List ℕ → T) (Q : T → Type 0) → LooksAt A least f → AsksOf A least (λ bytes. Q (f bytes))
asks A least f Q looks a b g here = subst Q (sym (looks a b g)) here
