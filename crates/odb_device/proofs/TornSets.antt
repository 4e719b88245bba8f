-- The laws of torn sets.
use Rattle.std.proofs.Common.{◌≡◌, inl, inr, ℕ, ◌+◌, ◌≤◌, List, Option, Some, None, sym, ◌∙◌, subst, refl, arith}
use Rattle.std.proofs.lemmas.Bool.{cases_lt}
use Rattle.odb_device.specs.World.{File}
use Rattle.odb_device.specs.Images.{IsImage, EachImage, Torn, TornFrom}
use Rattle.odb_device.proofs.Torn.{each_weakens}
use Rattle.odb_device.specs.TornSets.{InRange, TornIn, TornInFrom}

-- a torn range is a torn set
pub torn_range : (at n : ℕ) (old new : List ℕ) → Torn at n old new → TornIn (InRange at n) (at + n) old new
torn_range at n old new t = record {
  no_shorter = t.no_shorter;
  no_longer = t.no_longer;
  outside = λ i within out. t.outside i within (elim (cases_lt i at) [
    | inl below ↦ inl below
    | inr from ↦ elim (cases_lt i (at + n)) [ inl to ↦ absurd (out (from, to)) | inr above ↦ inr above ]
  ]);
}

-- and the other way
pub range_torn : (at n : ℕ) (old new : List ℕ) → TornIn (InRange at n) (at + n) old new → Torn at n old new
range_torn at n old new t = record {
  no_shorter = t.no_shorter;
  no_longer = t.no_longer;
  outside = λ i within out. t.outside i within (λ p. elim out [ inl low ↦ omega (arith, p.0, low) | inr high ↦ omega (arith, p.1, high) ]);
}

pub torn_in_none : (P : ℕ → Type 0) (end : ℕ) (bytes : List ℕ) → TornIn P end bytes bytes
torn_in_none P end bytes = record { no_shorter = omega arith; no_longer = omega arith; outside = λ i within out. refl }

-- a larger set
pub torn_in_widens : (P Q : ℕ → Type 0) (end far : ℕ) (old new : List ℕ) → ((i : ℕ) → P i → Q i) → end ≤ far → TornIn P end old new → TornIn Q far old new
torn_in_widens P Q end far old new more further t = record {
  no_shorter = t.no_shorter;
  no_longer = omega (arith, t.no_longer);
  outside = λ i within out. t.outside i within (λ p. out (more i p));
}

-- one behind another, in the same set
pub torn_in_then : (P : ℕ → Type 0) (end : ℕ) (old mid new : List ℕ) → TornIn P end old mid → TornIn P end mid new → TornIn P end old new
torn_in_then P end old mid new a b = record {
  no_shorter = omega (arith, a.no_shorter, b.no_shorter);
  no_longer = omega (arith, a.no_longer, b.no_longer);
  outside = λ i within out. b.outside i (omega (arith, a.no_shorter)) out ∙ a.outside i within out;
}

-- a range inside the set
pub torn_inside : (P : ℕ → Type 0) (end at n : ℕ) (old new : List ℕ) → ((i : ℕ) → InRange at n i → P i) → at + n ≤ end → Torn at n old new → TornIn P end old new
torn_inside P end at n old new inside to t = torn_in_widens (InRange at n) P (at + n) end old new inside to (torn_range at n old new t)

-- The same of a file's images: the file as it was
pub from_none : (P : ℕ → Type 0) (end : ℕ) (old new : Option File) → new ≡ old → TornInFrom P end old new
from_none P end None new e = e
from_none P end (Some old) new e = subst (TornInFrom P end (Some old)) (sym e) (λ image is. (image, is, torn_in_none P end image))

pub from_inside : (P : ℕ → Type 0) (end at n : ℕ) (old new : Option File) → ((i : ℕ) → InRange at n i → P i) → at + n ≤ end → TornFrom at n old new → TornInFrom P end old new
from_inside P end at n None new inside to from = from
from_inside P end at n (Some old) new inside to from =
    each_weakens (λ image. (before : List ℕ) × IsImage old before × Torn at n before image) (λ image. (before : List ℕ) × IsImage old before × TornIn P end before image) new
    (λ image b. (b.0, b.1, torn_inside P end at n b.0 image inside to b.2)) from

pub from_in_widens : (P Q : ℕ → Type 0) (end far : ℕ) (old new : Option File) → ((i : ℕ) → P i → Q i) → end ≤ far → TornInFrom P end old new → TornInFrom Q far old new
from_in_widens P Q end far None new more further from = from
from_in_widens P Q end far (Some old) new more further from =
    each_weakens (λ image. (before : List ℕ) × IsImage old before × TornIn P end before image) (λ image. (before : List ℕ) × IsImage old before × TornIn Q far before image) new
    (λ image b. (b.0, b.1, torn_in_widens P Q end far b.0 image more further b.2)) from

pub from_in_then : (P : ℕ → Type 0) (end : ℕ) (old mid new : Option File) → TornInFrom P end old mid → TornInFrom P end mid new → TornInFrom P end old new
from_in_then P end None mid new a b = subst (λ (o : Option File). TornInFrom P end o new) a b
from_in_then P end (Some old) None new a b = subst (TornInFrom P end (Some old)) (sym b) tt
from_in_then P end (Some old) (Some mid) new a b =
    each_weakens (λ image. (before : List ℕ) × IsImage mid before × TornIn P end before image) (λ image. (before : List ℕ) × IsImage old before × TornIn P end before image) new
    (λ image m. let first = a m.0 m.1 in (first.0, first.1, torn_in_then P end first.0 m.0 image first.2 m.2)) b

-- a property of the images before gives one of the images after
pub torn_in_each : (P : ℕ → Type 0) (end : ℕ) (Q R : List ℕ → Type 0) (old new : Option File) → ((before image : List ℕ) → Q before → TornIn P end before image → R image)
    → EachImage Q old → TornInFrom P end old new → EachImage R new
torn_in_each P end Q R None new step each from = subst (EachImage R) (sym from) tt
torn_in_each P end Q R (Some old) None step each from = tt
torn_in_each P end Q R (Some old) (Some new) step each from = λ image is. let b = from image is in step b.0 image (each b.0 b.1) b.2
