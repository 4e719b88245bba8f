-- What holds at every moment of a call, and of calls one after another.
use Rattle.std.specs.Prelude.{◌≡◌, ◌≢◌, ℕ, ◌≤◌, List, length, drop, Option, is_some, IfSome}
use Rattle.odb_device.specs.World.{File, Moment, World, present, file_of}
use Rattle.odb_device.specs.Images.{IsImageOf, TornFrom}

-- at each moment from old to new Q holds
abbrev pub EachMoment : (Moment → Type 0) → World → World → Type 0
EachMoment Q old new = (k : ℕ) → old.time ≤ k → k ≤ new.time → Q (new.moment k)

-- from each moment to each later one no file's count of faults falls
abbrev pub NoCountFalls : World → World → Type 0
NoCountFalls old new = (j k g : ℕ) → old.time ≤ j → j ≤ k → k ≤ new.time
    → (new.moment j).faults g ≤ (new.moment k).faults g

-- from old to new only this file and counts of faults change, and nothing is said or taken
pub record ChangesOnly (file : ℕ) (old new : World) : Type 0 where
  pub later : old.time ≤ new.time
  pub past : (k : ℕ) → k ≤ old.time → new.moment k ≡ old.moment k
  pub others : (k g : ℕ) → old.time ≤ k → k ≤ new.time → g ≢ file
      → (new.moment k).files g ≡ file_of g old
  pub told : EachMoment (λ m. is_some (m.files file) ≡ is_some (file_of file old)) old new
  pub said : EachMoment (λ m. m.said ≡ (present old).said) old new
  pub talk : new.talk ≡ old.talk
  pub faults : NoCountFalls old new

-- at each moment from old to new the file has P
abbrev pub Throughout : ℕ → (Option File → Type 0) → World → World → Type 0
Throughout file P old new = EachMoment (λ m. P (m.files file)) old new

-- from old to new only this file changes, and at each moment it has P
pub record Runs (file : ℕ) (P : Option File → Type 0) (old new : World) : Type 0 where
  pub only : ChangesOnly file old new
  pub each : Throughout file P old new

-- and of each image from before at most the n bytes from `at` on, and what lies past its end
abbrev pub WritesWithin : ℕ → ℕ → ℕ → World → World → Type 0
WritesWithin file at n old new = Runs file (TornFrom at n (file_of file old)) old new

-- the images of a moment: one for each file, independent of one another
abbrev pub AreImages : Moment → (ℕ → List ℕ) → Type 0
AreImages m images = (file : ℕ) → IsImageOf (m.files file) (images file)

-- with the bytes said since an earlier world and any images, Q, where what is said is told
abbrev pub EachCrashSince : World → (List ℕ → (ℕ → List ℕ) → Type 0) → Moment → Type 0
EachCrashSince old Q m = (images : ℕ → List ℕ) → AreImages m images
    → IfSome (present old).said
    (λ before. IfSome m.said (λ now. Q (drop (length before) now) images))
