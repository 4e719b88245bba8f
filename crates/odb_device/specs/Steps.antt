-- What a stretch of calls did: to every file, to the console and to the counts.
use Rattle.std.specs.Prelude.{◌≡◌, ◌≢◌, ℕ, ◌≤◌, Option, is_some}
use Rattle.odb_device.specs.World.{File, World, Moment, present, file_of}
use Rattle.odb_device.specs.Counts.{LiesBetween}
use Rattle.odb_device.specs.Moments.{EachMoment, NoCountFalls}

-- From old to new, in no call or in several, Q holds at each moment. The past stays, the same files
-- are told, what is said by each moment lies between what was said before and what is said now, and
-- no count falls, those of the files from no moment to a later one.
pub record Steps (Q : Moment → Type 0) (old new : World) : Type 0 where
  pub later : old.time ≤ new.time
  pub past : (k : ℕ) → k ≤ old.time → new.moment k ≡ old.moment k
  pub told : (k g : ℕ) → old.time ≤ k → k ≤ new.time
      → is_some ((new.moment k).files g) ≡ is_some (file_of g old)
  pub said : EachMoment (λ m. LiesBetween (present old).said m.said (present new).said) old new
  pub faults : NoCountFalls old new
  pub take_faults : old.talk.take_faults ≤ new.talk.take_faults
  pub say_faults : old.talk.say_faults ≤ new.talk.say_faults
  pub each : EachMoment Q old new

-- each file has R, by its number and by what it is at the moment
abbrev pub Files : (ℕ → Option File → Type 0) → Moment → Type 0
Files R m = (g : ℕ) → R g (m.files g)

-- the file is as it was in that world
abbrev pub IsAsIn : World → ℕ → Option File → Type 0
IsAsIn w g now = now ≡ file_of g w

-- this file has P, and each other is as it was in that world
abbrev pub OnlyThis : ℕ → (Option File → Type 0) → World → ℕ → Option File → Type 0
OnlyThis file P w g now = (g ≡ file → P now) × (g ≢ file → now ≡ file_of g w)

-- nothing is said, and nothing taken
abbrev pub IsQuiet : World → World → Type 0
IsQuiet old new = ((present new).said ≡ (present old).said) × (new.talk ≡ old.talk)
