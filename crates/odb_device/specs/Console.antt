-- What calls of a console do.
use Rattle.std.specs.Prelude.{◌≡◌, ℕ, ◌<◌, ◌≤◌, List, length, take, Option}
use Rattle.odb_device.specs.World.{World, present, file_of, faults_of}
use Rattle.odb_device.specs.Counts.{Rose, Adds, LiesBetween, Ends}
use Rattle.odb_device.specs.Moments.{EachMoment}

-- From old to new only the console changes, in one call or in several. At each moment of it the
-- files and their counts are as before, and what is said by then lies between what was said before
-- and what is said now: a crash may come while a piece is being said.
pub record Talks (old new : World) : Type 0 where
  pub later : old.time ≤ new.time
  pub past : (k : ℕ) → k ≤ old.time → new.moment k ≡ old.moment k
  pub files : (k g : ℕ) → old.time ≤ k → k ≤ new.time → (new.moment k).files g ≡ file_of g old
  pub said : EachMoment (λ m. LiesBetween (present old).said m.said (present new).said) old new
  pub faults : EachMoment (λ m. (g : ℕ) → m.faults g ≡ faults_of g old) old new
  pub take_faults : old.talk.take_faults ≤ new.talk.take_faults
  pub say_faults : old.talk.say_faults ≤ new.talk.say_faults

-- the count of `take` rose
abbrev pub TakeCountRose : World → World → Type 0
TakeCountRose old new = Rose old.talk.take_faults new.talk.take_faults

-- the count of `say` rose
abbrev pub SayCountRose : World → World → Type 0
SayCountRose old new = Rose old.talk.say_faults new.talk.say_faults

-- just these bytes are said
abbrev pub Says : List ℕ → World → World → Type 0
Says bytes old new = Adds bytes (present old).said (present new).said

-- nothing is said
abbrev pub SaysNothing : World → World → Type 0
SaysNothing old new = (present new).said ≡ (present old).said

-- just these bytes are taken
abbrev pub Takes : List ℕ → World → World → Type 0
Takes bytes old new = Adds bytes old.talk.taken new.talk.taken

-- nothing is taken, and the record of the input's end stays
abbrev pub TakesNothing : World → World → Type 0
TakesNothing old new = (new.talk.taken ≡ old.talk.taken) × (new.talk.has_ended ≡ old.talk.has_ended)

-- a `take` that answered n: the end of the input is recorded where n = 0, and stays recorded
abbrev pub EndsInput : ℕ → World → World → Type 0
EndsInput n old new = Ends n old.talk.has_ended new.talk.has_ended

-- a front of these bytes came behind those before
abbrev pub AddsFront : List ℕ → Option (List ℕ) → Option (List ℕ) → Type 0
AddsFront bytes before now = (n : ℕ) × (n ≤ length bytes) × Adds (take n bytes) before now

-- from old to new only the console changes, nothing is taken, and what is said by each moment of it
-- is a front of these bytes
pub record SaysOnly (bytes : List ℕ) (old new : World) : Type 0 where
  pub talks : Talks old new
  pub input : TakesNothing old new
  pub fronts : EachMoment (λ m. AddsFront bytes (present old).said m.said) old new

-- a front of these bytes, shorter than the whole, is said
abbrev pub BreaksOff : List ℕ → World → World → Type 0
BreaksOff bytes old new = (n : ℕ) × (n < length bytes) × Says (take n bytes) old new
