-- Which machine keeps the files at each moment of a run, by the replies that are said.
use Rattle.std.specs.Prelude.{◌≡◌, ◌≢◌, ◌⊎◌, ℕ, List, [], ◌∷◌, ◌++◌, flat_map, Option}
use Rattle.odb_device.specs.World.{Moment, World, present}
use Rattle.odb_device.specs.Counts.{Adds}
use Rattle.odb_device.specs.Console.{Says}
use Rattle.odb_device.specs.Moments.{AreImages}
use Rattle.odb_device.specs.Steps.{Steps}
use Rattle.odb_kept.specs.Kept.{KeptBy, AreKept}

-- A run is a list of answers. Of an answer two things are known here: the machine after it, and the
-- text that says it.

-- the machine after these answers
abbrev pub machine_after : {M A : Type 0} → (A → M) → M → List A → M
machine_after after m [] = m
machine_after after m (answer ∷ answers) = machine_after after (after answer) answers

-- the machine after the first of these answers
abbrev pub machine_next : {M A : Type 0} → (A → M) → M → List A → M
machine_next after m [] = m
machine_next after m (answer ∷ answers) = after answer

-- these bytes begin the text of the first answer, and aren't all of it
abbrev pub Begins : {A : Type 0} → (A → List ℕ) → List ℕ → List A → Type 0
Begins text part [] = part ≡ []
Begins text part (answer ∷ answers) =
    (more : List ℕ) × (more ≢ []) × (text answer ≡ part ++ more)

-- no answer is said by no byte
abbrev pub IsAudible : {A : Type 0} → (A → List ℕ) → Type 0
IsAudible text = (answer : _) → text answer ≢ []

-- A moment of a run with these answers: some replies are wholly said, and of the next one a part.
-- Whatever a crash leaves is as the machine asks that stands after the replies said, or the one
-- after the next reply. Where no byte is said yet, it may be as the machine at entry asks
pub record KeptAlong {M A : Type 0} (kept : M → ℕ → List ℕ → Type 0) (after : A → M)
    (text : A → List ℕ) (entry first : M) (answers : List A) (before : Option (List ℕ))
    (moment : Moment) : Type 0 where
  pub whole : List A
  pub rest : List A
  pub all : answers ≡ whole ++ rest
  pub part : List ℕ
  pub begins : Begins text part rest
  pub said : Adds (flat_map text whole ++ part) before moment.said
  pub keeps : (images : ℕ → List ℕ) → AreImages moment images
      → ((whole ≡ []) × (part ≡ []) × AreKept (kept entry) moment images)
      ⊎ (AreKept (kept (machine_after after first whole)) moment images
      ⊎ AreKept (kept (machine_next after (machine_after after first whole) rest)) moment images)

-- The answers so far, from one world to another: each moment is kept along them, just their texts
-- are said, and now the last machine keeps each file
pub record IsRunning {M A : Type 0} (kept : M → ℕ → List ℕ → Type 0) (after : A → M)
    (text : A → List ℕ) (entry first : M) (answers : List A) (m : M) (old new : World) :
    Type 0 where
  pub steps : Steps (KeptAlong kept after text entry first answers (present old).said) old new
  pub says : Says (flat_map text answers) old new
  pub machine : machine_after after first answers ≡ m
  pub keeps : KeptBy (kept m) (present new)

-- each answer is lawful for the machine that stands before it
abbrev pub IsLawfulRun : {M A : Type 0} → (M → A → Type 0) → (A → M) → M → List A → Type 0
IsLawfulRun lawful after m [] = Unit {0}
IsLawfulRun lawful after m (answer ∷ answers) =
    lawful m answer × IsLawfulRun lawful after (after answer) answers

-- what each of these answers tells is so of the machine
abbrev pub AllTell : {M A : Type 0} → (A → M → Type 0) → List A → M → Type 0
AllTell tells [] m = Unit {0}
AllTell tells (answer ∷ answers) m = tells answer m × AllTell tells answers m
