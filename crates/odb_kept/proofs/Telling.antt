-- What is told stays so: the images at each moment are kept by a machine that has what the replies
-- said tell.
use Rattle.std.proofs.Common.{◌≡◌, ◌⊎◌, inl, inr, ℕ, List, [], ◌∷◌, ◌++◌, Option, sym, ◌∙◌, ap, subst}
use Rattle.odb_device.specs.World.{Moment}
use Rattle.odb_device.specs.Moments.{AreImages}
use Rattle.odb_kept.specs.Kept.{AreKept}
use Rattle.odb_kept.specs.Running.{KeptAlong, IsLawfulRun, AllTell, machine_after, machine_next}
use Rattle.odb_kept.proofs.Running.{machine_after-append}

-- Lawful answers lead from one machine to a later one; what an answer tells is so of the machine
-- after it, and of each later one
module _ {M A : Type 0} (kept : M → ℕ → List ℕ → Type 0) (after : A → M) (text : A → List ℕ) (lawful : M → A → Type 0) (later : M → M → Type 0) (tells : A → M → Type 0)
    (same : (m : M) → later m m) (then_ : (l m n : M) → later l m → later m n → later l n) (moves : (m : M) (a : A) → lawful m a → later m (after a))
    (now : (m : M) (a : A) → lawful m a → tells a (after a)) (stays : (a : A) (m n : M) → later m n → tells a m → tells a n) where
  run_first : (m : M) (whole rest : List A) → IsLawfulRun lawful after m (whole ++ rest) → IsLawfulRun lawful after m whole
  run_first m [] rest run = tt
  run_first m (a ∷ whole) rest run = (run.0, run_first (after a) whole rest run.1)

  run_rest : (m : M) (whole rest : List A) → IsLawfulRun lawful after m (whole ++ rest) → IsLawfulRun lawful after (machine_after after m whole) rest
  run_rest m [] rest run = run
  run_rest m (a ∷ whole) rest run = run_rest (after a) whole rest run.1

  run_later : (m : M) (answers : List A) → IsLawfulRun lawful after m answers → later m (machine_after after m answers)
  run_later m [] run = same m
  run_later m (a ∷ answers) run = then_ m (after a) (machine_after after (after a) answers) (moves m a run.0) (run_later (after a) answers run.1)

  next_later : (m : M) (rest : List A) → IsLawfulRun lawful after m rest → later m (machine_next after m rest)
  next_later m [] run = same m
  next_later m (a ∷ rest) run = moves m a run.0

  next_last : (m : M) (rest : List A) → IsLawfulRun lawful after m rest → later (machine_next after m rest) (machine_after after m rest)
  next_last m [] run = same m
  next_last m (a ∷ rest) run = run_later (after a) rest run.1

  all_stay : (answers : List A) (m n : M) → later m n → AllTell tells answers m → AllTell tells answers n
  all_stay [] m n l all = tt
  all_stay (a ∷ answers) m n l all = (stays a m n l all.0, all_stay answers m n l all.1)

  run_tells : (m : M) (answers : List A) → IsLawfulRun lawful after m answers → AllTell tells answers (machine_after after m answers)
  run_tells m [] run = tt
  run_tells m (a ∷ answers) run = (stays a (after a) (machine_after after (after a) answers) (run_later (after a) answers run.1) (now m a run.0), run_tells (after a) answers run.1)

  -- so of each set of images: no byte is said and the machine at entry keeps them, or one does that
  -- comes between the first and the last, and has all that was told
  pub along_tells : (entry first : M) (answers : List A) (before : Option (List ℕ)) (moment : Moment) (images : ℕ → List ℕ) → IsLawfulRun lawful after first answers
      → (along : KeptAlong kept after text entry first answers before moment) → AreImages moment images
      → ((along.whole ≡ []) × (along.part ≡ []) × AreKept (kept entry) moment images)
      ⊎ ((n : M) × later first n × later n (machine_after after first answers) × AllTell tells along.whole n × AreKept (kept n) moment images)
  along_tells entry first answers before moment images run along are =
      let m = machine_after after first along.whole in
      let all = subst (IsLawfulRun lawful after first) along.all run in
      let begun = run_first first along.whole along.rest all in
      let going = run_rest first along.whole along.rest all in
      let ends : machine_after after m along.rest ≡ machine_after after first answers =
      sym (ap (machine_after after first) along.all ∙ machine_after-append kept after text first along.whole along.rest) in
      elim (along.keeps images are) [
        | inl e ↦ inl e
        | inr k ↦ inr (elim k [
          | inl here ↦ (m, run_later first along.whole begun, subst (later m) ends (run_later m along.rest going), run_tells first along.whole begun, here)
          | inr next ↦
              let n = machine_next after m along.rest in
              let on = next_later m along.rest going in
              (n, then_ first m n (run_later first along.whole begun) on, subst (later n) ends (next_last m along.rest going), all_stay along.whole m n on (run_tells first along.whole begun), next)
        ])
      ]
