-- How a machine's files are kept through one step, and through a run.
use Rattle.std.proofs.Common.{◌≡◌, ◌≢◌, ◌⊎◌, inl, inr, ℕ, List, Option, Some, None, sym, subst, refl}
use Rattle.std.specs.Prelude.{IfSome}
use Rattle.std.proofs.lemmas.Bool.{cases_eq}
use Rattle.odb_device.specs.World.{File, Moment, World, present, file_of}
use Rattle.odb_device.specs.Images.{IsImage, IsImageOf, EachImage}
use Rattle.odb_device.specs.Moments.{Runs, AreImages}
use Rattle.odb_device.specs.Steps.{Steps, Files, IsAsIn, OnlyThis}
use Rattle.odb_device.proofs.Stretches.{steps_then, steps_weaken, steps_end, steps_of_run}
use Rattle.odb_device.proofs.Time.{weakens}
use Rattle.odb_device.proofs.Torn.{each_weakens}
use Rattle.odb_kept.specs.Kept.{KeptBy, AreKept, KeptByEither, KeptElsewhere, MovesOnly, AsksNoMore}

-- one image of a file that is told, of which each has P
image_kept_at : (P : List ℕ → Type 0) (o : Option File) (image : List ℕ) → EachImage P o → IsImageOf o image → IfSome o (λ f. P image)
image_kept_at P None image each is = tt
image_kept_at P (Some f) image each is = each image is

-- images, of which each is asked for
pub are_kept : (asked : ℕ → List ℕ → Type 0) (m : Moment) (images : ℕ → List ℕ) → KeptBy asked m → AreImages m images → AreKept asked m images
are_kept asked m images kept are = λ g. image_kept_at (asked g) (m.files g) (images g) (kept g) (are g)

-- and so one machine's moment is one of either's
pub either_before : (before after : ℕ → List ℕ → Type 0) (m : Moment) → KeptBy before m → KeptByEither before after m
either_before before after m kept images are = inl (are_kept before m images kept are)

pub either_after : (before after : ℕ → List ℕ → Type 0) (m : Moment) → KeptBy after m → KeptByEither before after m
either_after before after m kept images are = inr (are_kept after m images kept are)

-- where one file's images are as one machine asks or as the other, and the others' as both, all are
-- as one of them asks
pub either_of_moves : (before after : ℕ → List ℕ → Type 0) (file : ℕ) (m : Moment) → MovesOnly file before after m → KeptByEither before after m
either_of_moves before after file m moves images are = at_file (m.files file) refl
  where
    all_of : (asked : ℕ → List ℕ → Type 0) → KeptElsewhere file asked m → IfSome (m.files file) (λ f. asked file (images file)) → AreKept asked m images
    all_of asked elsewhere here = λ g. elim (cases_eq g file) [
      | inl same ↦ subst (λ (h : ℕ). IfSome (m.files h) (λ f. asked h (images h))) (sym same) here
      | inr other ↦ image_kept_at (asked g) (m.files g) (images g) (elsewhere g other) (are g)
    ]

    at_file : (o : Option File) → m.files file ≡ o → AreKept before m images ⊎ AreKept after m images
    at_file None is = inl (all_of before moves.1 (subst (λ (o : Option File). IfSome o (λ f. before file (images file))) (sym is) tt))
    at_file (Some f) is =
        let each : EachImage (λ image. before file image ⊎ after file image) (Some f) = subst (EachImage (λ image. before file image ⊎ after file image)) is moves.0 in
        let image_is : IsImage f (images file) = subst (λ (o : Option File). IsImageOf o (images file)) is (are file) in
        elim (each (images file) image_is) [
          | inl b ↦ inl (all_of before moves.1 (subst (λ (o : Option File). IfSome o (λ f. before file (images file))) (sym is) b))
          | inr a ↦ inr (all_of after moves.2 (subst (λ (o : Option File). IfSome o (λ f. after file (images file))) (sym is) a))
        ]

-- what the others keep where only this file changes
still_elsewhere : (asked : ℕ → List ℕ → Type 0) (file : ℕ) (P : Option File → Type 0) (old : World) (m : Moment) → KeptElsewhere file asked (present old) → Files (OnlyThis file P old) m → KeptElsewhere file asked m
still_elsewhere asked file P old m here only = λ g other. subst (EachImage (asked g)) (sym ((only g).1 other)) (here g other)

-- where one machine asks no more than another elsewhere
pub elsewhere_more : (before after : ℕ → List ℕ → Type 0) (file : ℕ) (m : Moment) → AsksNoMore file before after → KeptBy before m → KeptElsewhere file after m
elsewhere_more before after file m more here = λ g other. each_weakens (before g) (after g) (m.files g) (λ image. more g image other) (here g)

-- a file and the others
pub kept_whole : (asked : ℕ → List ℕ → Type 0) (file : ℕ) (m : Moment) → EachImage (asked file) (m.files file) → KeptElsewhere file asked m → KeptBy asked m
kept_whole asked file m here elsewhere = λ g. elim (cases_eq g file) [
  | inl same ↦ subst (λ (h : ℕ). EachImage (asked h) (m.files h)) (sym same) here
  | inr other ↦ elsewhere g other
]

-- A step that writes one file: at each moment the file is as one machine asks or as the other, and
-- the others, which stay, are as both ask
pub step_kept : (before after : ℕ → List ℕ → Type 0) (file : ℕ) (old new : World) → KeptElsewhere file before (present old) → KeptElsewhere file after (present old)
    → Runs file (EachImage (λ image. before file image ⊎ after file image)) old new → Steps (KeptByEither before after) old new
step_kept before after file old new was will run =
    let either : Option File → Type 0 = EachImage (λ image. before file image ⊎ after file image) in
    steps_weaken (Files (OnlyThis file either old)) (KeptByEither before after) old new
    (λ m only. either_of_moves before after file m ((only file).0 refl, still_elsewhere before file either old m was only, still_elsewhere after file either old m will only))
    (steps_of_run file either old new run).0

-- and what holds after it
pub kept_after : (after : ℕ → List ℕ → Type 0) (file : ℕ) (P : Option File → Type 0) (old new : World) → KeptElsewhere file after (present old) → Runs file P old new
    → EachImage (after file) (file_of file new) → KeptBy after (present new)
kept_after after file P old new will run last =
    kept_whole after file (present new) last (still_elsewhere after file P old (present new) will (steps_end (Files (OnlyThis file P old)) old new (steps_of_run file P old new run).0))

-- calls on one file in which one machine keeps each image of it, as where it asks nothing of the file
pub step_within : (asked : ℕ → List ℕ → Type 0) (file : ℕ) (old new : World) → KeptBy asked (present old) → Runs file (EachImage (asked file)) old new → Steps (KeptBy asked) old new
step_within asked file old new here run =
    let each : Option File → Type 0 = EachImage (asked file) in
    steps_weaken (Files (OnlyThis file each old)) (KeptBy asked) old new
    (λ m only. kept_whole asked file m ((only file).0 refl) (still_elsewhere asked file each old m (λ g other. here g) only))
    (steps_of_run file each old new run).0

-- calls that change no file
pub step_still : (asked : ℕ → List ℕ → Type 0) (old new : World) → KeptBy asked (present old) → Steps (Files (IsAsIn old)) old new → Steps (KeptBy asked) old new
step_still asked old new here steps =
    steps_weaken (Files (IsAsIn old)) (KeptBy asked) old new (λ m as_in g. subst (EachImage (asked g)) (sym (as_in g)) (here g)) steps

-- a stretch under one machine, and then a step to another, are a step
pub step_behind : (before after : ℕ → List ℕ → Type 0) (old mid new : World) → Steps (KeptBy before) old mid → Steps (KeptByEither before after) mid new → Steps (KeptByEither before after) old new
step_behind before after old mid new first second =
    steps_then (KeptByEither before after) old mid new (steps_weaken (KeptBy before) (KeptByEither before after) old mid (λ m. either_before before after m) first) second

-- and so is a step and then a stretch under the other
pub step_ahead : (before after : ℕ → List ℕ → Type 0) (old mid new : World) → Steps (KeptByEither before after) old mid → Steps (KeptBy after) mid new → Steps (KeptByEither before after) old new
step_ahead before after old mid new first second =
    steps_then (KeptByEither before after) old mid new first (steps_weaken (KeptBy after) (KeptByEither before after) mid new (λ m. either_after before after m) second)

-- A file that the first machine asks nothing of is made first, and then a step is taken to a machine
-- that asks something of it
pub step_makes : (before after : ℕ → List ℕ → Type 0) (made file : ℕ) (P : Option File → Type 0) (old mid new : World) → made ≢ file → KeptBy before (present old)
    → ((image : List ℕ) → before made image) → Runs made P old mid → EachImage (after made) (file_of made mid)
    → ((g : ℕ) (image : List ℕ) → g ≢ file → g ≢ made → before g image → after g image)
    → Runs file (EachImage (λ image. before file image ⊎ after file image)) mid new → Steps (KeptByEither before after) old new
step_makes before after made file P old mid new apart here nothing making ready more run =
    let whole = step_within before made old mid here (weakens made P (EachImage (before made)) old mid (λ o holds. any_image (before made) o nothing) making) in
    let kept = steps_end (KeptBy before) old mid whole in
    step_behind before after old mid new whole (step_kept before after file mid new (λ g other. kept g)
    (λ g other. elim (cases_eq g made) [
      | inl same ↦ subst (λ (h : ℕ). EachImage (after h) (file_of h mid)) (sym same) ready
      | inr else ↦ each_weakens (before g) (after g) (file_of g mid) (λ image. more g image other else) (kept g)
    ]) run)
  where
    any_image : (Q : List ℕ → Type 0) (o : Option File) → ((image : List ℕ) → Q image) → EachImage Q o
    any_image Q None all = tt
    any_image Q (Some f) all = λ image is. all image
