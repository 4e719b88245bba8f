-- What a machine asks of the images of many files: of one moment, and through one step.
use Rattle.std.specs.Prelude.{◌≢◌, ◌⊎◌, ℕ, List, IfSome, IsSome}
use Rattle.odb_device.specs.World.{Moment}
use Rattle.odb_device.specs.Images.{EachImage}
use Rattle.odb_device.specs.Moments.{AreImages}

-- A machine is known here by what it asks: of the file with a number, which images. What these
-- words say of a file says nothing where the file isn't told.

-- each image of each file is one that is asked for
abbrev pub KeptBy : (ℕ → List ℕ → Type 0) → Moment → Type 0
KeptBy asked moment = (g : ℕ) → EachImage (asked g) (moment.files g)

-- each file of which something is asked is told: of any other every image will do
abbrev pub TellsAsked : (ℕ → List ℕ → Type 0) → Moment → Type 0
TellsAsked asked moment =
    (g : ℕ) → IsSome (moment.files g) ⊎ ((image : List ℕ) → asked g image)

-- of these images, one for each file, all are asked for
abbrev pub AreKept : (ℕ → List ℕ → Type 0) → Moment → (ℕ → List ℕ) → Type 0
AreKept asked moment images = (g : ℕ) → IfSome (moment.files g) (λ f. asked g (images g))

-- whatever a crash leaves, all of it is as one machine asks, or all as the other
abbrev pub KeptByEither : (ℕ → List ℕ → Type 0) → (ℕ → List ℕ → Type 0) → Moment → Type 0
KeptByEither before after moment = (images : ℕ → List ℕ) → AreImages moment images
    → AreKept before moment images ⊎ AreKept after moment images

-- each image of each file but this one is asked for
abbrev pub KeptElsewhere : ℕ → (ℕ → List ℕ → Type 0) → Moment → Type 0
KeptElsewhere file asked moment = (g : ℕ) → g ≢ file → EachImage (asked g) (moment.files g)

-- each image of this file is as one machine asks or as the other, and those of the others are as
-- both ask
abbrev pub MovesOnly :
    ℕ → (ℕ → List ℕ → Type 0) → (ℕ → List ℕ → Type 0) → Moment → Type 0
MovesOnly file before after moment =
    EachImage (λ image. before file image ⊎ after file image) (moment.files file)
    × KeptElsewhere file before moment × KeptElsewhere file after moment

-- what one machine asks of each file but this one, the other asks too
abbrev pub AsksNoMore : ℕ → (ℕ → List ℕ → Type 0) → (ℕ → List ℕ → Type 0) → Type 0
AsksNoMore file before after =
    (g : ℕ) (image : List ℕ) → g ≢ file → before g image → after g image
