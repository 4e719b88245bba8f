-- What each moment of a call leaves of the list.
use Rattle.std.specs.Prelude.{◌≡◌, ◌⊎◌, ℕ, List, [], ◌∷◌, ◌++◌, Option, Some, None}
use Rattle.odb_device.specs.World.{File}
use Rattle.odb_device.specs.Images.{IsImage, EachImage, Torn}
use Rattle.odb_reclog.specs.Records.{log_of}

-- each image is one from before, but for n bytes from `at` on, and has the list that it had
abbrev pub KeepsLists : ℕ → ℕ → ℕ → ℕ → ℕ → Option File → Option File → Type 0
KeepsLists start end first at n None new = new ≡ None
KeepsLists start end first at n (Some old) new =
    EachImage (λ image. (before : List ℕ) × IsImage old before × Torn at n before image
    × (log_of start end first image ≡ log_of start end first before)) new

-- or that list with one record more
abbrev pub KeepsOrAdds : ℕ → ℕ → ℕ → List ℕ → ℕ → ℕ → Option File → Option File → Type 0
KeepsOrAdds start end first payload at n None new = new ≡ None
KeepsOrAdds start end first payload at n (Some old) new =
    EachImage (λ image. (before : List ℕ) × IsImage old before × Torn at n before image
    × ((log_of start end first image ≡ log_of start end first before)
    ⊎ (log_of start end first image ≡ log_of start end first before ++ payload ∷ []))) new
