-- Lists in ascending order of a number.
use Rattle.std.specs.Prelude.{ℕ, nat_lt, List, [], ◌∷◌, if◌then◌else◌}

-- with one item more, behind those of the same number
abbrev pub with_item : {A : Type 0} → (A → ℕ) → A → List A → List A
with_item number x [] = x ∷ []
with_item number x (y ∷ ys) =
    if nat_lt (number x) (number y) then x ∷ y ∷ ys else y ∷ with_item number x ys

-- these items, in ascending order of their numbers
abbrev pub ordered_by : {A : Type 0} → (A → ℕ) → List A → List A
ordered_by number [] = []
ordered_by number (x ∷ xs) = with_item number x (ordered_by number xs)
