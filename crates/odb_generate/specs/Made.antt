-- What a call of the generator makes.
use Rattle.std.specs.Prelude.{◌≡◌, ℕ, List, [], ◌∷◌, Option, Some, None, String, string_bytes}

-- The line is the first of those that were left, and the others are left; None where none was
abbrev pub Makes : {A : Type 0} → List (List ℕ) → Option (String A) → List (List ℕ) → Type 0
Makes old None new = (old ≡ []) × (new ≡ [])
Makes old (Some line) new = old ≡ string_bytes line ∷ new
