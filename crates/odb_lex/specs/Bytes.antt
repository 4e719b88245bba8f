-- The bytes of a statement's text, and the signs. The rules are this project's own.
use Rattle.std.specs.Prelude.{ℕ, Bool, ◌||◌, ◌==◌, nat_eq, Option, List, [], ◌∷◌, codes, find}
use Rattle.std.specs.Char.{is_ascii_alphanumeric}
use Rattle.std.specs.List.{starts_with}

-- a space (32) or a tab (9)
abbrev pub is_blank : ℕ → Bool
is_blank b = (b == 32) || (b == 9)

-- what a name goes on with: a letter, a digit or `_` (95)
abbrev pub is_name_byte : ℕ → Bool
is_name_byte b = is_ascii_alphanumeric b || (b == 95)

-- the signs, each before those that it begins with
abbrev pub signs : List (List ℕ)
signs =
    codes "<>" ∷ codes "<=" ∷ codes ">=" ∷ codes "<" ∷ codes ">" ∷ codes "="
    ∷ codes "(" ∷ codes ")" ∷ codes "," ∷ codes "*" ∷ codes "+" ∷ codes "-" ∷ codes ";" ∷ []

-- the longest sign that the bytes begin with
abbrev pub sign_in : List ℕ → Option (List ℕ)
sign_in bytes = find (λ sign. starts_with nat_eq bytes sign) signs
