-- What is true of each token that is found.
use Rattle.std.specs.Prelude.{◌≡◌, ℕ, ◌≤◌, List, length, Ok, Some}
use Rattle.odb_lex.specs.declared.token.Token.{Token}
use Rattle.odb_lex.specs.Next.{next_in}

-- a fact on each text, each place of it, and the token that is found from that place on
abbrev pub ForEachToken : (List ℕ → ℕ → Token → Type 0) → Type 0
ForEachToken P = (text : List ℕ) (at : ℕ) (token : Token) → at ≤ length text
    → next_in text at ≡ Ok (Some token) → P text at token
