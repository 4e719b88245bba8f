-- A machine that is just what it asks, by a test: of it the laws of this crate are stated, so of
-- every machine whose asking is decided.
use Rattle.std.specs.Prelude.{ℕ, Bool, IsTrue, List, ◌∷◌}

-- which images of the file with a number will do
abbrev pub Asking : Type 0
Asking = ℕ → List ℕ → Bool

abbrev pub asks : Asking → ℕ → List ℕ → Type 0
asks machine g image = IsTrue (machine g image)

-- an answer: the machine after it, and its text, which has a byte
pub record Answered : Type 0 where
  pub after : Asking
  pub byte : ℕ
  pub more : List ℕ

abbrev pub after_of : Answered → Asking
after_of answer = answer.after

abbrev pub text_of : Answered → List ℕ
text_of answer = answer.byte ∷ answer.more
