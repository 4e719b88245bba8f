-- Which commits the bytes said have acknowledged.
use Rattle.std.specs.Prelude.{ℕ, List, ◌++◌, Contains, codes, decimal}
use Rattle.odb_model.specs.Script.{front_of, parts_of}

-- A whole line of these bytes, ended by LF, is the answer COMMITTED k to a session. Values hold no
-- LF, so no other line has this form
pub record Acknowledges (bytes : List ℕ) (k : ℕ) : Type 0 where
  pub session : ℕ
  pub line : Contains (front_of (parts_of bytes))
      (decimal session ++ codes " COMMITTED " ++ decimal k)
