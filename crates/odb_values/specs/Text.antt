-- What a text is: the rule of every text that is stored.
use Rattle.std.specs.Prelude.{ℕ, ◌≤◌, ◌==◌, ◌||◌, Bool, nat_le, List, length, IsTrue, IsUtf8}
use Rattle.std.specs.List.{list_all}

-- no control byte (below 32) but tab (9)
abbrev pub is_plain : ℕ → Bool
is_plain b = nat_le 32 b || (b == 9)

-- UTF-8 by RFC 3629, all of it plain, of at most 800 bytes (a limit of this project)
pub record IsText (bytes : List ℕ) : Type 0 where
  pub utf8 : IsUtf8 bytes
  pub plain : IsTrue (list_all is_plain bytes)
  pub short : length bytes ≤ 800
