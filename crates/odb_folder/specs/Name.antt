-- The names of files.
use Rattle.std.specs.Prelude.{ℕ, List, ◌++◌, codes}
use Rattle.std.specs.Fmt.{decimal}

-- the number in decimal, and `.odb`
abbrev pub name_of : ℕ → List ℕ
name_of file = decimal file ++ codes ".odb"
