-- Which words of the command line the program does something for.
use Rattle.std.specs.Prelude.{◌≡◌, ℕ, ◌≤◌, Bool, true, false, List, [], ◌∷◌}
use Rattle.odb_command.specs.declared.command.Command.{Command}
use Rattle.odb_command.specs.declared.command.Command.TheVariants.{Create, Play}
use Rattle.odb_command.specs.Command.{IsCommand}

-- the commands that are built: `create`, and `play` without a choice
abbrev pub is_built : Command → Bool
is_built (Create side_kib) = true
is_built (Play []) = true
is_built (Play (choice ∷ choices)) = false
is_built other = false

-- the words ask for a command that is built
abbrev pub IsBuilt : List (List ℕ) → Type 0
IsBuilt words = (c : Command) × IsCommand words c × (is_built c ≡ true)

-- they ask for `play`, without a choice
abbrev pub IsPlay : List (List ℕ) → Type 0
IsPlay words = IsCommand words (Play [])

-- they ask for `create`, with sides of so many KiB
abbrev pub IsCreate : List (List ℕ) → ℕ → Type 0
IsCreate words side_kib = IsCommand words (Create side_kib)

-- a side has 64 to 16,384 KiB
abbrev pub IsSide : ℕ → Type 0
IsSide side_kib = (64 ≤ side_kib) × (side_kib ≤ 16384)

-- the side that a command names is one
abbrev pub HasSide : Command → Type 0
HasSide (Create side_kib) = IsSide side_kib
HasSide other = Unit {0}
