-- Which words are those of a command, and which one they ask for.
use Rattle.std.specs.Prelude.{◌≡◌, ◌↔◌, ℕ, ◌≤◌, Bool, List, [], codes, IsTrue, Option, Some, None}
use Rattle.std.specs.Fmt.{decimal}
use Rattle.clap.specs.Walk.{Row, Text, all_of, first_of}
use Rattle.clap.specs.Simple.{subcommand_of}
use Rattle.clap.specs.Faults.{fault_of}
use Rattle.odb_command.specs.declared.command.Command.{Command}
use Rattle.odb_command.specs.declared.command.Command.TheVariants.{Create, Play, Check, Generate}
use Rattle.odb_command.specs.Words.{optsql_words}
use Rattle.odb_command.specs.Chosen.{AreChoices}

-- a value is the decimal of this number, without a leading zero, and the number is in its range
abbrev pub IsNumber : ℕ → ℕ → Option Text → ℕ → Type 0
IsNumber least most given n = (given ≡ Some (decimal n)) × (least ≤ n) × (n ≤ most)

-- a flag is given exactly where its value is `true`
abbrev pub IsFlag : Option Text → Bool → Type 0
IsFlag given flag = IsTrue flag ↔ (given ≡ Some (codes "true"))

-- the subcommand of this name, with these values of its arguments, asks for the command: a side of
-- 64 to 16384 KiB, rounds from 1 to 100000, and lawful choices
abbrev pub IsMeant : Text → List Row → Command → Type 0
IsMeant name rows (Create side_kib) =
    (name ≡ codes "create") × IsNumber 64 16384 (first_of (codes "side") rows) side_kib
IsMeant name rows (Play choices) =
    (name ≡ codes "play") × AreChoices (all_of (codes "choice") rows) choices
IsMeant name rows (Check with_rows choices) =
    (name ≡ codes "check") × IsFlag (first_of (codes "rows") rows) with_rows
    × AreChoices (all_of (codes "choice") rows) choices
IsMeant name rows (Generate rounds) =
    (name ≡ codes "generate") × IsNumber 1 100000 (first_of (codes "rounds") rows) rounds

abbrev pub IsMeantBy : Option (Text × List Row) → Command → Type 0
IsMeantBy None command = ⊥
IsMeantBy (Some entered) command = IsMeant entered.0 entered.1 command

-- The words ask for the command: `clap` finds no fault in them but want of memory, and what it reads
-- in them is lawful
pub record IsCommand (words : List (List ℕ)) (command : Command) : Type 0 where
  pub taken : fault_of optsql_words words ≡ []
  pub meant : IsMeantBy (subcommand_of optsql_words words) command

-- they ask for none
abbrev pub AskForNone : List (List ℕ) → Type 0
AskForNone words = (command : Command) → IsCommand words command → ⊥
