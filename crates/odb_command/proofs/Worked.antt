-- Words, with what `clap` finds fault with in them and what it reads in them. No proof rests on these: they show what the definitions say.
use Rattle.std.proofs.Common.{◌≡◌, List, [], ◌∷◌, codes, refl, Option, Some, None, option_map}
use Rattle.clap.specs.Walk.{Row, Text, all_of, first_of}
use Rattle.clap.specs.Simple.{subcommand_of}
use Rattle.clap.specs.Faults.{fault_of}
use Rattle.clap.specs.Kinds.{Kinds}
use Rattle.clap.specs.declared.error.kind.ErrorKind.TheVariants as kind
use Rattle.clap.proofs.OnLiterals.{clap_on_literals}
use Rattle.odb_command.specs.Words.{optsql_words}

-- the kinds of fault, the subcommand's name, the values of its side, rows and rounds, and its choices
record Read : Type 0 where
  fault : Kinds
  name : Option Text
  side : Option Text
  rows : Option Text
  rounds : Option Text
  choices : Option (List Text)

abbrev first_in : Text → Option (Text × List Row) → Option Text
first_in id None = None
first_in id (Some entered) = first_of id entered.1

abbrev all_in : Text → Option (Text × List Row) → Option (List Text)
all_in id None = None
all_in id (Some entered) = all_of id entered.1

abbrev read : List Text → Read
read words =
    let entered = subcommand_of optsql_words words in
    record {
      fault = fault_of optsql_words words;
      name = option_map (λ (e : Text × List Row). e.0) entered;
      side = first_in (codes "side") entered;
      rows = first_in (codes "rows") entered;
      rounds = first_in (codes "rounds") entered;
      choices = all_in (codes "choice") entered;
    }

abbrev created : Text → Read
created n = record { fault = []; name = Some (codes "create"); side = Some n; rows = None; rounds = None; choices = None }

abbrev played : Option (List Text) → Read
played choices = record { fault = []; name = Some (codes "play"); side = None; rows = None; rounds = None; choices = choices }

abbrev checked : Text → Option (List Text) → Read
checked rows choices = record { fault = []; name = Some (codes "check"); side = None; rows = Some rows; rounds = None; choices = choices }

abbrev generated : Text → Read
generated n = record { fault = []; name = Some (codes "generate"); side = None; rows = None; rounds = Some n; choices = None }

create_alone : read (codes "create" ∷ []) ≡ created (codes "16384")
unfolding clap_on_literals
create_alone = refl

create_with_side : read (codes "create" ∷ codes "--side" ∷ codes "64" ∷ []) ≡ created (codes "64")
unfolding clap_on_literals
create_with_side = refl

create_with_sign : read (codes "create" ∷ codes "--side=64" ∷ []) ≡ created (codes "64")
unfolding clap_on_literals
create_with_sign = refl

play_alone : read (codes "play" ∷ []) ≡ played None
unfolding clap_on_literals
play_alone = refl

play_with_choices : read (codes "play" ∷ codes "4=16" ∷ codes "2=3" ∷ []) ≡ played (Some (codes "4=16" ∷ codes "2=3" ∷ []))
unfolding clap_on_literals
play_with_choices = refl

-- not a choice, which the words of `play` leave to be seen
play_with_number : read (codes "play" ∷ codes "4" ∷ []) ≡ played (Some (codes "4" ∷ []))
unfolding clap_on_literals
play_with_number = refl

check_alone : read (codes "check" ∷ []) ≡ checked (codes "false") None
unfolding clap_on_literals
check_alone = refl

check_with_rows : read (codes "check" ∷ codes "--rows" ∷ codes "4=16" ∷ []) ≡ checked (codes "true") (Some (codes "4=16" ∷ []))
unfolding clap_on_literals
check_with_rows = refl

check_with_rows_last : read (codes "check" ∷ codes "4=16" ∷ codes "--rows" ∷ []) ≡ checked (codes "true") (Some (codes "4=16" ∷ []))
unfolding clap_on_literals
check_with_rows_last = refl

generate_rounds : read (codes "generate" ∷ codes "100" ∷ []) ≡ generated (codes "100")
unfolding clap_on_literals
generate_rounds = refl

-- ---- what is refused

no_words : fault_of optsql_words [] ≡ kind.MissingSubcommand ∷ []
unfolding clap_on_literals
no_words = refl

another_word : fault_of optsql_words (codes "open" ∷ []) ≡ kind.UnknownArgument ∷ kind.InvalidSubcommand ∷ []
unfolding clap_on_literals
another_word = refl

help_word : fault_of optsql_words (codes "help" ∷ []) ≡ kind.DisplayHelp ∷ kind.InvalidSubcommand ∷ []
unfolding clap_on_literals
help_word = refl

help_asked : fault_of optsql_words (codes "play" ∷ codes "--help" ∷ []) ≡ kind.DisplayHelp ∷ []
unfolding clap_on_literals
help_asked = refl

version_asked : fault_of optsql_words (codes "--version" ∷ []) ≡ kind.UnknownArgument ∷ []
unfolding clap_on_literals
version_asked = refl

side_twice : fault_of optsql_words (codes "create" ∷ codes "--side=64" ∷ codes "--side=64" ∷ []) ≡ kind.ArgumentConflict ∷ []
unfolding clap_on_literals
side_twice = refl

rows_twice : fault_of optsql_words (codes "check" ∷ codes "--rows" ∷ codes "--rows" ∷ []) ≡ kind.ArgumentConflict ∷ []
unfolding clap_on_literals
rows_twice = refl

create_with_word : fault_of optsql_words (codes "create" ∷ codes "64" ∷ []) ≡ kind.UnknownArgument ∷ []
unfolding clap_on_literals
create_with_word = refl

no_rounds : fault_of optsql_words (codes "generate" ∷ []) ≡ kind.MissingRequiredArgument ∷ []
unfolding clap_on_literals
no_rounds = refl

rounds_twice : fault_of optsql_words (codes "generate" ∷ codes "1" ∷ codes "2" ∷ []) ≡ kind.UnknownArgument ∷ []
unfolding clap_on_literals
rounds_twice = refl
