-- The words of the command line, as the command of `clap` has them that reads them.
use Rattle.std.specs.Prelude.{true, [], ◌∷◌, codes, Some}
use Rattle.clap.specs.Simple.{App, Shape, new_app, new_rule, on_top, with_rule, with_subcommand}
use Rattle.clap.specs.Walk.{Rule}
use Rattle.clap.specs.Lexer.{usize_max}
use Rattle.clap.specs.declared.builder.action.ArgAction.TheVariants.{SetTrue}

-- `--side`, an option with one value, 16384 where it isn't given
abbrev pub side_option : Rule
side_option = record (new_rule (codes "side")) {
  long = Some (codes "side");
  defaults = codes "16384" ∷ [];
}

-- `--rows`, a flag
abbrev pub rows_flag : Rule
rows_flag = record (new_rule (codes "rows")) {
  long = Some (codes "rows");
  action = Some SetTrue;
}

-- the last positional: choices, none or more
abbrev pub choices_taken : Rule
choices_taken = record (new_rule (codes "choice")) {
  range = Some (record { start_inclusive = 0; end_inclusive = usize_max });
}

-- the positional that has to be there
abbrev pub rounds_wanted : Rule
rounds_wanted = record (new_rule (codes "rounds")) { required = true }

abbrev pub create_words : Shape
create_words = (with_rule (new_app (codes "create")) side_option).top

abbrev pub play_words : Shape
play_words = (with_rule (new_app (codes "play")) choices_taken).top

abbrev pub check_words : Shape
check_words = (with_rule (with_rule (new_app (codes "check")) rows_flag) choices_taken).top

abbrev pub generate_words : Shape
generate_words = (with_rule (new_app (codes "generate")) rounds_wanted).top

-- the words have no name of the program before them, and one of the subcommands has to be there
abbrev pub bare_words : App
bare_words = on_top (λ s. record s { no_binary_name = true; subcommand_required = true })
    (new_app (codes "optsql"))

-- the command with its four subcommands
abbrev pub optsql_words : App
optsql_words =
    with_subcommand (with_subcommand (with_subcommand (with_subcommand bare_words create_words)
    play_words) check_words) generate_words
