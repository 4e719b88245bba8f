-- The command is one of which `clap` tells exactly what it makes of all words.
use Rattle.std.proofs.Common.{◌≡◌, true, refl}
use Rattle.clap.specs.Simple.{is_simple}
use Rattle.clap.specs.Faults.{is_simple_and_free}
use Rattle.clap.proofs.OnLiterals.{clap_on_literals}
use Rattle.odb_command.specs.Words.{optsql_words}

pub words_are_simple : is_simple optsql_words ≡ true
unfolding clap_on_literals
words_are_simple = refl

pub words_are_free : is_simple_and_free optsql_words ≡ true
unfolding clap_on_literals
words_are_free = refl
