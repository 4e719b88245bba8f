use Rattle.std.proofs.Common.{◌≡◌, ◌∙◌, List, ℕ, map, string_bytes, sym, ap}
use Rattle.clap.specs.Simple.{App, app_of, is_simple, subcommand_of, subcommand_rows_of}
use Rattle.clap.specs.Faults.{fault_of, is_simple_and_free}
use Rattle.odb_command.specs.Words.{optsql_words}
use Rattle.odb_command.proofs.Matches.{asked_by_words, none_by_words, none_refused, same_usage}
use Rattle.odb_command.proofs.Simple.{words_are_simple, words_are_free}
use Rattle.odb_command.proofs.read.command_of.Goals as goal

pub returns-in-Ok-clause-asked : goal.returns-in-Ok-clause-asked
returns-in-Ok-clause-asked c =
    let app : app_of c.in_ok-optsql_words.field-0 ≡ optsql_words = c.in_ok-optsql_words.ensures in
    let matches = c.in-Ok.ensures.matches (ap is_simple app ∙ words_are_simple) in
    let taken = c.in-Ok.ensures.kinds (ap is_simple_and_free app ∙ words_are_free) in
    let words : List (List ℕ) = map string_bytes c.args.words.now in
    asked_by_words words (subcommand_rows_of c.in-Ok.matches) c.meant_by.result (ap (λ (a : App). fault_of a words) (sym app) ∙ taken)
    (matches.1 ∙ ap (λ (a : App). subcommand_of a words) app) c.meant_by.ensures.asked

pub returns-in-Ok-clause-usage : goal.returns-in-Ok-clause-usage
returns-in-Ok-clause-usage c =
    let app : app_of c.in_ok-optsql_words.field-0 ≡ optsql_words = c.in_ok-optsql_words.ensures in
    let matches = c.in-Ok.ensures.matches (ap is_simple app ∙ words_are_simple) in
    let words : List (List ℕ) = map string_bytes c.args.words.now in
    λ e. none_by_words words (subcommand_rows_of c.in-Ok.matches) (matches.1 ∙ ap (λ (a : App). subcommand_of a words) app) (c.meant_by.ensures.usage e)

pub returns-in-Err-clause-usage : goal.returns-in-Err-clause-usage
returns-in-Err-clause-usage c =
    let app : app_of c.in_ok-optsql_words.field-0 ≡ optsql_words = c.in_ok-optsql_words.ensures in
    let kinds = c.in-Err.ensures.kinds (ap is_simple_and_free app ∙ words_are_free) in
    let words : List (List ℕ) = map string_bytes c.args.words.now in
    λ e. none_refused (app_of c.in_ok-optsql_words.field-0) words c.in-Err.error c.refusal_by.result app kinds c.refusal_by.ensures (same_usage c.refusal_by.result e)
