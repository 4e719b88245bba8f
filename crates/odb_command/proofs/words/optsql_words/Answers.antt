use Rattle.std.proofs.Common.{◌≡◌, ◌∙◌, ap₂}
use Rattle.std.proofs.lemmas.Result.{IfOk-weaker}
use Rattle.clap.specs.Simple.{app_of, with_subcommand}
use Rattle.odb_command.specs.Words.{bare_words, create_words, play_words, check_words}
use Rattle.odb_command.proofs.words.optsql_words.Goals as goal

pub returns : goal.returns
returns c =
    let one : app_of c.in_ok-subcommand.field-0 ≡ with_subcommand bare_words create_words =
    c.in_ok-subcommand.ensures.shape c.in_ok-create_words.ensures.local ∙ ap₂ with_subcommand c.bare_words.ensures.shape c.in_ok-create_words.ensures.shape in
    let two : app_of c.in_ok-subcommand-2.field-0 ≡ with_subcommand (with_subcommand bare_words create_words) play_words =
    c.in_ok-subcommand-2.ensures.shape c.in_ok-play_words.ensures.local ∙ ap₂ with_subcommand one c.in_ok-play_words.ensures.shape in
    let three : app_of c.in_ok-subcommand-3.field-0 ≡ with_subcommand (with_subcommand (with_subcommand bare_words create_words) play_words) check_words =
    c.in_ok-subcommand-3.ensures.shape c.in_ok-check_words.ensures.local ∙ ap₂ with_subcommand two c.in_ok-check_words.ensures.shape in
    IfOk-weaker c.subcommand-4.result _ _ (λ r added. added.shape c.in_ok-generate_words.ensures.local ∙ ap₂ with_subcommand three c.in_ok-generate_words.ensures.shape) c.subcommand-4.ensures
