use Rattle.std.proofs.Common.{sym, ◌∙◌}
use Rattle.std.specs.Str.{str_eq_ignore_ascii_case}
use Rattle.odb_model.specs.Lexeme.{word_text}
use Rattle.odb_model.proofs.Finds.{find_later}
use Rattle.odb_model.proofs.keyword.+found.Goals as goal

pub returns-else-is : goal.returns-else-is
returns-else-is t c =
    find_later (λ keyword. str_eq_ignore_ascii_case (word_text keyword) c.args.word.now) c.args.keywords.now _ c.found.result
    c.in-len1-up.len_at_least (sym c.is.ensures ∙ c.if-is.false) c.found.ensures
