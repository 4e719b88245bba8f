use Rattle.std.proofs.Common.{◌≡◌, Result, Err, subst, rules}
use Rattle.odb_model.specs.declared.statement.Statement.{Statement}
use Rattle.odb_parse.specs.declared.error.ParseError.{ParseError}
use Rattle.odb_parse.specs.Answering.{IsAnswerTo}
use Rattle.odb_parse.specs.Reading.{Reads}
use Rattle.odb_parse.specs.Statements.{whole}
use Rattle.odb_parse.proofs.Answering.{answers, answers_first}
use Rattle.odb_parse.proofs.text.parse.Goals as goal

pub returns-in_err-tokens : goal.returns-in_err-tokens
returns-in_err-tokens c =
    let same : ◌≡◌ {A = Result Statement ParseError} (Err c.in_err-tokens.field-0.0) c.from_residual.result = search rules in
    subst (IsAnswerTo c.args.text.now) same
    (answers_first c.tokens_stand.ensures.stands c.tokens_stand.ensures.slice c.args.text.now c.in_err-tokens.field-0.0 (λ other. c.in_err-tokens.ensures))

pub returns : goal.returns
returns c =
    answers c.tokens_stand.ensures.stands c.tokens_stand.ensures.slice c.args.text.now c.whole.result c.whole.new.tokens
    (subst (λ items. Reads (whole items) c.whole.result c.whole.new.tokens) c.in_ok-tokens.ensures.0 c.whole.ensures)
