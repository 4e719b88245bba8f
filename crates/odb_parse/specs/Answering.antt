-- What the parser answers to a text.
use Rattle.std.specs.Prelude.{◌≡◌, ℕ, List, Result, Ok, Err}
use Rattle.odb_lex.specs.declared.error.LexError.TheVariants as lex
use Rattle.odb_model.specs.declared.statement.Statement.{Statement}
use Rattle.odb_model.specs.Answer.{Refusal, Answers, NoToken}
use Rattle.odb_model.specs.Answer as refusal
use Rattle.odb_parse.specs.declared.error.ParseError.{ParseError}
use Rattle.odb_parse.specs.declared.error.ParseError.TheVariants.{BadCharacter, OpenText, NumberTooWide, Unexpected, End, NoMemory}

-- the answer to a text, unless memory ran out
abbrev pub IsAnswerTo : List ℕ → Result Statement ParseError → Type 0
IsAnswerTo text (Ok statement) = Answers text (Ok statement)
IsAnswerTo text (Err (BadCharacter at)) = Answers text (Err (NoToken (lex.BadCharacter at)))
IsAnswerTo text (Err (OpenText at)) = Answers text (Err (NoToken (lex.OpenText at)))
IsAnswerTo text (Err (NumberTooWide at)) = Answers text (Err (NoToken (lex.NumberTooWide at)))
IsAnswerTo text (Err (Unexpected at)) = Answers text (Err (refusal.Unexpected at))
IsAnswerTo text (Err End) = Answers text (Err refusal.End)
IsAnswerTo text (Err NoMemory) = Unit {0}

-- two answers to one text are one
abbrev pub AnswersOnce : Type 0
AnswersOnce =
    (text : List ℕ) (a b : Result Statement Refusal) → Answers text a → Answers text b → a ≡ b
