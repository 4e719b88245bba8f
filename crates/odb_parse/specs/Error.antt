-- What a refusal of the parser says.
use Rattle.odb_lex.specs.declared.error.LexError.{LexError}
use Rattle.odb_lex.specs.declared.error.LexError.TheVariants as lex
use Rattle.odb_parse.specs.declared.error.ParseError.{ParseError}
use Rattle.odb_parse.specs.declared.error.ParseError.TheVariants.{BadCharacter, OpenText, NumberTooWide}

-- what the lexer refuses
abbrev pub lex_refusal : LexError → ParseError
lex_refusal (lex.BadCharacter at) = BadCharacter at
lex_refusal (lex.OpenText at) = OpenText at
lex_refusal (lex.NumberTooWide at) = NumberTooWide at
