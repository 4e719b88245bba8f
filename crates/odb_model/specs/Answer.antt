-- What a text spells, or what it is refused for. Places count bytes from 0.
use Rattle.std.specs.Prelude.{◌≡◌, ℕ, List, [], ◌∷◌, ◌++◌, slice_range, Some, None, Result, Ok, Err}
use Rattle.odb_lex.specs.declared.error.LexError.{LexError}
use Rattle.odb_lex.specs.declared.token.Token.{Token}
use Rattle.odb_lex.specs.Next.{next_in}
use Rattle.odb_model.specs.declared.statement.Statement.{Statement}
use Rattle.odb_model.specs.Lexeme.{Lexeme, lexeme_of}
use Rattle.odb_model.specs.Grammar.{Spells}

-- what a token of the text stands for
abbrev pub lexeme_in : List ℕ → Token → Lexeme
lexeme_in text token = lexeme_of token.kind (slice_range text token.from token.to)

-- the text's tokens from `at` up to `to` stand for these lexemes
abbrev pub HasLexemes : List ℕ → ℕ → List Lexeme → ℕ → Type 0
HasLexemes text at [] to = at ≡ to
HasLexemes text at (l ∷ ls) to =
    (token : Token) × (next_in text at ≡ Ok (Some token)) × (lexeme_in text token ≡ l)
    × HasLexemes text token.to ls to

-- some statement begins with these lexemes
pub record Begins (front : List Lexeme) : Type 0 where
  pub rest : List Lexeme
  pub statement : Statement
  pub whole : Spells (front ++ rest) statement

-- the text spells the statement
pub record IsStatementText (text : List ℕ) (statement : Statement) : Type 0 where
  pub lexemes : List Lexeme
  pub to : ℕ
  pub has : HasLexemes text 0 lexemes to
  pub all : next_in text to ≡ Ok None
  pub spells : Spells lexemes statement

-- the token at `at` is the first that can't go on: some statement begins with those before it, and
-- none with them and it
pub record IsUnexpected (text : List ℕ) (at : ℕ) : Type 0 where
  pub front : List Lexeme
  pub to : ℕ
  pub has : HasLexemes text 0 front to
  pub token : Token
  pub next : next_in text to ≡ Ok (Some token)
  pub place : token.from ≡ at
  pub before : Begins front
  pub never : ¬ Begins (front ++ lexeme_in text token ∷ [])

-- the tokens begin a statement and are none
pub record IsUnfinished (text : List ℕ) : Type 0 where
  pub front : List Lexeme
  pub to : ℕ
  pub has : HasLexemes text 0 front to
  pub all : next_in text to ≡ Ok None
  pub before : Begins front
  pub never : (statement : Statement) → ¬ Spells front statement

-- behind tokens that begin a statement comes what is no token
pub record IsNoToken (text : List ℕ) (wrong : LexError) : Type 0 where
  pub front : List Lexeme
  pub to : ℕ
  pub has : HasLexemes text 0 front to
  pub next : next_in text to ≡ Err wrong
  pub before : Begins front

pub data Refusal : Type 0 where
  NoToken : LexError → Refusal
  Unexpected : ℕ → Refusal
  End : Refusal

-- The answer to a text, of which there is just one (`odb_parse::answers_once`). Of several refusals
-- it is the one at the least place, since the tokens before that place begin a statement.
abbrev pub Answers : List ℕ → Result Statement Refusal → Type 0
Answers text (Ok statement) = IsStatementText text statement
Answers text (Err (NoToken wrong)) = IsNoToken text wrong
Answers text (Err (Unexpected at)) = IsUnexpected text at
Answers text (Err End) = IsUnfinished text
