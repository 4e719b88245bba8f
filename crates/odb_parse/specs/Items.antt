-- What a cursor over a text's tokens shows: the tokens from the next one on, and what ends them.
use Rattle.std.specs.Prelude.{◌≡◌, ℕ, zero, suc, ◌<◌, ◌≤◌, List, [], ◌∷◌, length, Option, Some, None, Result, Ok, Err}
use Rattle.odb_lex.specs.declared.error.LexError.{LexError}
use Rattle.odb_lex.specs.declared.token.Token.{Token}
use Rattle.odb_lex.specs.Token.{IfToken, IsTokenOf}
use Rattle.odb_lex.specs.Next.{next_in}
use Rattle.odb_model.specs.Lexeme.{Lexeme, Word, Name, Number, Quoted, Symbol}
use Rattle.odb_model.specs.Answer.{lexeme_in}
use Rattle.odb_parse.specs.declared.error.ParseError.{ParseError}
use Rattle.odb_parse.specs.declared.error.ParseError.TheVariants.{Unexpected, End}
use Rattle.odb_parse.specs.declared.kind.Kind.{Kind}
use Rattle.odb_parse.specs.declared.kind.Kind.TheVariants as kind
use Rattle.odb_parse.specs.declared.tokens.Tokens.TheInside.{Inside}
use Rattle.odb_parse.specs.Codes.{Item, Stands, Wrong}
use Rattle.odb_parse.specs.Error.{lex_refusal}

-- the next token, and what stands behind it by its end
abbrev pub first_and : List ℕ → (ℕ → List Item) → Result (Option Token) LexError → List Item
first_and text behind (Ok None) = []
first_and text behind (Ok (Some token)) = Stands (lexeme_in text token) token.from ∷ behind token.to
first_and text behind (Err wrong) = Wrong wrong ∷ []

-- what stands from a place on, up to so many tokens
unfoldable pub items_behind : ℕ → List ℕ → ℕ → List Item
items_behind zero text at = []
items_behind (suc left) text at = first_and text (items_behind left text) (next_in text at)

-- the next token and all that stands behind it: a text has no more tokens than bytes
abbrev pub items_of : List ℕ → Result (Option Token) LexError → List Item
items_of text next = first_and text (items_behind (length text) text) next

-- what a lexeme is, as far as a parser chooses by it
abbrev pub kind_of : Lexeme → Kind
kind_of (Word word) = kind.Word word
kind_of (Name name) = kind.Name
kind_of (Number n) = kind.Number
kind_of (Quoted value) = kind.Quoted
kind_of (Symbol sign) = kind.Symbol sign

abbrev pub kind_in : List Item → Kind
kind_in [] = kind.Nothing
kind_in (Stands lexeme at ∷ items) = kind_of lexeme
kind_in (Wrong wrong ∷ items) = kind.Nothing

-- the lexeme that stands next
abbrev pub lexeme_next : List Item → Option Lexeme
lexeme_next [] = None
lexeme_next (Stands lexeme at ∷ items) = Some lexeme
lexeme_next (Wrong wrong ∷ items) = None

-- why nothing goes on with what stands next
abbrev pub refusal : List Item → ParseError
refusal [] = End
refusal (Stands lexeme at ∷ items) = Unexpected at
refusal (Wrong wrong ∷ items) = lex_refusal wrong

-- ---- what a `Tokens` shows, and what it keeps ready

abbrev pub items_in : Inside → List Item
items_in t = items_of t.text.now t.next

pub record IsReady (t : Inside) : Type 0 where
  pub within : IfToken t.next (λ token. (token.from < token.to) × (token.to ≤ length t.text.now))
  pub token : IfToken t.next (IsTokenOf t.text.now)
  pub kind : t.kind ≡ kind_in (items_in t)
