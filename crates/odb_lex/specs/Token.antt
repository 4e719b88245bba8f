-- What the bytes of a token are, and where tokens stand.
use Rattle.std.specs.Prelude.{◌≡◌, ℕ, ◌<◌, ◌≤◌, List, length, drop, slice_index, slice_range, IsTrue, Contains, map, Option, Result, IfOk, IfSome}
use Rattle.std.specs.List.{list_all}
use Rattle.std.specs.Char.{is_ascii_alphabetic, to_ascii_uppercase}
use Rattle.std.specs.Str.Parse.{IsNumeral, digits_value}
use Rattle.odb_values.specs.Text.{IsText}
use Rattle.odb_lex.specs.declared.error.LexError.{LexError}
use Rattle.odb_lex.specs.declared.token.Token.{Token}
use Rattle.odb_lex.specs.declared.token.TokenKind.{TokenKind}
use Rattle.odb_lex.specs.declared.token.TokenKind.TheVariants.{Name, Number, Quoted, Sign}
use Rattle.odb_lex.specs.Bytes.{is_blank, is_name_byte, signs}
use Rattle.odb_lex.specs.Quoted.{in_quotes, value_from}

-- a letter, and then letters, digits and `_`, at most 32 bytes
pub record IsName (bytes : List ℕ) : Type 0 where
  pub letter : IsTrue (is_ascii_alphabetic (slice_index bytes 0))
  pub rest : IsTrue (list_all is_name_byte bytes)
  pub short : length bytes ≤ 32

-- digits, with a value of at most 2^63
pub record IsNumber (bytes : List ℕ) : Type 0 where
  pub digits : IsNumeral 10 bytes
  pub small : digits_value 10 bytes ≤ 9223372036854775808

-- what the bytes of a quoted text stand for
abbrev pub value_in : List ℕ → List ℕ
value_in bytes = value_from (drop 1 bytes)

-- a value between quotes, with each of its own quotes twice
pub record IsQuoted (bytes : List ℕ) : Type 0 where
  pub spelled : bytes ≡ in_quotes (value_in bytes)
  pub value : IsText (value_in bytes)

-- the bytes are a token of the kind
abbrev pub IsToken : TokenKind → List ℕ → Type 0
IsToken Name bytes = IsName bytes
IsToken Number bytes = IsNumber bytes
IsToken Quoted bytes = IsQuoted bytes
IsToken Sign bytes = Contains signs bytes

-- a name in capitals: small letters stand for large ones
abbrev pub capitals : List ℕ → List ℕ
capitals name = map to_ascii_uppercase name

-- the bytes of a text that a token takes are a token of its kind
abbrev pub IsTokenOf : List ℕ → Token → Type 0
IsTokenOf text token = IsToken token.kind (slice_range text token.from token.to)

-- all of the bytes are blank
abbrev pub AreBlank : List ℕ → Type 0
AreBlank bytes = IsTrue (list_all is_blank bytes)

-- a fact on the token that was found, where one was
abbrev pub IfToken : Result (Option Token) LexError → (Token → Type 0) → Type 0
IfToken result P = IfOk result (λ found. IfSome found P)

-- a token of some bytes at `at` or behind it, in a text of `end` bytes
pub record StandsIn (at : ℕ) (token : Token) (end : ℕ) : Type 0 where
  pub behind : at ≤ token.from
  pub some : token.from < token.to
  pub within : token.to ≤ end
