-- What the tokens of a statement's text stand for, and which words are reserved. The rules are this
-- project's own.
use Rattle.std.specs.Prelude.{unwrap_or, ◌≡◌, ℕ, List, [], ◌∷◌, codes, find, Option, Some, None}
use Rattle.std.specs.Str.{bytes_eq, str_eq_ignore_ascii_case}
use Rattle.std.specs.Str.Parse.{digits_value}
use Rattle.odb_lex.specs.declared.token.TokenKind.{TokenKind}
use Rattle.odb_lex.specs.declared.token.TokenKind.TheVariants as kind
use Rattle.odb_lex.specs.Token.{IsName, capitals, value_in}
use Rattle.odb_model.specs.declared.keyword.Keyword.{Keyword}
use Rattle.odb_model.specs.declared.keyword.Keyword.TheVariants as k
use Rattle.odb_model.specs.declared.sign.Sign.{Sign}
use Rattle.odb_model.specs.declared.sign.Sign.TheVariants as s

-- a reserved word, a name in capitals, a number, the value of a quoted text, or a sign
pub data Lexeme : Type 0 where
  Word : Keyword → Lexeme
  Name : List ℕ → Lexeme
  Number : ℕ → Lexeme
  Quoted : List ℕ → Lexeme
  Symbol : Sign → Lexeme

unfoldable pub word_text : Keyword → List ℕ
word_text k.Start = codes "START"
word_text k.Commit = codes "COMMIT"
word_text k.Rollback = codes "ROLLBACK"
word_text k.Select = codes "SELECT"
word_text k.From = codes "FROM"
word_text k.Where = codes "WHERE"
word_text k.Insert = codes "INSERT"
word_text k.Into = codes "INTO"
word_text k.Values = codes "VALUES"
word_text k.Update = codes "UPDATE"
word_text k.Set = codes "SET"
word_text k.Delete = codes "DELETE"
word_text k.Create = codes "CREATE"
word_text k.Databank = codes "DATABANK"
word_text k.Table = codes "TABLE"
word_text k.Primary = codes "PRIMARY"
word_text k.Key = codes "KEY"
word_text k.In = codes "IN"
word_text k.Drop = codes "DROP"
word_text k.Shadow = codes "SHADOW"
word_text k.For = codes "FOR"
word_text k.Online = codes "ONLINE"
word_text k.Offline = codes "OFFLINE"
word_text k.Alter = codes "ALTER"
word_text k.To = codes "TO"
word_text k.Master = codes "MASTER"
word_text k.Backup = codes "BACKUP"
word_text k.Of = codes "OF"
word_text k.Ready = codes "READY"
word_text k.Restore = codes "RESTORE"
word_text k.Count = codes "COUNT"
word_text k.Sum = codes "SUM"
word_text k.Null = codes "NULL"
word_text k.Integer = codes "INTEGER"
word_text k.Varchar = codes "VARCHAR"
word_text k.Not = codes "NOT"
word_text k.Or = codes "OR"
word_text k.And = codes "AND"
word_text k.Is = codes "IS"

-- all reserved words
abbrev pub keywords : List Keyword
keywords =
    k.Start ∷ k.Commit ∷ k.Rollback ∷ k.Select ∷ k.From ∷ k.Where ∷ k.Insert ∷ k.Into ∷ k.Values
    ∷ k.Update ∷ k.Set ∷ k.Delete ∷ k.Create ∷ k.Databank ∷ k.Table ∷ k.Primary ∷ k.Key ∷ k.In
    ∷ k.Drop ∷ k.Shadow ∷ k.For ∷ k.Online ∷ k.Offline ∷ k.Alter ∷ k.To ∷ k.Master ∷ k.Backup ∷ k.Of
    ∷ k.Ready ∷ k.Restore ∷ k.Count ∷ k.Sum ∷ k.Null ∷ k.Integer ∷ k.Varchar ∷ k.Not ∷ k.Or
    ∷ k.And ∷ k.Is ∷ []

-- the reserved word that a word is, in large or small letters
unfoldable pub keyword_of : List ℕ → Option Keyword
keyword_of word = find (λ keyword. str_eq_ignore_ascii_case (word_text keyword) word) keywords

unfoldable pub sign_text : Sign → List ℕ
sign_text s.Open = codes "("
sign_text s.Close = codes ")"
sign_text s.Comma = codes ","
sign_text s.Star = codes "*"
sign_text s.Equal = codes "="
sign_text s.Unequal = codes "<>"
sign_text s.Less = codes "<"
sign_text s.AtMost = codes "<="
sign_text s.Greater = codes ">"
sign_text s.AtLeast = codes ">="
sign_text s.Plus = codes "+"
sign_text s.Minus = codes "-"
sign_text s.Semicolon = codes ";"

-- all signs but `;`
abbrev pub signs : List Sign
signs =
    s.Open ∷ s.Close ∷ s.Comma ∷ s.Star ∷ s.Equal ∷ s.Unequal ∷ s.Less ∷ s.AtMost ∷ s.Greater
    ∷ s.AtLeast ∷ s.Plus ∷ s.Minus ∷ []

-- the sign of these bytes, which are those of one of the thirteen
unfoldable pub sign_of : List ℕ → Sign
sign_of bytes = unwrap_or (find (λ sign. bytes_eq (sign_text sign) bytes) signs) s.Semicolon

-- a name: in capitals, and no reserved word
pub record IsFree (name : List ℕ) : Type 0 where
  pub form : IsName name
  pub large : capitals name ≡ name
  pub unreserved : keyword_of name ≡ None

abbrev pub word_or_name : List ℕ → Option Keyword → Lexeme
word_or_name text (Some word) = Word word
word_or_name text None = Name text

-- what the bytes of a token stand for
abbrev pub lexeme_of : TokenKind → List ℕ → Lexeme
lexeme_of kind.Name bytes = word_or_name (capitals bytes) (keyword_of bytes)
lexeme_of kind.Number bytes = Number (digits_value 10 bytes)
lexeme_of kind.Quoted bytes = Quoted (value_in bytes)
lexeme_of kind.Sign bytes = Symbol (sign_of bytes)
