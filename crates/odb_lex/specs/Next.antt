-- The next token of a statement's text. Places count bytes from 0.
use Rattle.std.specs.Prelude.{ℕ, ◌+◌, ◌==◌, nat_le, if◌then◌else◌, List, length, take_while, drop, slice_index, Option, Some, None, Result, Ok, Err}
use Rattle.std.specs.List.{prefix_len}
use Rattle.std.specs.Char.{is_ascii_alphabetic, is_ascii_digit}
use Rattle.std.specs.Str.Parse.{digits_value}
use Rattle.odb_lex.specs.declared.error.LexError.{LexError}
use Rattle.odb_lex.specs.declared.error.LexError.TheVariants.{BadCharacter, NumberTooWide}
use Rattle.odb_lex.specs.declared.token.Token.{Token}
use Rattle.odb_lex.specs.declared.token.TokenKind.{TokenKind}
use Rattle.odb_lex.specs.declared.token.TokenKind.TheVariants.{Name, Number, Quoted, Sign}
use Rattle.odb_lex.specs.Bytes.{is_blank, is_name_byte, sign_in}
use Rattle.odb_lex.specs.Quoted.{text_end}

abbrev pub token : TokenKind → ℕ → ℕ → Token
token kind from to = record { kind = kind; from = from; to = to }

-- a name of as many bytes, of which the 33rd is refused
abbrev pub name_at : ℕ → ℕ → Result Token LexError
name_at from len =
    if nat_le len 32 then Ok (token Name from (from + len)) else Err (BadCharacter (from + 32))

-- a number of these digits, which is refused above 2^63
abbrev pub number_at : ℕ → List ℕ → Result Token LexError
number_at from digits =
    if nat_le (digits_value 10 digits) 9223372036854775808
    then Ok (token Number from (from + length digits)) else Err (NumberTooWide from)

-- a quoted text that ends there, or what is wrong with it
abbrev pub quoted_at : ℕ → Result ℕ LexError → Result Token LexError
quoted_at from (Ok to) = Ok (token Quoted from to)
quoted_at from (Err wrong) = Err wrong

-- a sign, or a byte that begins nothing
abbrev pub sign_at : ℕ → Option (List ℕ) → Result Token LexError
sign_at from (Some sign) = Ok (token Sign from (from + length sign))
sign_at from None = Err (BadCharacter from)

-- the token at the front of bytes of which the first, at `from`, is no blank; or why there is none.
-- A quote is 39. A name goes on as long as its bytes do, and so does a number; of the signs the
-- longest is taken
abbrev pub front : ℕ → List ℕ → Result Token LexError
front from bytes =
    let first = slice_index bytes 0 in
    if is_ascii_alphabetic first then name_at from (prefix_len is_name_byte bytes)
    else (if is_ascii_digit first then number_at from (take_while is_ascii_digit bytes)
    else (if first == 39 then quoted_at from (text_end from 800 (from + 1) (drop 1 bytes))
    else sign_at from (sign_in bytes)))

-- the first place from `at` on without a blank, or the end of the text
abbrev pub next_place : List ℕ → ℕ → ℕ
next_place text at = at + prefix_len is_blank (drop at text)

abbrev pub found : Result Token LexError → Result (Option Token) LexError
found (Ok token) = Ok (Some token)
found (Err wrong) = Err wrong

-- the first token from `at` on, None where only blanks are left, or what is refused there
abbrev pub next_in : List ℕ → ℕ → Result (Option Token) LexError
next_in text at =
    let from = next_place text at in
    if from == length text then Ok None else found (front from (drop from text))
