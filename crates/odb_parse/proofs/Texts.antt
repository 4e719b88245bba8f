-- Names and quoted texts are texts.
use Rattle.std.proofs.Common.{◌≡◌, ℕ, suc, subst, Result, Ok, slice_range, true, List, [], ◌∷◌, length, get_or, Option, Some, None, refl, sym, ap, ◌∙◌, arith}
use Rattle.std.proofs.lemmas.Bool.{and_parts, and_from}
use Rattle.std.proofs.lemmas.Bool.Decides.{nat_tests}
use Rattle.std.proofs.lemmas.Str.{IsUtf8-from_ascii}
use Rattle.std.specs.Char.{to_ascii_uppercase, is_ascii_alphabetic}
use Rattle.std.specs.List.{list_all}
use Rattle.odb_values.specs.Text.{IsText, is_plain}
use Rattle.odb_lex.specs.declared.error.LexError.{LexError}
use Rattle.odb_lex.specs.declared.token.Token.{Token}
use Rattle.odb_lex.specs.declared.token.TokenKind.{TokenKind}
use Rattle.odb_lex.specs.declared.token.TokenKind.TheVariants as token
use Rattle.odb_lex.specs.Bytes.{is_name_byte}
use Rattle.odb_lex.specs.Token.{IsName, IsQuoted, IsToken, IfToken, capitals}
use Rattle.odb_lex.proofs.Stretches.{name_ascii}
use Rattle.odb_model.specs.declared.keyword.Keyword.{Keyword}
use Rattle.odb_model.specs.Lexeme.{keyword_of, word_or_name, lexeme_of}
use Rattle.odb_parse.specs.declared.kind.Kind.{Kind}
use Rattle.odb_parse.specs.declared.kind.Kind.TheVariants as kind
use Rattle.odb_parse.specs.Items.{kind_of, kind_in, items_of}

large_byte : (b : ℕ) → is_name_byte b ≡ true → is_name_byte (to_ascii_uppercase b) ≡ true
large_byte b named = grind (arith, nat_tests)

plain_byte : (b : ℕ) → is_name_byte b ≡ true → is_plain b ≡ true
plain_byte b named = grind (arith, nat_tests)

large_bytes : (bytes : List ℕ) → list_all is_name_byte bytes ≡ true → list_all is_name_byte (capitals bytes) ≡ true
large_bytes [] named = refl
large_bytes (b ∷ bytes) named =
    let both = and_parts _ _ named in
    and_from _ _ (large_byte b both.0) (large_bytes bytes both.1)

plain_bytes : (bytes : List ℕ) → list_all is_name_byte bytes ≡ true → list_all is_plain bytes ≡ true
plain_bytes [] named = refl
plain_bytes (b ∷ bytes) named =
    let both = and_parts _ _ named in
    and_from _ _ (plain_byte b both.0) (plain_bytes bytes both.1)

length_capitals : (bytes : List ℕ) → length (capitals bytes) ≡ length bytes
length_capitals [] = refl
length_capitals (b ∷ bytes) = ap suc (length_capitals bytes)

pub name_text : (bytes : List ℕ) → IsName bytes → IsText (capitals bytes)
name_text bytes name =
    let large = large_bytes bytes name.rest in
    let short = name.short in
    record {
      utf8 = IsUtf8-from_ascii (capitals bytes) (name_ascii (capitals bytes) large);
      plain = plain_bytes (capitals bytes) large;
      short = omega (arith, length_capitals bytes);
    }

large_letter : (bytes : List ℕ) → is_ascii_alphabetic (get_or bytes 0 0) ≡ true → is_ascii_alphabetic (get_or (capitals bytes) 0 0) ≡ true
large_letter [] letter = letter
large_letter (b ∷ bytes) letter = grind (arith, nat_tests)

pub name_large : (bytes : List ℕ) → IsName bytes → IsName (capitals bytes)
name_large bytes name =
    let short = name.short in
    record {
      letter = large_letter bytes name.letter;
      rest = large_bytes bytes name.rest;
      short = omega (arith, length_capitals bytes);
    }

-- ---- the kind of a token, from what it is

not_quoted : (text : List ℕ) (o : Option Keyword) → kind_of (word_or_name text o) ≡ kind.Quoted → ⊥
not_quoted text (Some word) e = cc
not_quoted text None e = cc

quoted_token : (k : TokenKind) (bytes : List ℕ) → kind_of (lexeme_of k bytes) ≡ kind.Quoted → IsToken k bytes → IsQuoted bytes
quoted_token token.Name bytes e is = absurd (not_quoted (capitals bytes) (keyword_of bytes) e)
quoted_token token.Number bytes e is = cc
quoted_token token.Quoted bytes e is = is
quoted_token token.Sign bytes e is = cc

named_token : (k : TokenKind) (bytes : List ℕ) → kind_of (lexeme_of k bytes) ≡ kind.Name → IsToken k bytes → IsName bytes
named_token token.Name bytes e is = is
named_token token.Number bytes e is = cc
named_token token.Quoted bytes e is = cc
named_token token.Sign bytes e is = cc

-- the same of the token that a cursor shows
abbrev pub IsRight : List ℕ → Result (Option Token) LexError → Type 0
IsRight text next = IfToken next (λ t. IsToken t.kind (slice_range text t.from t.to))

module _ (text : List ℕ) (next : Result (Option Token) LexError) (k : Kind) (t : Token) (right : IsRight text next)
    (shown : k ≡ kind_in (items_of text next)) (is : next ≡ Ok (Some t)) where
  kind_here : kind_of (lexeme_of t.kind (slice_range text t.from t.to)) ≡ k
  kind_here = ap (λ n. kind_in (items_of text n)) (sym is) ∙ sym shown

  right_here : IsToken t.kind (slice_range text t.from t.to)
  right_here = subst (IsRight text) is right

  pub named_here : k ≡ kind.Name → IsName (slice_range text t.from t.to)
  named_here name = named_token t.kind (slice_range text t.from t.to) (kind_here ∙ name) right_here

  pub quoted_here : k ≡ kind.Quoted → IsQuoted (slice_range text t.from t.to)
  quoted_here value = quoted_token t.kind (slice_range text t.from t.to) (kind_here ∙ value) right_here
