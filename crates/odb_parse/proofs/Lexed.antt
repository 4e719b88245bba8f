-- The items of a text are its tokens, and stand for what tokens may stand for.
use Rattle.std.proofs.Common.{◌≡◌, ℕ, zero, suc, ◌+◌, ◌≤◌, List, [], ◌∷◌, length, slice_range, find, Option, Some, None, Result, Ok, Err, refl, sym, ap, subst, ◌∙◌, arith}
use Rattle.std.proofs.lemmas.Str.Ascii.{lowercase-uppercase, uppercase-uppercase}
use Rattle.std.specs.Str.{bytes_eq, str_to_ascii_lowercase}
use Rattle.odb_lex.specs.declared.error.LexError.{LexError}
use Rattle.odb_lex.specs.declared.token.Token.{Token}
use Rattle.odb_lex.specs.declared.token.TokenKind.{TokenKind}
use Rattle.odb_lex.specs.declared.token.TokenKind.TheVariants as token
use Rattle.odb_lex.specs.Token.{IsName, IsToken, capitals}
use Rattle.odb_lex.specs.Next.{next_in}
use Rattle.odb_model.specs.declared.keyword.Keyword.{Keyword}
use Rattle.odb_model.specs.Lexeme.{Lexeme, keyword_of, keywords, word_text, word_or_name, lexeme_of}
use Rattle.odb_model.specs.Answer.{HasLexemes, lexeme_in}
use Rattle.odb_parse.specs.Codes.{Item, Stands, Wrong}
use Rattle.odb_parse.specs.Items.{first_and, items_behind}
use Rattle.odb_parse.proofs.Behind.{Ascends}
use Rattle.odb_parse.proofs.Fits.{IsRightLexeme, AreRight}
use Rattle.odb_parse.proofs.Takes.{Takes, done, takes_first}
use Rattle.odb_parse.proofs.Texts.{name_large}

-- ---- what tokens stand for

lower_large : (bytes : List ℕ) → str_to_ascii_lowercase (capitals bytes) ≡ str_to_ascii_lowercase bytes
lower_large [] = refl
lower_large (b ∷ bytes) = rw (lowercase-uppercase b, lower_large bytes) refl

large_large : (bytes : List ℕ) → capitals (capitals bytes) ≡ capitals bytes
large_large [] = refl
large_large (b ∷ bytes) = rw (uppercase-uppercase b, large_large bytes) refl

keyword_large : (bytes : List ℕ) → keyword_of (capitals bytes) ≡ keyword_of bytes
unfolding keyword_of
keyword_large bytes = ap (λ low. find (λ keyword. bytes_eq (str_to_ascii_lowercase (word_text keyword)) low) keywords) (lower_large bytes)

right_name : (bytes : List ℕ) (o : Option Keyword) → keyword_of bytes ≡ o → IsName bytes → IsRightLexeme (word_or_name (capitals bytes) o)
right_name bytes (Some word) e name = tt
right_name bytes None e name = record { form = name_large bytes name; large = large_large bytes; unreserved = keyword_large bytes ∙ e }

right_token : (kind : TokenKind) (bytes : List ℕ) → IsToken kind bytes → IsRightLexeme (lexeme_of kind bytes)
right_token token.Name bytes is = right_name bytes (keyword_of bytes) refl is
right_token token.Number bytes is = tt
right_token token.Quoted bytes is = is.value
right_token token.Sign bytes is = tt

-- ---- the items from a place on

abbrev pub Slices : Type 0
Slices =
    (text : List ℕ) (at : ℕ) (token : Token) → at ≤ length text → next_in text at ≡ Ok (Some token)
    → IsToken token.kind (slice_range text token.from token.to)

right_first : (text : List ℕ) (behind : ℕ → List Item) (r : Result (Option Token) LexError)
    → ((token : Token) → r ≡ Ok (Some token) → IsRightLexeme (lexeme_in text token) × AreRight (behind token.to))
    → AreRight (first_and text behind r)
right_first text behind (Ok None) right = tt
right_first text behind (Ok (Some token)) right = right token refl
right_first text behind (Err wrong) right = tt

pub right_behind : Ascends → Slices → (n : ℕ) (text : List ℕ) (at : ℕ) → at ≤ length text → AreRight (items_behind n text at)
unfolding items_behind
right_behind law slices zero text at within = tt
right_behind law slices (suc n) text at within =
    right_first text (items_behind n text) (next_in text at)
    (λ (token : Token) is. (
      right_token token.kind (slice_range text token.from token.to) (slices text at token within is),
      right_behind law slices n text token.to (law text at token within is).within,
    ))

-- tokens that stand for the lexemes, and the items behind them
pub record Reaches (text : List ℕ) (at : ℕ) (front : List Lexeme) (rest : List Item) : Type 0 where
  pub to : ℕ
  pub has : HasLexemes text at front to
  pub left : ℕ
  pub is : items_behind (suc left) text to ≡ rest

-- the first of some items is the first token
pub record IsFirst (text : List ℕ) (r : Result (Option Token) LexError) (behind : ℕ → List Item) (l : Lexeme) (at : ℕ) (items : List Item) : Type 0 where
  pub token : Token
  pub next : r ≡ Ok (Some token)
  pub lexeme : lexeme_in text token ≡ l
  pub place : token.from ≡ at
  pub items_are : behind token.to ≡ items

pub first_is : (text : List ℕ) (behind : ℕ → List Item) (r : Result (Option Token) LexError) (l : Lexeme) (at : ℕ) (items : List Item)
    → first_and text behind r ≡ Stands l at ∷ items → IsFirst text r behind l at items
first_is text behind (Ok None) l at items e = cc
first_is text behind (Ok (Some token)) l at items e = record { token = token; next = refl; lexeme = cc; place = cc; items_are = cc }
first_is text behind (Err wrong) l at items e = cc

pub none_is : (text : List ℕ) (behind : ℕ → List Item) (r : Result (Option Token) LexError) → first_and text behind r ≡ [] → r ≡ Ok None
none_is text behind (Ok None) e = refl
none_is text behind (Ok (Some token)) e = cc
none_is text behind (Err wrong) e = cc

pub wrong_is : (text : List ℕ) (behind : ℕ → List Item) (r : Result (Option Token) LexError) (wrong : LexError) (items : List Item)
    → first_and text behind r ≡ Wrong wrong ∷ items → r ≡ Err wrong
wrong_is text behind (Ok None) wrong items e = cc
wrong_is text behind (Ok (Some token)) wrong items e = cc
wrong_is text behind (Err found) wrong items e = cc

stays : {items rest : List Item} → Takes items [] rest → items ≡ rest
stays done = refl

pub reaches : Ascends → (front : List Lexeme) (n : ℕ) (text : List ℕ) (at : ℕ) (rest : List Item) → length text ≤ n + at → at ≤ length text
    → Takes (items_behind (suc n) text at) front rest → Reaches text at front rest
unfolding items_behind
reaches law [] n text at rest enough within takes = record { to = at; has = refl; left = n; is = stays takes }
reaches law (l ∷ front) zero text at rest enough within takes =
    let t = takes_first takes in
    let f = first_is text (items_behind zero text) (next_in text at) l t.at t.behind t.is in
    let stands = law text at f.token within f.next in
    let behind = stands.behind in
    let some = stands.some in
    let fits = stands.within in
    absurd (omega arith)
reaches law (l ∷ front) (suc n) text at rest enough within takes =
    let t = takes_first takes in
    let f = first_is text (items_behind (suc n) text) (next_in text at) l t.at t.behind t.is in
    let stands = law text at f.token within f.next in
    let behind = stands.behind in
    let some = stands.some in
    let fits = stands.within in
    let r = reaches law front n text f.token.to rest (omega arith) fits (subst (λ is. Takes is front rest) (sym f.items_are) t.rest) in
    record { to = r.to; has = (f.token, f.next, f.lexeme, r.has); left = r.left; is = r.is }
