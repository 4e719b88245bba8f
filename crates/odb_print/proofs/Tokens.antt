-- Which lexemes a text has from a place on, by the bytes that stand there.
use Rattle.std.proofs.Common.{◌≡◌, ◌≢◌, ◌==◌, ℕ, ◌+◌, ◌-◌, ◌<◌, ◌≤◌, true, false, cond, List, [], ◌∷◌, ◌++◌, length, take, drop, get_or, Option, Some, None, Result, Ok, slice_range, refl, sym, ap, ◌∙◌, arith, eq-eqb, ne_eqb, length-append, length-drop, drop-drop, drop_at, take_at}
use Rattle.std.proofs.lemmas.Bool.{cond-true, cond-false}
use Rattle.std.specs.List.{prefix_len}
use Rattle.odb_lex.specs.declared.error.LexError.{LexError}
use Rattle.odb_lex.specs.declared.token.Token.{Token}
use Rattle.odb_lex.specs.declared.token.TokenKind.{TokenKind}
use Rattle.odb_lex.specs.Bytes.{is_blank}
use Rattle.odb_lex.specs.Next.{token, front, next_place, found, next_in}
use Rattle.odb_model.specs.Lexeme.{Lexeme, lexeme_of}
use Rattle.odb_model.specs.Answer.{HasLexemes}

-- from `at` on the text has these lexemes and no more
pub record Has (text : List ℕ) (at : ℕ) (ls : List Lexeme) : Type 0 where
  pub to : ℕ
  pub lexemes : HasLexemes text at ls to
  pub all : next_in text to ≡ Ok None

-- each text that ends with these bytes has these lexemes from there on
pub record Lexes (bytes : List ℕ) (ls : List Lexeme) : Type 0 where
  pub has : (text : List ℕ) (at : ℕ) → at ≤ length text → drop at text ≡ bytes → Has text at ls

-- ---- what is next

from_place : List ℕ → ℕ → Result (Option Token) LexError
from_place text from = cond (from == length text) (Ok None) (found (front from (drop from text)))

next_is : (text : List ℕ) (at : ℕ) → next_in text at ≡ from_place text (next_place text at)
unfolding from_place
next_is text at = refl

-- a token begins at a byte that is no blank
next_front : (text : List ℕ) (at b : ℕ) (bytes : List ℕ) → drop at text ≡ b ∷ bytes → is_blank b ≡ false → next_in text at ≡ found (front at (b ∷ bytes))
unfolding from_place
next_front text at b bytes here solid =
    let none : prefix_len is_blank (drop at text) ≡ 0 = ap (prefix_len is_blank) here ∙ cond-false _ _ _ solid in
    let place : next_place text at ≡ at = omega arith in
    let some : at ≢ length text = omega (arith, length-drop at text, ap length here) in
    next_is text at ∙ ap (from_place text) place ∙ cond-false _ _ _ (ne_eqb _ _ some) ∙ ap (λ bs. found (front at bs)) here

-- a blank is passed over
next_behind : (text : List ℕ) (at b : ℕ) (bytes : List ℕ) → drop at text ≡ b ∷ bytes → is_blank b ≡ true → next_in text at ≡ next_in text (at + 1)
next_behind text at b bytes here blank =
    let rest : drop (at + 1) text ≡ bytes = sym (drop-drop 1 at text) ∙ ap (drop 1) here in
    let one : prefix_len is_blank (drop at text) ≡ 1 + prefix_len is_blank bytes = ap (prefix_len is_blank) here ∙ cond-true _ _ _ blank in
    let more : prefix_len is_blank (drop (at + 1) text) ≡ prefix_len is_blank bytes = ap (prefix_len is_blank) rest in
    let place : next_place text at ≡ next_place text (at + 1) = omega arith in
    next_is text at ∙ ap (from_place text) place ∙ sym (next_is text (at + 1))

next_end : (text : List ℕ) (at : ℕ) → at ≤ length text → drop at text ≡ [] → next_in text at ≡ Ok None
unfolding from_place
next_end text at within here =
    let none : prefix_len is_blank (drop at text) ≡ 0 = ap (prefix_len is_blank) here in
    let place : next_place text at ≡ length text = omega (arith, length-drop at text, ap length here) in
    let end : from_place text (length text) ≡ Ok None = cond-true _ _ _ (eq-eqb (length text) (length text) refl) in
    next_is text at ∙ ap (from_place text) place ∙ end

-- ---- the end, a blank, a token

pub lexes_end : Lexes [] []
lexes_end = record { has = λ text at within here. record { to = at; lexemes = refl; all = next_end text at within here } }

has_same : (text : List ℕ) (at from : ℕ) (ls : List Lexeme) → next_in text at ≡ next_in text from → Has text from ls → Has text at ls
has_same text at from [] same h =
    record { to = at; lexemes = refl; all = same ∙ ap (next_in text) h.lexemes ∙ h.all }
has_same text at from (l ∷ ls) same h =
    let first = h.lexemes in
    record { to = h.to; lexemes = (first.0, same ∙ first.1, first.2, first.3); all = h.all }

pub lexes_blank : {rest : List ℕ} {ls : List Lexeme} → Lexes rest ls → Lexes (32 ∷ rest) ls
lexes_blank {rest = rest} {ls = ls} more = record {
  has = λ text at within here.
      let behind : drop (at + 1) text ≡ rest = sym (drop-drop 1 at text) ∙ ap (drop 1) here in
      let inside : at + 1 ≤ length text = omega (arith, length-drop at text, ap length here) in
      has_same text at (at + 1) ls (next_behind text at 32 rest here refl) (more.has text (at + 1) inside behind);
}

-- the token that these bytes begin with is of the kind and has the first of them
pub record IsFirst (kind : TokenKind) (bytes rest : List ℕ) : Type 0 where
  pub some : 0 < length bytes
  pub solid : is_blank (get_or bytes 0 0) ≡ false
  pub front : (from : ℕ) → front from (bytes ++ rest) ≡ Ok (token kind from (from + length bytes))

pub lexes_token : (kind : TokenKind) (bytes rest : List ℕ) (l : Lexeme) (ls : List Lexeme) → IsFirst kind bytes rest → lexeme_of kind bytes ≡ l
    → Lexes rest ls → Lexes (bytes ++ rest) (l ∷ ls)
lexes_token kind [] rest l ls first is more = let some = first.some in absurd (omega arith)
lexes_token kind (b ∷ bytes) rest l ls first is more = record {
  has = λ text at within here.
      let n = length (b ∷ bytes) in
      let size : length text - at ≡ n + length rest = sym (length-drop at text) ∙ ap length here ∙ length-append (b ∷ bytes) rest in
      let some = first.some in
      let count : at + n - at ≡ n = omega arith in
      let behind : drop (at + n) text ≡ rest = sym (drop-drop n at text) ∙ ap (drop n) here ∙ drop_at (b ∷ bytes) rest n refl in
      let slice : slice_range text at (at + n) ≡ b ∷ bytes = (λ i. take (count i) (here i)) ∙ take_at (b ∷ bytes) rest n refl in
      let next : next_in text at ≡ Ok (Some (token kind at (at + n))) =
      next_front text at b (bytes ++ rest) here first.solid ∙ ap found (first.front at) in
      let has = more.has text (at + n) (omega arith) behind in
      record { to = has.to; lexemes = (token kind at (at + n), next, ap (lexeme_of kind) slice ∙ is, has.lexemes); all = has.all };
}
