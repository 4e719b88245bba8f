-- For the prover alone: items are told apart by what they are made of.
use Rattle.std.specs.Prelude.{◌≡◌, ◌⊎◌, ℕ, List, refl}
use Rattle.std.specs.Coded.{Coded, code_by, coded_ℕ, coded_list, coded×, coded⊎}
use Rattle.std.proofs.Common.{inl, inr}
use Rattle.odb_lex.specs.declared.error.LexError.{LexError}
use Rattle.odb_lex.specs.contracts.error.LexError as wrong
use Rattle.odb_model.specs.declared.keyword.Keyword.{Keyword}
use Rattle.odb_model.specs.declared.sign.Sign.{Sign}
use Rattle.odb_model.specs.contracts.keyword.Keyword as word
use Rattle.odb_model.specs.contracts.sign.Sign as sign
use Rattle.odb_model.specs.Lexeme.{Lexeme, Word, Name, Number, Quoted, Symbol}

-- a token and its place, or what refuses the text there
pub data Item : Type 0 where
  Stands : Lexeme → ℕ → Item
  Wrong : LexError → Item

abbrev pub LexemeParts : Type 0
LexemeParts = Keyword ⊎ (List ℕ ⊎ (ℕ ⊎ (List ℕ ⊎ Sign)))

abbrev pub lexeme_parts : Lexeme → LexemeParts
lexeme_parts (Word w) = inl w
lexeme_parts (Name n) = inr (inl n)
lexeme_parts (Number n) = inr (inr (inl n))
lexeme_parts (Quoted t) = inr (inr (inr (inl t)))
lexeme_parts (Symbol s) = inr (inr (inr (inr s)))

abbrev pub lexeme_from : LexemeParts → Lexeme
lexeme_from (inl w) = Word w
lexeme_from (inr (inl n)) = Name n
lexeme_from (inr (inr (inl n))) = Number n
lexeme_from (inr (inr (inr (inl t)))) = Quoted t
lexeme_from (inr (inr (inr (inr s)))) = Symbol s

pub lexeme_back : (l : Lexeme) → lexeme_from (lexeme_parts l) ≡ l
lexeme_back (Word w) = refl
lexeme_back (Name n) = refl
lexeme_back (Number n) = refl
lexeme_back (Quoted t) = refl
lexeme_back (Symbol s) = refl

abbrev pub lexeme_code : Coded Lexeme
lexeme_code =
    code_by LexemeParts
    (coded⊎ word.the_row.coded
    (coded⊎ (coded_list coded_ℕ)
    (coded⊎ coded_ℕ (coded⊎ (coded_list coded_ℕ) sign.the_row.coded))))
    lexeme_parts lexeme_from lexeme_back

abbrev pub ItemParts : Type 0
ItemParts = (Lexeme × ℕ) ⊎ LexError

abbrev pub item_parts : Item → ItemParts
item_parts (Stands l at) = inl (l, at)
item_parts (Wrong e) = inr e

abbrev pub item_from : ItemParts → Item
item_from (inl p) = Stands p.0 p.1
item_from (inr e) = Wrong e

pub item_back : (i : Item) → item_from (item_parts i) ≡ i
item_back (Stands l at) = refl
item_back (Wrong e) = refl

abbrev pub item_code : Coded Item
item_code =
    code_by ItemParts (coded⊎ (coded× lexeme_code coded_ℕ) wrong.the_row.coded)
    item_parts item_from item_back

abbrev pub items_code : Coded (List Item)
items_code = coded_list item_code
