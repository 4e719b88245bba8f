-- What may stand behind what a reader reads, and one token read after another.
use Rattle.std.proofs.Common.{◌≡◌, ℕ, ◌<◌, true, false, List, [], ◌∷◌, length, Ok, refl, arith}
use denote.Enum.Bare.{true_same}
use Rattle.odb_model.specs.declared.keyword.Keyword.{Keyword}
use Rattle.odb_model.specs.declared.sign.Sign.{Sign}
use Rattle.odb_model.specs.contracts.keyword.Keyword as word_type
use Rattle.odb_model.specs.contracts.sign.Sign as sign_type
use Rattle.odb_model.specs.Lexeme.{Lexeme, Word, Name, Symbol}
use Rattle.odb_parse.specs.Codes.{Item}
use Rattle.odb_parse.specs.Items.{kind_of}
use Rattle.odb_parse.specs.Reading.{Reader, passed, is_word, is_sign, skip, same_word, same_sign, sees_word, sees_sign, expect_word, expect_sign, eat_word, eat_sign, name}
use Rattle.odb_parse.proofs.Takes.{Takes, done, next}

-- no lexer's refusal stands next
pub record IsClear (items : List Item) : Type 0 where
  pub passes : passed items ≡ Ok (tt, items)

pub clear_front : {items rest : List Item} {ls : List Lexeme} → Takes items ls rest → IsClear rest → IsClear items
clear_front done clear = clear
clear_front (next takes) clear = record { passes = refl }

-- a reader goes past the first of some lexemes, and the others stand behind
pub record Step {A : Type 0} (p : Reader A) (a : A) (items : List Item) (ls : List Lexeme) (rest : List Item) : Type 0 where
  pub behind : List Item
  pub reads : p items ≡ Ok (a, behind)
  pub takes : Takes behind ls rest
  pub fewer : length behind < length items

pub word_self : (word : Keyword) → same_word word word ≡ true
unfolding same_word
word_self word = true_same word_type.the_type word word refl

pub sign_self : (sign : Sign) → same_sign sign sign ≡ true
unfolding same_sign
sign_self sign = true_same sign_type.the_type sign sign refl

pub word_step : {word : Keyword} {items rest : List Item} {ls : List Lexeme} → Takes items (Word word ∷ ls) rest → IsClear rest
    → Step (expect_word word) tt items ls rest
unfolding expect_word sees_word skip
word_step {word = word} (next {items = items} takes) clear = record {
  behind = items;
  reads = rw (word_self word, (clear_front takes clear).passes) refl;
  takes = takes;
  fewer = omega arith;
}

pub eat_word_step : {word : Keyword} {items rest : List Item} {ls : List Lexeme} → Takes items (Word word ∷ ls) rest → IsClear rest
    → Step (eat_word word) true items ls rest
unfolding eat_word sees_word skip
eat_word_step {word = word} (next {items = items} takes) clear = record {
  behind = items;
  reads = rw (word_self word, (clear_front takes clear).passes) refl;
  takes = takes;
  fewer = omega arith;
}

pub sign_step : {sign : Sign} {items rest : List Item} {ls : List Lexeme} → Takes items (Symbol sign ∷ ls) rest → IsClear rest
    → Step (expect_sign sign) tt items ls rest
unfolding expect_sign sees_sign skip
sign_step {sign = sign} (next {items = items} takes) clear = record {
  behind = items;
  reads = rw (sign_self sign, (clear_front takes clear).passes) refl;
  takes = takes;
  fewer = omega arith;
}

pub eat_sign_step : {sign : Sign} {items rest : List Item} {ls : List Lexeme} → Takes items (Symbol sign ∷ ls) rest → IsClear rest
    → Step (eat_sign sign) true items ls rest
unfolding eat_sign sees_sign skip
eat_sign_step {sign = sign} (next {items = items} takes) clear = record {
  behind = items;
  reads = rw (sign_self sign, (clear_front takes clear).passes) refl;
  takes = takes;
  fewer = omega arith;
}

pub name_step : {n : List ℕ} {items rest : List Item} {ls : List Lexeme} → Takes items (Name n ∷ ls) rest → IsClear rest → Step name n items ls rest
unfolding name skip
name_step (next {items = items} takes) clear = record {
  behind = items;
  reads = rw (clear_front takes clear).passes refl;
  takes = takes;
  fewer = omega arith;
}

pub skip_step : {l : Lexeme} {items rest : List Item} {ls : List Lexeme} → Takes items (l ∷ ls) rest → IsClear rest → Step skip tt items ls rest
unfolding skip
skip_step (next {items = items} takes) clear = record {
  behind = items;
  reads = (clear_front takes clear).passes;
  takes = takes;
  fewer = omega arith;
}

-- ---- what stands next

pub no_sign_at : {l : Lexeme} {items rest : List Item} {ls : List Lexeme} (sign : Sign) → Takes items (l ∷ ls) rest → is_sign sign (kind_of l) ≡ false
    → sees_sign sign items ≡ false
unfolding sees_sign
no_sign_at sign (next takes) e = e

pub no_word_at : {l : Lexeme} {items rest : List Item} {ls : List Lexeme} (word : Keyword) → Takes items (l ∷ ls) rest → is_word word (kind_of l) ≡ false
    → sees_word word items ≡ false
unfolding sees_word
no_word_at word (next takes) e = e

-- nothing is left to take
pub stays : {items rest : List Item} → Takes items [] rest → items ≡ rest
stays done = refl
