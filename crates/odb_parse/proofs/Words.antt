-- What the readers of names, texts, numbers, reserved words and signs fit.
use Rattle.std.proofs.Common.{◌≡◌, ℕ, ◌≤◌, Bool, true, false, cond, nat_le, List, [], ◌∷◌, codes, Option, Some, None, refl, sym, ap, subst, ◌∙◌, arith, leb-true, rules}
use Rattle.std.proofs.Math.Dec.{leb-zero}
use denote.Enum.Bare.{same_true, true_same}
use Rattle.odb_values.specs.Text.{IsText}
use Rattle.odb_model.specs.declared.keyword.Keyword.{Keyword}
use Rattle.odb_model.specs.declared.sign.Sign.{Sign}
use Rattle.odb_model.specs.contracts.keyword.Keyword as word_type
use Rattle.odb_model.specs.contracts.sign.Sign as sign_type
use Rattle.odb_model.specs.Lexeme.{Lexeme, Word, Name, Number, Quoted, Symbol, IsFree, keyword_of, word_text}
use Rattle.odb_model.specs.Grammar.{IsNamed}
use Rattle.odb_model.specs.Grammar as grammar
use Rattle.odb_parse.specs.Codes.{Item, Stands, Wrong}
use Rattle.odb_parse.specs.declared.kind.Kind.TheVariants as kind
use Rattle.odb_parse.specs.Items.{kind_in, kind_of}
use Rattle.odb_parse.specs.Reading as reading
use Rattle.odb_parse.specs.Reading.{Reader, ◌>>◌, and_then, pure, refuse, passed, skip, name, quoted, expect_sign, expect_word, sees_sign, sees_word, is_sign, is_word, same_sign, same_word}
use Rattle.odb_parse.proofs.Fits.{IsRightLexeme, Completes, Fits, fits_same, fits_more}
use Rattle.odb_parse.proofs.Primitives.{token, token_by, One, one, fits_token}

-- ---- a name

name_in : Lexeme → Option (List ℕ)
name_in (Name n) = Some n
name_in (Word w) = None
name_in (Number n) = None
name_in (Quoted t) = None
name_in (Symbol s) = None

name_is : (items : List Item) → name items ≡ token name_in items
unfolding name skip name_in
name_is [] = refl
name_is (Stands (Name n) at ∷ items) = refl
name_is (Stands (Word w) at ∷ items) = refl
name_is (Stands (Number n) at ∷ items) = refl
name_is (Stands (Quoted t) at ∷ items) = refl
name_is (Stands (Symbol s) at ∷ items) = refl
name_is (Wrong w ∷ items) = refl

named_one : (l : Lexeme) (n : List ℕ) → IsRightLexeme l → name_in l ≡ Some n → IsNamed (l ∷ []) n
unfolding name_in
named_one (Name m) n right e = let is : m ≡ n = cc in subst (λ v. IsNamed (Name m ∷ []) v) is (grammar.name right)
named_one (Word w) n right e = cc
named_one (Number m) n right e = cc
named_one (Quoted t) n right e = cc
named_one (Symbol s) n right e = cc

to_named : (ls : List Lexeme) (n : List ℕ) → One name_in ls n → IsNamed ls n
to_named ls n (one {l = l} right e) = named_one l n right e

pub free_name : IsFree (codes "A")
unfolding keyword_of word_text
free_name = record { form = record { letter = refl; rest = refl; short = omega arith }; large = refl; unreserved = refl }

some_name : Completes (One name_in) []
unfolding name_in
some_name = record { more = Name (codes "A") ∷ []; value = codes "A"; whole = one free_name refl }

pub fits_name : Fits name IsNamed
fits_name = fits_same name (token name_in) name_is (fits_more to_named (fits_token name_in some_name))

-- ---- a text

pub data IsValue : List Lexeme → List ℕ → Type 0 where
  value : {t : List ℕ} → IsText t → IsValue (Quoted t ∷ []) t

value_in : Lexeme → Option (List ℕ)
value_in (Quoted t) = Some t
value_in (Word w) = None
value_in (Name n) = None
value_in (Number n) = None
value_in (Symbol s) = None

quoted_is : (items : List Item) → quoted items ≡ token value_in items
unfolding quoted skip value_in
quoted_is [] = refl
quoted_is (Stands (Name n) at ∷ items) = refl
quoted_is (Stands (Word w) at ∷ items) = refl
quoted_is (Stands (Number n) at ∷ items) = refl
quoted_is (Stands (Quoted t) at ∷ items) = refl
quoted_is (Stands (Symbol s) at ∷ items) = refl
quoted_is (Wrong w ∷ items) = refl

value_one : (l : Lexeme) (t : List ℕ) → IsRightLexeme l → value_in l ≡ Some t → IsValue (l ∷ []) t
unfolding value_in
value_one (Quoted m) t right e = let is : m ≡ t = cc in subst (λ v. IsValue (Quoted m ∷ []) v) is (value right)
value_one (Word w) t right e = cc
value_one (Name n) t right e = cc
value_one (Number n) t right e = cc
value_one (Symbol s) t right e = cc

to_value : (ls : List Lexeme) (t : List ℕ) → One value_in ls t → IsValue ls t
to_value ls t (one {l = l} right e) = value_one l t right e

some_value : Completes (One value_in) []
unfolding value_in
some_value = record { more = Quoted [] ∷ []; value = []; whole = one (search rules) refl }

pub fits_quoted : Fits quoted IsValue
fits_quoted = fits_same quoted (token value_in) quoted_is (fits_more to_value (fits_token value_in some_value))

-- ---- a number

pub data IsNumber (most : ℕ) : List Lexeme → ℕ → Type 0 where
  number : {n : ℕ} → n ≤ most → IsNumber most (Number n ∷ []) n

number_in : ℕ → Lexeme → Option ℕ
number_in most (Number n) = cond (nat_le n most) (Some n) None
number_in most (Word w) = None
number_in most (Name n) = None
number_in most (Quoted t) = None
number_in most (Symbol s) = None

number_read : (n at : ℕ) (items : List Item) (b : Bool)
    → cond {A = Reader ℕ} b (skip >> pure n) refuse (Stands (Number n) at ∷ items) ≡ token_by (cond b (Some n) None) (Number n) at items
unfolding skip
number_read n at items true = refl
number_read n at items false = refl

number_is : (most : ℕ) (items : List Item) → reading.number most items ≡ token (number_in most) items
unfolding reading.number number_in
number_is most [] = refl
number_is most (Stands (Name n) at ∷ items) = refl
number_is most (Stands (Word w) at ∷ items) = refl
number_is most (Stands (Number n) at ∷ items) = number_read n at items (nat_le n most)
number_is most (Stands (Quoted t) at ∷ items) = refl
number_is most (Stands (Symbol s) at ∷ items) = refl
number_is most (Wrong w ∷ items) = refl

number_small : (most m n : ℕ) (b : Bool) → nat_le m most ≡ b → cond b (Some m) None ≡ Some n → IsNumber most (Number m ∷ []) n
number_small most m n true small e = let is : m ≡ n = cc in subst (λ v. IsNumber most (Number m ∷ []) v) is (number (leb-true m most small))
number_small most m n false small e = cc

number_one : (most : ℕ) (l : Lexeme) (n : ℕ) → number_in most l ≡ Some n → IsNumber most (l ∷ []) n
unfolding number_in
number_one most (Number m) n e = number_small most m n (nat_le m most) refl e
number_one most (Word w) n e = cc
number_one most (Name m) n e = cc
number_one most (Quoted t) n e = cc
number_one most (Symbol s) n e = cc

to_number : (most : ℕ) (ls : List Lexeme) (n : ℕ) → One (number_in most) ls n → IsNumber most ls n
to_number most ls n (one {l = l} right e) = number_one most l n e

some_number : (most : ℕ) → Completes (One (number_in most)) []
unfolding number_in
some_number most = record { more = Number 0 ∷ []; value = 0; whole = one tt (ap (λ b. cond b (Some 0) None) (leb-zero most)) }

pub fits_number : (most : ℕ) → Fits (reading.number most) (IsNumber most)
fits_number most = fits_same (reading.number most) (token (number_in most)) (number_is most) (fits_more (to_number most) (fits_token (number_in most) (some_number most)))

-- ---- a sign

pub data Only (l : Lexeme) : List Lexeme → Unit {0} → Type 0 where
  only : Only l (l ∷ []) tt

sign_in : Sign → Lexeme → Option (Unit {0})
sign_in s l = cond (is_sign s (kind_of l)) (Some tt) None

passed_unit : (items : List Item) → passed items ≡ and_then (passed items) (λ _. pure tt)
passed_unit [] = refl
passed_unit (Stands l at ∷ items) = refl
passed_unit (Wrong w ∷ items) = refl

sign_read : (l : Lexeme) (at : ℕ) (items : List Item) (b : Bool)
    → cond b (passed items) (refuse (Stands l at ∷ items)) ≡ token_by (cond b (Some tt) None) l at items
sign_read l at items true = passed_unit items
sign_read l at items false = refl

sign_is : (s : Sign) (items : List Item) → expect_sign s items ≡ token (sign_in s) items
unfolding expect_sign sees_sign skip sign_in
sign_is s [] = refl
sign_is s (Stands l at ∷ items) = sign_read l at items (is_sign s (kind_of l))
sign_is s (Wrong w ∷ items) = refl

sign_same : (s found : Sign) (u : Unit {0}) (b : Bool) → same_sign found s ≡ b → cond b (Some tt) None ≡ Some u → Only (Symbol s) (Symbol found ∷ []) u
unfolding same_sign
sign_same s found u true e some = subst (λ k. Only (Symbol k) (Symbol found ∷ []) tt) (same_true sign_type.the_type (search rules) found s e) only
sign_same s found u false e some = cc

sign_one : (s : Sign) (l : Lexeme) (u : Unit {0}) → sign_in s l ≡ Some u → Only (Symbol s) (l ∷ []) u
unfolding sign_in
sign_one s (Symbol found) u e = sign_same s found u (same_sign found s) refl e
sign_one s (Word w) u e = cc
sign_one s (Name n) u e = cc
sign_one s (Number n) u e = cc
sign_one s (Quoted t) u e = cc

to_sign : (s : Sign) (ls : List Lexeme) (u : Unit {0}) → One (sign_in s) ls u → Only (Symbol s) ls u
to_sign s ls u (one {l = l} right e) = sign_one s l u e

some_sign : (s : Sign) → same_sign s s ≡ true → Completes (One (sign_in s)) []
unfolding sign_in
some_sign s self = record { more = Symbol s ∷ []; value = tt; whole = one tt (ap (λ b. cond b (Some tt) None) self) }

sign_self : (s : Sign) → same_sign s s ≡ true
unfolding same_sign
sign_self s = true_same sign_type.the_type s s refl

pub fits_sign : (s : Sign) → Fits (expect_sign s) (Only (Symbol s))
fits_sign s = fits_same (expect_sign s) (token (sign_in s)) (sign_is s) (fits_more (to_sign s) (fits_token (sign_in s) (some_sign s (sign_self s))))

-- where the sign stands next, going past the next token is going past it
pub sign_skip : (s : Sign) (items : List Item) → kind_in items ≡ kind.Symbol s → skip items ≡ expect_sign s items
unfolding expect_sign sees_sign
sign_skip s items e = sym (ap (λ k. cond (is_sign s k) (skip items) (refuse items)) e ∙ ap (λ b. cond b (skip items) (refuse items)) (sign_self s))

pub sign_found : (s found : Sign) → same_sign found s ≡ true → found ≡ s
unfolding same_sign
sign_found s found e = same_true sign_type.the_type (search rules) found s e

-- ---- a reserved word

word_in : Keyword → Lexeme → Option (Unit {0})
word_in w l = cond (is_word w (kind_of l)) (Some tt) None

word_is : (w : Keyword) (items : List Item) → expect_word w items ≡ token (word_in w) items
unfolding expect_word sees_word skip word_in
word_is w [] = refl
word_is w (Stands l at ∷ items) = sign_read l at items (is_word w (kind_of l))
word_is w (Wrong e ∷ items) = refl

pub word_found : (w found : Keyword) → same_word found w ≡ true → found ≡ w
unfolding same_word
word_found w found e = same_true word_type.the_type (search rules) found w e

word_same : (w found : Keyword) (u : Unit {0}) (b : Bool) → same_word found w ≡ b → cond b (Some tt) None ≡ Some u → Only (Word w) (Word found ∷ []) u
word_same w found u true e some = subst (λ k. Only (Word k) (Word found ∷ []) tt) (word_found w found e) only
word_same w found u false e some = cc

word_one : (w : Keyword) (l : Lexeme) (u : Unit {0}) → word_in w l ≡ Some u → Only (Word w) (l ∷ []) u
unfolding word_in
word_one w (Word found) u e = word_same w found u (same_word found w) refl e
word_one w (Symbol s) u e = cc
word_one w (Name n) u e = cc
word_one w (Number n) u e = cc
word_one w (Quoted t) u e = cc

to_word : (w : Keyword) (ls : List Lexeme) (u : Unit {0}) → One (word_in w) ls u → Only (Word w) ls u
to_word w ls u (one {l = l} right e) = word_one w l u e

word_self : (w : Keyword) → same_word w w ≡ true
unfolding same_word
word_self w = true_same word_type.the_type w w refl

some_word : (w : Keyword) → Completes (One (word_in w)) []
unfolding word_in
some_word w = record { more = Word w ∷ []; value = tt; whole = one tt (ap (λ b. cond b (Some tt) None) (word_self w)) }

pub fits_word : (w : Keyword) → Fits (expect_word w) (Only (Word w))
fits_word w = fits_same (expect_word w) (token (word_in w)) (word_is w) (fits_more (to_word w) (fits_token (word_in w) (some_word w)))

-- where the word stands next, going past the next token is going past it
pub word_skip : (w : Keyword) (items : List Item) → kind_in items ≡ kind.Word w → skip items ≡ expect_word w items
unfolding expect_word sees_word
word_skip w items e = sym (ap (λ k. cond (is_word w k) (skip items) (refuse items)) e ∙ ap (λ b. cond b (skip items) (refuse items)) (word_self w))
