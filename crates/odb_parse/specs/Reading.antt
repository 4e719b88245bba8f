-- The steps that every reader is made of. A reader goes over items from the left, and gives a value
-- and the items behind it, or a refusal and the items at which it stopped.
use Rattle.std.specs.Prelude.{◌≡◌, ◌≢◌, ℕ, ◌<◌, ◌≤◌, Bool, true, false, if◌then◌else◌, nat_le, List, [], ◌∷◌, length, Option, Some, Result, Ok, Err}
use denote.Enum.Bare.{sameb}
use Rattle.odb_model.specs.declared.keyword.Keyword.{Keyword}
use Rattle.odb_model.specs.declared.sign.Sign.{Sign}
use Rattle.odb_model.specs.contracts.keyword.Keyword as word_type
use Rattle.odb_model.specs.contracts.sign.Sign as sign_type
use Rattle.odb_model.specs.Lexeme.{Lexeme, Name, Number, Quoted}
use Rattle.odb_parse.specs.declared.error.ParseError.{ParseError}
use Rattle.odb_parse.specs.declared.error.ParseError.TheVariants.{NoMemory}
use Rattle.odb_parse.specs.declared.kind.Kind.{Kind}
use Rattle.odb_parse.specs.declared.kind.Kind.TheVariants as kind
use Rattle.odb_parse.specs.Codes.{Item, Stands, Wrong}
use Rattle.odb_parse.specs.Items.{kind_in, lexeme_next, refusal}

abbrev pub Outcome : Type 0 → Type 0
Outcome A = Result (A × List Item) (ParseError × List Item)

abbrev pub Reader : Type 0 → Type 0
Reader A = List Item → Outcome A

abbrev pub and_then : {A B : Type 0} → Outcome A → (A → Reader B) → Outcome B
and_then (Ok read) f = f read.0 read.1
and_then (Err wrong) f = Err wrong

infixl 10 ◌>>=◌
abbrev pub ◌>>=◌ : {A B : Type 0} → Reader A → (A → Reader B) → Reader B
p >>= f = λ items. and_then (p items) f

infixl 10 ◌>>◌
abbrev pub ◌>>◌ : {A B : Type 0} → Reader A → Reader B → Reader B
p >> q = p >>= (λ _. q)

abbrev pub pure : {A : Type 0} → A → Reader A
pure a = λ items. Ok (a, items)

infixr 11 ◌<$>◌
abbrev pub ◌<$>◌ : {A B : Type 0} → (A → B) → Reader A → Reader B
f <$> p = p >>= (λ x. pure (f x))

-- nothing goes on with what stands next
abbrev pub refuse : {A : Type 0} → Reader A
refuse = λ items. Err (refusal items, items)

abbrev pub peek : Reader Kind
peek = λ items. Ok (kind_in items, items)

-- behind a token: what refuses the text there is refused at once
abbrev pub passed : Reader (Unit {0})
passed [] = Ok (tt, [])
passed (Stands lexeme at ∷ items) = Ok (tt, Stands lexeme at ∷ items)
passed (Wrong wrong ∷ items) = Err (refusal (Wrong wrong ∷ items), Wrong wrong ∷ items)

-- goes past the next token
unfoldable pub skip : Reader (Unit {0})
skip [] = Ok (tt, [])
skip (Stands lexeme at ∷ items) = passed items
skip (Wrong wrong ∷ items) = Ok (tt, Wrong wrong ∷ items)

-- `==` on reserved words, and on signs
unfoldable pub same_word : Keyword → Keyword → Bool
same_word = sameb word_type.the_type

unfoldable pub same_sign : Sign → Sign → Bool
same_sign = sameb sign_type.the_type

abbrev pub is_word : Keyword → Kind → Bool
is_word word (kind.Word found) = same_word found word
is_word word kind.Nothing = false
is_word word kind.Name = false
is_word word kind.Number = false
is_word word kind.Quoted = false
is_word word (kind.Symbol found) = false

abbrev pub is_sign : Sign → Kind → Bool
is_sign sign (kind.Symbol found) = same_sign found sign
is_sign sign kind.Nothing = false
is_sign sign kind.Name = false
is_sign sign kind.Number = false
is_sign sign kind.Quoted = false
is_sign sign (kind.Word found) = false

unfoldable pub sees_word : Keyword → List Item → Bool
sees_word word items = is_word word (kind_in items)

unfoldable pub sees_sign : Sign → List Item → Bool
sees_sign sign items = is_sign sign (kind_in items)

-- goes past the word or sign if it stands next, and says whether it did
unfoldable pub eat_word : Keyword → Reader Bool
eat_word word items = if sees_word word items then (skip >> pure true) items else Ok (false, items)

unfoldable pub eat_sign : Sign → Reader Bool
eat_sign sign items = if sees_sign sign items then (skip >> pure true) items else Ok (false, items)

-- goes past the word or sign, which has to stand next
unfoldable pub expect_word : Keyword → Reader (Unit {0})
expect_word word items = if sees_word word items then skip items else refuse items

unfoldable pub expect_sign : Sign → Reader (Unit {0})
expect_sign sign items = if sees_sign sign items then skip items else refuse items

-- nothing stands next
unfoldable pub finish : Reader (Unit {0})
finish [] = Ok (tt, [])
finish (item ∷ items) = refuse (item ∷ items)

abbrev pub name_by : Option Lexeme → Reader (List ℕ)
name_by (Some (Name name)) = skip >> pure name
name_by _ = refuse

unfoldable pub name : Reader (List ℕ)
name items = name_by (lexeme_next items) items

abbrev pub quoted_by : Option Lexeme → Reader (List ℕ)
quoted_by (Some (Quoted value)) = skip >> pure value
quoted_by _ = refuse

unfoldable pub quoted : Reader (List ℕ)
quoted items = quoted_by (lexeme_next items) items

abbrev pub number_by : ℕ → Option Lexeme → Reader ℕ
number_by most (Some (Number n)) = if nat_le n most then skip >> pure n else refuse
number_by most _ = refuse

-- a number of at most `most`
unfoldable pub number : ℕ → Reader ℕ
number most items = number_by most (lexeme_next items) items

-- what a function that reads ensures: the reader's outcome, unless memory fails
abbrev pub Reads : {A : Type 0} → Outcome A → Result A ParseError → List Item → Type 0
Reads outcome (Ok a) new = outcome ≡ Ok (a, new)
Reads outcome (Err e) new = e ≢ NoMemory → outcome ≡ Err (e, new)

-- the answer of this reader on the old items, which leaves no more than they are
abbrev pub ReadsAs : {A : Type 0} → Reader A → List Item → Result A ParseError → List Item → Type 0
ReadsAs reader old (Ok a) new = (reader old ≡ Ok (a, new)) × (length new ≤ length old)
ReadsAs reader old (Err e) new = e ≢ NoMemory → reader old ≡ Err (e, new)

-- no more items are left, and fewer where a token stood next
pub record Shortens (old new : List Item) : Type 0 where
  pub most : length new ≤ length old
  pub fewer : kind_in old ≢ kind.Nothing → length new < length old

-- a cursor on these items, or what refuses the text before any token
abbrev pub IsBeginning : List Item → Result (List Item) ParseError → Type 0
IsBeginning items (Ok made) = (made ≡ items) × (passed items ≡ Ok (tt, items))
IsBeginning items (Err wrong) = passed items ≡ Err (wrong, items)
