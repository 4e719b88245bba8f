-- The tokens that begin a text, by kind.
use Rattle.std.proofs.Common.{◌≡◌, ◌≢◌, ◌==◌, ℕ, ◌+◌, ◌^◌, ◌<◌, ◌≤◌, ◌||◌, ◌&&◌, Bool, true, false, cond, nat_lt, nat_le, List, [], ◌∷◌, ◌++◌, codes, length, take, get_or, Some, Result, Ok, Err, refl, sym, ap, subst, ◌∙◌, ⊎_elim, arith, ne_eqb, le-ltb, append_assoc, append-nil, length-append, take_at}
use Rattle.std.proofs.lemmas.Bool.{cond-true, cond-false, and_parts, and_from, le-leb, leb-true, cases_eq}
use Rattle.std.proofs.lemmas.Bool.Decides.{nat_tests}
use Rattle.std.proofs.lemmas.Fmt.{decimal_is_IsNumeral}
use Rattle.std.proofs.lemmas.Str.{utf8_valid_len-IsUtf8}
use Rattle.std.proofs.lemmas.Str.Parse.{digit_at}
use Rattle.std.specs.Char.{is_ascii_alphabetic, is_ascii_digit}
use Rattle.std.specs.Fmt.{decimal}
use Rattle.std.specs.Int.{IsInRange}
use Rattle.std.specs.List.{prefix_len, list_all, take_while}
use Rattle.std.specs.Str.Lossy.{utf8_valid_len}
use Rattle.std.specs.Str.Parse.{AllDigits, digits_value}
use Rattle.odb_values.specs.Text.{IsText, is_plain}
use Rattle.odb_lex.specs.declared.error.LexError.{LexError}
use Rattle.odb_lex.specs.declared.error.LexError.TheVariants.{BadCharacter, OpenText}
use Rattle.odb_lex.specs.declared.token.TokenKind.TheVariants as kind
use Rattle.odb_lex.specs.Bytes.{is_blank, is_name_byte}
use Rattle.odb_lex.specs.Quoted.{doubled, value_from, right_len, text_end}
use Rattle.odb_lex.specs.Token.{IsName, capitals}
use Rattle.odb_lex.specs.Next.{token, name_at, number_at, quoted_at, front}
use Rattle.odb_lex.proofs.Pieces.{value_end}
use Rattle.odb_lex.proofs.Spellings.{value_of_spelling}
use Rattle.odb_model.specs.declared.keyword.Keyword.{Keyword}
use Rattle.odb_model.specs.declared.keyword.Keyword.TheVariants as k
use Rattle.odb_model.specs.declared.sign.Sign.{Sign}
use Rattle.odb_model.specs.declared.sign.Sign.TheVariants as s
use Rattle.odb_model.specs.Lexeme.{Lexeme, Word, Name, Number, Quoted, Symbol, IsFree, word_text, keyword_of, word_or_name, sign_text, sign_of}
use Rattle.odb_print.proofs.Tokens.{Lexes, IsFirst, lexes_token}

-- ---- what may stand behind a token of any kind

-- a space (32), `(` (40), `)` (41) or `,` (44)
abbrev pub is_end : ℕ → Bool
is_end b = (b == 32) || (b == 40) || (b == 41) || (b == 44)

-- nothing, or one of these
abbrev pub ends : List ℕ → Bool
ends [] = true
ends (b ∷ bytes) = is_end b

end_is : (b : ℕ) (P : ℕ → Type 0) → is_end b ≡ true → P 32 → P 40 → P 41 → P 44 → P b
end_is b P e blank left right comma =
    ⊎_elim (λ i. subst P (sym i) blank) (λ no_blank.
    ⊎_elim (λ i. subst P (sym i) left) (λ no_open.
    ⊎_elim (λ i. subst P (sym i) right) (λ no_close.
    ⊎_elim (λ i. subst P (sym i) comma) (λ no_comma. absurd (grind (arith, nat_tests)))
    (cases_eq b 44)) (cases_eq b 41)) (cases_eq b 40)) (cases_eq b 32)

-- ---- a stretch of bytes that pass

run : (p : ℕ → Bool) (bytes rest : List ℕ) → list_all p bytes ≡ true → prefix_len p rest ≡ 0 → prefix_len p (bytes ++ rest) ≡ length bytes
run p [] rest all none = none
run p (b ∷ bytes) rest all none =
    let both : (p b ≡ true) × (list_all p bytes ≡ true) = and_parts _ _ all in
    let more = run p bytes rest both.1 none in
    let one : prefix_len p (b ∷ bytes ++ rest) ≡ 1 + prefix_len p (bytes ++ rest) = cond-true _ _ _ both.0 in
    omega arith

name_stops : (rest : List ℕ) → ends rest ≡ true → prefix_len is_name_byte rest ≡ 0
name_stops [] e = refl
name_stops (b ∷ rest) e = cond-false _ _ _ (end_is b (λ c. is_name_byte c ≡ false) e refl refl refl refl)

digits_stop : (rest : List ℕ) → ends rest ≡ true → prefix_len is_ascii_digit rest ≡ 0
digits_stop [] e = refl
digits_stop (b ∷ rest) e = cond-false _ _ _ (end_is b (λ c. is_ascii_digit c ≡ false) e refl refl refl refl)

-- ---- a word or a name

letter_solid : (b : ℕ) → is_ascii_alphabetic b ≡ true → is_blank b ≡ false
letter_solid b letter = grind (arith, nat_tests)

name_first : (name rest : List ℕ) → IsName name → ends rest ≡ true → IsFirst kind.Name name rest
name_first [] rest is e = let letter = is.letter in cc
name_first (b ∷ name) rest is e =
    let n = prefix_len is_name_byte (b ∷ name ++ rest) in
    let size : n ≡ length (b ∷ name) = run is_name_byte (b ∷ name) rest is.rest (name_stops rest e) in
    record {
      some = omega arith;
      solid = letter_solid b is.letter;
      front = λ from.
          let named : front from (b ∷ name ++ rest) ≡ name_at from n = cond-true _ _ _ is.letter in
          named ∙ ap (name_at from) size ∙ cond-true _ _ _ (le-leb _ _ is.short);
    }

pub lexes_name : {name rest : List ℕ} {ls : List Lexeme} → IsFree name → ends rest ≡ true → Lexes rest ls → Lexes (name ++ rest) (Name name ∷ ls)
lexes_name {name = name} {rest = rest} {ls = ls} free e more =
    let is : word_or_name (capitals name) (keyword_of name) ≡ Name name = ap (word_or_name (capitals name)) free.unreserved ∙ ap Name free.large in
    lexes_token kind.Name name rest (Name name) ls (name_first name rest free.form e) is more

fits_name : List ℕ → Bool
fits_name bytes = is_ascii_alphabetic (get_or bytes 0 0) && (list_all is_name_byte bytes && nat_le (length bytes) 32)

is_name : (bytes : List ℕ) → fits_name bytes ≡ true → IsName bytes
unfolding fits_name
is_name bytes fits =
    let one = and_parts _ _ fits in
    let two = and_parts _ _ one.1 in
    record { letter = one.0; rest = two.0; short = leb-true _ _ two.1 }

fits_word : (word : Keyword) → fits_name (word_text word) ≡ true
unfolding fits_name word_text
fits_word k.Start = refl
fits_word word = refl

word_back : (word : Keyword) → keyword_of (word_text word) ≡ Some word
unfolding keyword_of word_text
word_back k.Start = refl
word_back word = refl

pub lexes_word : {rest : List ℕ} {ls : List Lexeme} (word : Keyword) → ends rest ≡ true → Lexes rest ls → Lexes (word_text word ++ rest) (Word word ∷ ls)
lexes_word {rest = rest} {ls = ls} word e more =
    let text = word_text word in
    lexes_token kind.Name text rest (Word word) ls (name_first text rest (is_name text (fits_word word)) e)
    (ap (word_or_name (capitals text)) (word_back word)) more

-- ---- a number

digit_is : (ds : List ℕ) → AllDigits 10 ds → list_all is_ascii_digit ds ≡ true
digit_is [] all = refl
digit_is (d ∷ ds) all =
    let between : IsInRange 48 57 d = digit_at (d ∷ ds) 0 all (omega arith) in
    let low = between.0 in
    let high = between.1 in
    let digit : is_ascii_digit d ≡ true = grind (arith, nat_tests) in
    and_from _ _ digit (digit_is ds all.1)

digit_no_letter : (b : ℕ) → is_ascii_digit b ≡ true → is_ascii_alphabetic b ≡ false
digit_no_letter b digit = grind (arith, nat_tests)

digit_solid : (b : ℕ) → is_ascii_digit b ≡ true → is_blank b ≡ false
digit_solid b digit = grind (arith, nat_tests)

number_first : (ds rest : List ℕ) → 0 < length ds → list_all is_ascii_digit ds ≡ true → digits_value 10 ds ≤ 9223372036854775808 → ends rest ≡ true
    → IsFirst kind.Number ds rest
number_first [] rest some digits small e = absurd (omega arith)
number_first (d ∷ ds) rest some digits small e =
    let bytes = d ∷ ds ++ rest in
    let digit = (and_parts _ _ digits).0 in
    let size : prefix_len is_ascii_digit bytes ≡ length (d ∷ ds) = run is_ascii_digit (d ∷ ds) rest digits (digits_stop rest e) in
    let cut : take_while is_ascii_digit bytes ≡ d ∷ ds = ap (λ n. take n bytes) size ∙ take_at (d ∷ ds) rest (length (d ∷ ds)) refl in
    record {
      some = some;
      solid = digit_solid d digit;
      front = λ from.
          let number : front from bytes ≡ number_at from (take_while is_ascii_digit bytes) =
          cond-false _ _ _ (digit_no_letter d digit) ∙ cond-true _ _ _ digit in
          number ∙ ap (number_at from) cut ∙ cond-true _ _ _ (le-leb _ _ small);
    }

pub lexes_number : {rest : List ℕ} {ls : List Lexeme} (n : ℕ) → n ≤ 2 ^ 63 → ends rest ≡ true → Lexes rest ls
    → Lexes (decimal n ++ rest) (Number n ∷ ls)
lexes_number {rest = rest} {ls = ls} n small e more =
    let is = decimal_is_IsNumeral n (omega arith) in
    let some = is.0.0 in
    let value = is.1 in
    lexes_token kind.Number (decimal n) rest (Number n) ls (number_first (decimal n) rest some (digit_is (decimal n) is.0.1) (omega arith) e)
    (ap Number value) more

-- ---- a quoted text

text_right : (t : List ℕ) → IsText t → right_len 800 t ≡ length t
text_right t is =
    let plain : prefix_len is_plain t ≡ length t = ap (prefix_len is_plain) (sym (append-nil t)) ∙ run is_plain t [] is.plain refl in
    let utf8 : utf8_valid_len t ≡ length t = utf8_valid_len-IsUtf8 t is.utf8 in
    let short = is.short in
    omega arith

closing : ℕ → ℕ → List ℕ → ℕ → Result ℕ LexError
closing first place value all =
    cond (nat_lt (right_len 800 value) (length value)) (Err (BadCharacter (place + length (doubled (take (right_len 800 value) value)))))
    (cond (length (doubled value) == all) (Err (OpenText first)) (Ok (place + length (doubled value) + 1)))

closed : (first place : ℕ) (bytes t : List ℕ) → value_from bytes ≡ t → IsText t → length (doubled t) ≢ length bytes
    → text_end first 800 place bytes ≡ Ok (place + length (doubled t) + 1)
unfolding closing
closed first place bytes t value is differ =
    let right = text_right t is in
    let at : text_end first 800 place bytes ≡ closing first place (value_from bytes) (length bytes) = refl in
    at ∙ ap (λ v. closing first place v (length bytes)) value ∙ cond-false _ _ _ (le-ltb (right_len 800 t) (length t) (omega arith))
    ∙ cond-false _ _ _ (ne_eqb _ _ differ)

end_no_quote : (rest : List ℕ) → ends rest ≡ true → get_or rest 0 0 ≢ 39
end_no_quote [] e = λ same. omega arith
end_no_quote (b ∷ rest) e = end_is b (λ c. c ≢ 39) e (λ same. omega arith) (λ same. omega arith) (λ same. omega arith) (λ same. omega arith)

quoted_text : List ℕ → List ℕ
quoted_text t = codes "'" ++ doubled t ++ codes "'"

quoted_first : (t rest : List ℕ) → IsText t → ends rest ≡ true → IsFirst kind.Quoted (quoted_text t) rest
unfolding quoted_text
quoted_first t rest is e =
    let inner = (doubled t ++ 39 ∷ []) ++ rest in
    let split : inner ≡ doubled t ++ 39 ∷ rest = append_assoc (doubled t) (39 ∷ []) rest in
    let value : value_from inner ≡ t = ap value_from split ∙ value_of_spelling t (39 ∷ rest) (value_end rest (end_no_quote rest e)) in
    let more : length (doubled t) ≢ length inner = omega (arith, ap length split, length-append (doubled t) (39 ∷ rest)) in
    record {
      some = omega arith;
      solid = refl;
      front = λ from.
          let place : from + 1 + length (doubled t) + 1 ≡ from + length (39 ∷ (doubled t ++ 39 ∷ [])) = omega (arith, length-append (doubled t) (39 ∷ [])) in
          ap (quoted_at from) (closed from (from + 1) inner t value is more) ∙ ap (λ to. Ok (token kind.Quoted from to)) place;
    }

pub lexes_quoted : {rest : List ℕ} {ls : List Lexeme} (t : List ℕ) → IsText t → ends rest ≡ true → Lexes rest ls
    → Lexes ((codes "'" ++ doubled t ++ codes "'") ++ rest) (Quoted t ∷ ls)
unfolding quoted_text
lexes_quoted {rest = rest} {ls = ls} t is e more =
    lexes_token kind.Quoted (quoted_text t) rest (Quoted t) ls (quoted_first t rest is e) (ap Quoted (value_of_spelling t (39 ∷ []) refl)) more

-- ---- a sign

-- what may stand behind it
abbrev pub parts : Sign → List ℕ → Bool
parts s.Less rest = ends rest
parts s.Greater rest = ends rest
parts sign rest = true

sign_front : (sign : Sign) (rest : List ℕ) (from : ℕ) → parts sign rest ≡ true
    → front from (sign_text sign ++ rest) ≡ Ok (token kind.Sign from (from + length (sign_text sign)))
unfolding sign_text
sign_front s.Less [] from e = refl
sign_front s.Less (b ∷ rest) from e =
    end_is b (λ c. front from (60 ∷ c ∷ rest) ≡ Ok (token kind.Sign from (from + 1))) e refl refl refl refl
sign_front s.Greater [] from e = refl
sign_front s.Greater (b ∷ rest) from e =
    end_is b (λ c. front from (62 ∷ c ∷ rest) ≡ Ok (token kind.Sign from (from + 1))) e refl refl refl refl
sign_front sign rest from e = refl

record IsSignText (sign : Sign) : Type 0 where
  some : 0 < length (sign_text sign)
  solid : is_blank (get_or (sign_text sign) 0 0) ≡ false
  back : sign_of (sign_text sign) ≡ sign

is_sign_text : (sign : Sign) → IsSignText sign
unfolding sign_text sign_of
is_sign_text s.Open = record { some = omega arith; solid = refl; back = refl }
is_sign_text sign = record { some = omega arith; solid = refl; back = refl }

pub lexes_sign : {rest : List ℕ} {ls : List Lexeme} (sign : Sign) → parts sign rest ≡ true → Lexes rest ls → Lexes (sign_text sign ++ rest) (Symbol sign ∷ ls)
lexes_sign {rest = rest} {ls = ls} sign e more =
    let text = is_sign_text sign in
    lexes_token kind.Sign (sign_text sign) rest (Symbol sign) ls
    (record { some = text.some; solid = text.solid; front = λ from. sign_front sign rest from e }) (ap Symbol text.back) more
