-- A token that stands at a front is what its kind says, of some bytes, and inside.
use Rattle.std.proofs.Common.{◌==◌, ◌≡◌, ℕ, suc, ◌+◌, ◌-◌, ◌<◌, ◌≤◌, Bool, true, cond, eqb, nat_eq, nat_le, nat_lt, List, [], ◌∷◌, ◌++◌, length, take, drop, get_or, Option, Some, None, Result, Ok, Err, Contains, slice_range, refl, sym, ap, subst, ◌∙◌, ⊎_elim, arith, eqb-true, leb-true, append_assoc, length-append, length-take, length-drop, take_at, get_or-take}
use Rattle.std.proofs.lemmas.Bool.{cases_Bool, cond-true, cond-false, and_parts, eqb-false, ltb-true, ltb-false}
use Rattle.std.proofs.lemmas.Bool.Decides.{nat_tests, Decides-eqb}
use Rattle.std.proofs.lemmas.List.{drop_more, take_rest}
use Rattle.std.proofs.lemmas.List.Folds.{length-prefix_len}
use Rattle.std.proofs.lemmas.List.Sums.{prefix_len-le-length}
use Rattle.std.proofs.lemmas.Slice.Eq.{starts_is}
use Rattle.std.proofs.lemmas.Str.{utf8_valid_len_le}
use Rattle.std.specs.Char.{is_ascii_alphabetic, is_ascii_digit}
use Rattle.std.specs.List.{prefix_len, list_all, find, take_while, starts_with}
use Rattle.std.specs.Str.Lossy.{utf8_valid_len}
use Rattle.std.specs.Str.Parse.{digits_value}
use Rattle.odb_lex.specs.declared.error.LexError.{LexError}
use Rattle.odb_lex.specs.declared.error.LexError.TheVariants.{BadCharacter, OpenText, NumberTooWide}
use Rattle.odb_lex.specs.declared.token.Token.{Token}
use Rattle.odb_lex.specs.declared.token.TokenKind.{TokenKind}
use Rattle.odb_lex.specs.declared.token.TokenKind.TheVariants.{Name, Number, Quoted, Sign}
use Rattle.odb_values.specs.Text.{IsText, is_plain}
use Rattle.odb_lex.specs.Bytes.{is_blank, is_name_byte, signs, sign_in}
use Rattle.odb_lex.specs.Quoted.{doubled, value_from, right_len, text_end}
use Rattle.odb_lex.specs.Token.{IsToken, IsQuoted, StandsIn, value_in}
use Rattle.odb_lex.specs.Next.{token, name_at, number_at, quoted_at, sign_at, front, found, next_in}
use Rattle.odb_lex.proofs.Fronts.{whole_from_len}
use Rattle.odb_lex.proofs.Spellings.{EndsByQuote, spelling_of_value, value_of_spelling}
use Rattle.odb_lex.proofs.Stretches.{front_passes, front_some, all_pass, digits_front}

pub record IsFront (from : ℕ) (bytes : List ℕ) (t : Token) : Type 0 where
  pub begins : t.from ≡ from
  pub some : from < t.to
  pub within : t.to ≤ from + length bytes
  pub slice : IsToken t.kind (take (t.to - from) bytes)

is_front : (kind : TokenKind) (from n : ℕ) (bytes : List ℕ) → 0 < n → n ≤ length bytes → IsToken kind (take n bytes)
    → IsFront from bytes (token kind from (from + n))
is_front kind from n bytes some within slice =
    let len : from + n - from ≡ n = omega arith in
    record { begins = refl; some = omega arith; within = omega arith; slice = rw len slice }

-- ---- a name

letter_named : (b : ℕ) → is_ascii_alphabetic b ≡ true → is_name_byte b ≡ true
letter_named b letter = grind (arith, nat_tests)

name_front : (from : ℕ) (bytes : List ℕ) (t : Token) → 0 < length bytes → is_ascii_alphabetic (get_or bytes 0 0) ≡ true
    → name_at from (prefix_len is_name_byte bytes) ≡ Ok t → IsFront from bytes t
name_front from bytes t some letter e =
    let n = prefix_len is_name_byte bytes in
    let any : 0 < n = front_some is_name_byte bytes some (letter_named (get_or bytes 0 0) letter) in
    ⊎_elim
    (λ short.
    let is : name_at from n ≡ Ok (token Name from (from + n)) = cond-true _ _ _ short in
    let same : token Name from (from + n) ≡ t = cc in
    let few : n ≤ 32 = leb-true n 32 short in
    subst (IsFront from bytes) same
    (is_front Name from n bytes any (prefix_len-le-length is_name_byte bytes)
    (record {
      letter = rw (get_or-take n bytes 0 0 any) letter;
      rest = front_passes is_name_byte bytes;
      short = omega (arith, length-take n bytes);
    })))
    (λ long.
    let is : name_at from n ≡ Err (BadCharacter (from + 32)) = cond-false _ _ _ long in
    cc)
    (cases_Bool (nat_le n 32))

-- ---- a number

number_front : (from : ℕ) (bytes : List ℕ) (t : Token) → 0 < length bytes → is_ascii_digit (get_or bytes 0 0) ≡ true
    → number_at from (take_while is_ascii_digit bytes) ≡ Ok t → IsFront from bytes t
number_front from bytes t some digit e =
    let n = prefix_len is_ascii_digit bytes in
    let digits = take n bytes in
    let any : 0 < n = front_some is_ascii_digit bytes some digit in
    let size : length digits ≡ n = length-prefix_len is_ascii_digit bytes in
    ⊎_elim
    (λ small.
    let is : number_at from digits ≡ Ok (token Number from (from + length digits)) = cond-true _ _ _ small in
    let same : token Number from (from + length digits) ≡ t = cc in
    let at : token Number from (from + n) ≡ t = ap (λ k. token Number from (from + k)) (sym size) ∙ same in
    subst (IsFront from bytes) at
    (is_front Number from n bytes any (prefix_len-le-length is_ascii_digit bytes)
    (record {
      digits = (omega arith, digits_front bytes);
      small = leb-true _ _ small;
    })))
    (λ wide.
    let is : number_at from digits ≡ Err (NumberTooWide from) = cond-false _ _ _ wide in
    cc)
    (cases_Bool (nat_le (digits_value 10 digits) 9223372036854775808))

-- ---- a quoted text

text_value_is : (v : List ℕ) → length v ≤ right_len 800 v → IsText v
text_value_is v whole =
    let plain_le = prefix_len-le-length is_plain v in
    let utf8_le = utf8_valid_len_le v in
    let plain : prefix_len is_plain v ≡ length v = omega arith in
    let utf8 : utf8_valid_len v ≡ length v = omega arith in
    record { utf8 = whole_from_len v utf8; plain = all_pass is_plain v plain; short = omega arith }

record IsTextEnd (from : ℕ) (bytes : List ℕ) (to : ℕ) : Type 0 where
  right : IsText (value_from bytes)
  closed : EndsByQuote bytes
  end : to ≡ from + (length (doubled (value_from bytes)) + 2)

text_end_is : (from : ℕ) (bytes : List ℕ) (to : ℕ) → text_end from 800 (from + 1) bytes ≡ Ok to → IsTextEnd from bytes to
text_end_is from bytes to e =
    let v = value_from bytes in
    let right = right_len 800 v in
    let size = length (doubled v) in
    ⊎_elim
    (λ less.
    let is : text_end from 800 (from + 1) bytes ≡ Err (BadCharacter (from + 1 + length (doubled (take right v)))) = cond-true _ _ _ less in
    cc)
    (λ whole.
    let on : text_end from 800 (from + 1) bytes ≡ cond (eqb size (length bytes)) (Err (OpenText from)) (Ok (from + 1 + size + 1)) = cond-false _ _ _ whole in
    ⊎_elim
    (λ all.
    let is : text_end from 800 (from + 1) bytes ≡ Err (OpenText from) = on ∙ cond-true _ _ _ all in
    cc)
    (λ part.
    let is : text_end from 800 (from + 1) bytes ≡ Ok (from + 1 + size + 1) = on ∙ cond-false _ _ _ part in
    let same : from + 1 + size + 1 ≡ to = cc in
    let differ = eqb-false size (length bytes) part in
    record {
      right = text_value_is v (ltb-false right (length v) whole);
      closed = ⊎_elim (λ spelled. absurd (differ (sym (ap length spelled)))) (λ closed. closed) (spelling_of_value bytes);
      end = omega arith;
    })
    (cases_Bool (eqb size (length bytes))))
    (cases_Bool (nat_lt right (length v)))

quoted_slice : (bytes : List ℕ) → EndsByQuote bytes → IsText (value_from bytes)
    → IsQuoted (take (length (doubled (value_from bytes)) + 2) (39 ∷ bytes))
quoted_slice bytes closed right =
    let v = value_from bytes in
    let written : List ℕ = 39 ∷ (doubled v ++ 39 ∷ []) in
    let size : length written ≡ length (doubled v) + 2 = omega (arith, length-append (doubled v) (39 ∷ [])) in
    let split : 39 ∷ bytes ≡ written ++ closed.rest = ap (λ xs. 39 ∷ xs) (closed.spelled ∙ sym (append_assoc (doubled v) (39 ∷ []) closed.rest)) in
    let cut : take (length (doubled v) + 2) (39 ∷ bytes) ≡ written = ap (take (length (doubled v) + 2)) split ∙ take_at written closed.rest _ size in
    let value : value_in written ≡ v = value_of_spelling v (39 ∷ []) refl in
    rw cut
    (record {
      spelled = ap (λ w. 39 ∷ (doubled w ++ 39 ∷ [])) (sym value);
      value = subst IsText (sym value) right;
    })

quoted_end : (from : ℕ) (bytes : List ℕ) (t : Token) (r : Result ℕ LexError) → 0 < length bytes → get_or bytes 0 0 ≡ 39
    → text_end from 800 (from + 1) (drop 1 bytes) ≡ r → quoted_at from r ≡ Ok t → IsFront from bytes t
quoted_end from bytes t (Err wrong) some quote is e = cc
quoted_end from bytes t (Ok to) some quote is e =
    let inner = drop 1 bytes in
    let text = text_end_is from inner to is in
    let v = value_from inner in
    let n = length (doubled v) + 2 in
    let whole : bytes ≡ 39 ∷ inner = drop_more bytes 0 0 some ∙ ap (λ b. b ∷ drop 1 bytes) quote in
    let same : token Quoted from to ≡ t = cc in
    let at : token Quoted from (from + n) ≡ t = ap (token Quoted from) (sym text.end) ∙ same in
    let fits : n ≤ length bytes = omega (arith, ap length text.closed.spelled, length-append (doubled v) (39 ∷ text.closed.rest), ap length whole) in
    subst (IsFront from bytes) at
    (is_front Quoted from n bytes (omega arith) fits
    (subst (λ xs. IsQuoted (take n xs)) (sym whole) (quoted_slice inner text.closed text.right)))

-- ---- a sign

find_passes : (p : List ℕ → Bool) (xs : List (List ℕ)) (x : List ℕ) → find p xs ≡ Some x → p x ≡ true
find_passes p [] x e = cc
find_passes p (y ∷ ys) x e =
    ⊎_elim
    (λ here.
    let is : find p (y ∷ ys) ≡ Some y = cond-true _ _ _ here in
    let same : y ≡ x = cc in
    subst (λ z. p z ≡ true) same here)
    (λ past.
    let is : find p (y ∷ ys) ≡ find p ys = cond-false _ _ _ past in
    find_passes p ys x (sym is ∙ e))
    (cases_Bool (p y))

find_all : (p q : List ℕ → Bool) (xs : List (List ℕ)) (x : List ℕ) → list_all q xs ≡ true → find p xs ≡ Some x → q x ≡ true
find_all p q [] x all e = cc
find_all p q (y ∷ ys) x all e =
    let each = and_parts _ _ all in
    ⊎_elim
    (λ here.
    let is : find p (y ∷ ys) ≡ Some y = cond-true _ _ _ here in
    let same : y ≡ x = cc in
    subst (λ z. q z ≡ true) same each.0)
    (λ past.
    let is : find p (y ∷ ys) ≡ find p ys = cond-false _ _ _ past in
    find_all p q ys x each.1 (sym is ∙ e))
    (cases_Bool (p y))

find_among : (p : List ℕ → Bool) (xs : List (List ℕ)) (x : List ℕ) → find p xs ≡ Some x → Contains xs x
find_among p [] x e = cc
find_among p (y ∷ ys) x e =
    ⊎_elim
    (λ here.
    let is : find p (y ∷ ys) ≡ Some y = cond-true _ _ _ here in
    let same : y ≡ x = cc in
    (0, omega arith, same))
    (λ past.
    let is : find p (y ∷ ys) ≡ find p ys = cond-false _ _ _ past in
    let rest = find_among p ys x (sym is ∙ e) in
    (suc rest.0, omega (arith, rest.1), rest.2))
    (cases_Bool (p y))

sign_front : (from : ℕ) (bytes : List ℕ) (t : Token) (o : Option (List ℕ)) → sign_in bytes ≡ o → sign_at from o ≡ Ok t → IsFront from bytes t
sign_front from bytes t None is e = cc
sign_front from bytes t (Some sign) is e =
    let n = length sign in
    let begins : List ℕ → Bool = λ s. starts_with nat_eq bytes s in
    let some : 0 < n = ltb-true 0 n (find_all begins (λ s. nat_lt 0 (length s)) signs sign refl is) in
    let starts : starts_with nat_eq bytes sign ≡ true = find_passes begins signs sign is in
    let split : bytes ≡ sign ++ drop n bytes = (starts_is Decides-eqb bytes sign (starts_with nat_eq bytes sign) refl).0 starts in
    let cut : take n bytes ≡ sign = ap (take n) split ∙ take_at sign (drop n bytes) n refl in
    let fits : n ≤ length bytes = omega (arith, ap length split, length-append sign (drop n bytes)) in
    let same : token Sign from (from + n) ≡ t = cc in
    subst (IsFront from bytes) same (is_front Sign from n bytes some fits (subst (Contains signs) (sym cut) (find_among begins signs sign is)))

-- ---- any token

pub front_is : (from : ℕ) (bytes : List ℕ) (t : Token) → 0 < length bytes → front from bytes ≡ Ok t → IsFront from bytes t
front_is from bytes t some e =
    let first = get_or bytes 0 0 in
    let text = quoted_at from (text_end from 800 (from + 1) (drop 1 bytes)) in
    let sign = sign_at from (sign_in bytes) in
    let digits = number_at from (take_while is_ascii_digit bytes) in
    ⊎_elim
    (λ letter.
    let is : front from bytes ≡ name_at from (prefix_len is_name_byte bytes) = cond-true _ _ _ letter in
    name_front from bytes t some letter (sym is ∙ e))
    (λ no_letter.
    let is : front from bytes ≡ cond (is_ascii_digit first) digits (cond (eqb first 39) text sign) = cond-false _ _ _ no_letter in
    ⊎_elim
    (λ digit.
    let is_number : front from bytes ≡ digits = is ∙ cond-true _ _ _ digit in
    number_front from bytes t some digit (sym is_number ∙ e))
    (λ no_digit.
    let on : front from bytes ≡ cond (eqb first 39) text sign = is ∙ cond-false _ _ _ no_digit in
    ⊎_elim
    (λ quote.
    let is_text : front from bytes ≡ text = on ∙ cond-true _ _ _ quote in
    quoted_end from bytes t _ some (eqb-true first 39 quote) refl (sym is_text ∙ e))
    (λ no_quote.
    let is_sign : front from bytes ≡ sign = on ∙ cond-false _ _ _ no_quote in
    sign_front from bytes t (sign_in bytes) refl (sym is_sign ∙ e))
    (cases_Bool (eqb first 39)))
    (cases_Bool (is_ascii_digit first)))
    (cases_Bool (is_ascii_alphabetic first))

-- ---- the next token of a text

pub record IsNext (text : List ℕ) (at : ℕ) (t : Token) : Type 0 where
  pub stands : StandsIn at t (length text)
  pub blank : list_all is_blank (slice_range text at t.from) ≡ true
  pub slice : IsToken t.kind (slice_range text t.from t.to)

-- n blanks stand at `at`, and a token behind them
pub next_is : (text : List ℕ) (at n : ℕ) (t : Token) → n ≡ prefix_len is_blank (take (length text - at) (drop at text)) → at + n < length text
    → front (at + n) (drop (at + n) text) ≡ Ok t → IsNext text at t
next_is text at n t blanks within e =
    let from = at + n in
    let len : n ≡ prefix_len is_blank (drop at text) = blanks ∙ ap (prefix_len is_blank) (take_rest text at) in
    let rest : length (drop from text) ≡ length text - from = length-drop from text in
    let f = front_is from (drop from text) t (omega arith) e in
    let begins = f.begins in
    let some = f.some in
    let fits = f.within in
    let before : t.from - at ≡ prefix_len is_blank (drop at text) = omega arith in
    record {
      stands = record { behind = omega arith; some = omega arith; within = omega arith };
      blank = rw before (front_passes is_blank (drop at text));
      slice = rw begins f.slice;
    }

found_ok : (r : Result Token LexError) (t : Token) → found r ≡ Ok (Some t) → r ≡ Ok t
found_ok (Ok x) t e = cc
found_ok (Err wrong) t e = cc

-- what the definition of the next token says of one
pub next_stands : (text : List ℕ) (at : ℕ) (t : Token) → at ≤ length text → next_in text at ≡ Ok (Some t) → IsNext text at t
next_stands text at t within e =
    let n = prefix_len is_blank (drop at text) in
    let from = at + n in
    let most : n ≤ length (drop at text) = prefix_len-le-length is_blank (drop at text) in
    let rest : length (drop at text) ≡ length text - at = length-drop at text in
    ⊎_elim
    (λ whole.
    let is : next_in text at ≡ Ok None = cond-true _ _ _ whole in
    cc)
    (λ more.
    let is : next_in text at ≡ found (front from (drop from text)) = cond-false _ _ _ more in
    let differ = eqb-false from (length text) more in
    next_is text at n t (ap (prefix_len is_blank) (sym (take_rest text at))) (omega arith) (found_ok (front from (drop from text)) t (sym is ∙ e)))
    (cases_Bool (from == length text))
