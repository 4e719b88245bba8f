-- What the bytes of a front have that goes on as long as a test passes.
use Rattle.std.proofs.Common.{◌≡◌, ℕ, suc, ◌+◌, ◌-◌, ◌*◌, ◌^◌, ◌<◌, ◌≤◌, min, Bool, true, false, List, [], ◌∷◌, length, take, drop, get_or, IsAscii, refl, ap, ◌∙◌, ⊎_elim, arith, one-add}
use Rattle.std.proofs.lemmas.Bool.{cases_Bool, cond-true, cond-false, and_from, cases_lt}
use Rattle.std.proofs.lemmas.Bool.Decides.{nat_tests}
use Rattle.std.proofs.lemmas.Int.Digits.{digits_value_more}
use Rattle.std.proofs.lemmas.List.{get_or_past, take_rest}
use Rattle.std.proofs.lemmas.List.Sums.{AllPass-from_list_all}
use Rattle.std.proofs.lemmas.Str.{digit_value_digit}
use Rattle.std.proofs.lemmas.Str.Parse.{digit_at}
use Rattle.std.specs.Char.{digit_value, is_ascii_digit}
use Rattle.std.specs.Int.{IsInRange}
use Rattle.std.specs.List.{prefix_len, list_all}
use Rattle.std.specs.Str.Parse.{AllDigits, digits_value}
use Rattle.odb_lex.specs.Bytes.{is_name_byte}

-- a front of one passing byte more
front_on : {X : Type 0} (p : X → Bool) (x : X) (xs : List X) → p x ≡ true
    → take (prefix_len p (x ∷ xs)) (x ∷ xs) ≡ x ∷ take (prefix_len p xs) xs
front_on p x xs passes =
    let len : prefix_len p (x ∷ xs) ≡ suc (prefix_len p xs) = cond-true _ _ _ passes ∙ one-add (prefix_len p xs) in
    ap (λ n. take n (x ∷ xs)) len

-- and an empty one
front_off : {X : Type 0} (p : X → Bool) (x : X) (xs : List X) → p x ≡ false → take (prefix_len p (x ∷ xs)) (x ∷ xs) ≡ []
front_off p x xs fails = ap (λ n. take n (x ∷ xs)) (cond-false _ _ _ fails)

-- each byte of the front passes
pub front_passes : {X : Type 0} (p : X → Bool) (xs : List X) → list_all p (take (prefix_len p xs) xs) ≡ true
front_passes p [] = refl
front_passes p (x ∷ xs) =
    ⊎_elim
    (λ passes. ap (list_all p) (front_on p x xs passes) ∙ and_from _ _ passes (front_passes p xs))
    (λ fails. ap (list_all p) (front_off p x xs fails))
    (cases_Bool (p x))

-- a front that is all the list
pub all_pass : {X : Type 0} (p : X → Bool) (xs : List X) → prefix_len p xs ≡ length xs → list_all p xs ≡ true
all_pass p [] e = refl
all_pass p (x ∷ xs) e =
    ⊎_elim
    (λ passes.
    let len : prefix_len p (x ∷ xs) ≡ 1 + prefix_len p xs = cond-true _ _ _ passes in
    and_from _ _ passes (all_pass p xs (omega arith)))
    (λ fails.
    let len : prefix_len p (x ∷ xs) ≡ 0 = cond-false _ _ _ fails in
    absurd (omega arith))
    (cases_Bool (p x))

-- it has a byte where the first passes
pub front_some : (p : ℕ → Bool) (xs : List ℕ) → 0 < length xs → p (get_or xs 0 0) ≡ true → 0 < prefix_len p xs
front_some p [] some passes = absurd (omega arith)
front_some p (x ∷ xs) some passes =
    let len : prefix_len p (x ∷ xs) ≡ 1 + prefix_len p xs = cond-true _ _ _ passes in
    omega arith

digit_small : (b : ℕ) → is_ascii_digit b ≡ true → digit_value b < 10
digit_small b digit =
    let between : IsInRange 48 57 b = (grind (arith, nat_tests), grind (arith, nat_tests)) in
    let worth : digit_value b + 48 ≡ b = digit_value_digit b between in
    omega arith

-- of digits
pub digits_front : (xs : List ℕ) → AllDigits 10 (take (prefix_len is_ascii_digit xs) xs)
digits_front [] = tt
digits_front (x ∷ xs) =
    ⊎_elim
    (λ digit. rw (front_on is_ascii_digit x xs digit) (digit_small x digit, digits_front xs))
    (λ other. rw (front_off is_ascii_digit x xs other) tt)
    (cases_Bool (is_ascii_digit x))

-- the digits from a place on
pub digits_at : (text : List ℕ) (from n : ℕ) → n ≡ prefix_len is_ascii_digit (take (length text - from) (drop from text))
    → AllDigits 10 (take (from + n - from) (drop from text))
digits_at text from n e =
    let len : from + n - from ≡ prefix_len is_ascii_digit (drop from text) = omega (arith, e ∙ ap (prefix_len is_ascii_digit) (take_rest text from)) in
    rw len (digits_front (drop from text))

-- one digit more, of numbers that stop at the greatest of 64 bits
pub record IsCappedStep (ds : List ℕ) (i value : ℕ) : Type 0 where
  pub digit : 48 ≤ get_or ds i 0
  pub more : min (min (value * 10) (2 ^ 64 - 1) + (get_or ds i 0 - 48)) (2 ^ 64 - 1) ≡ min (digits_value 10 (take (i + 1) ds)) (2 ^ 64 - 1)

pub capped_step : (ds : List ℕ) (i value : ℕ) → AllDigits 10 ds → i < length ds → value ≡ min (digits_value 10 (take i ds)) (2 ^ 64 - 1)
    → IsCappedStep ds i value
capped_step ds i value digits within so_far =
    let between : IsInRange 48 57 (get_or ds i 0) = digit_at ds i digits within in
    let worth : digit_value (get_or ds i 0) + 48 ≡ get_or ds i 0 = digit_value_digit (get_or ds i 0) between in
    let step : digits_value 10 (take (i + 1) ds) ≡ digits_value 10 (take i ds) * 10 + digit_value (get_or ds i 0) = digits_value_more 10 ds i within in
    record { digit = between.0; more = omega arith }

name_byte_small : (b : ℕ) → is_name_byte b ≡ true → b < 128
name_byte_small b named = grind (arith, nat_tests)

-- a name is ASCII
pub name_ascii : (bytes : List ℕ) → list_all is_name_byte bytes ≡ true → IsAscii bytes
name_ascii bytes named i =
    ⊎_elim
    (λ within. name_byte_small _ (AllPass-from_list_all is_name_byte bytes named i 0 within))
    (λ past. let end : get_or bytes i 0 ≡ 0 = get_or_past bytes i 0 past in omega arith)
    (cases_lt i (length bytes))
