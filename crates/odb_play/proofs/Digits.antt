-- A number at the front of some bytes, and that there is only one.
use Rattle.std.proofs.Common.{◌≡◌, ℕ, zero, suc, ◌+◌, ◌-◌, ◌*◌, ◌^◌, ◌<◌, ◌≤◌, List, [], ◌∷◌, ◌++◌, length, take, drop, get_or, refl, sym, ◌∙◌, lit<, lit≤, arith}
use Rattle.std.specs.Char.{digit_value}
use Rattle.std.specs.Int.{IsInRange}
use Rattle.std.specs.Fmt.{decimal}
use Rattle.std.specs.Str.Parse.{AllDigits, digits_value}
use Rattle.std.proofs.lemmas.Str.Parse.{IsNumeralModel, numerals_by_value, tells_digits, digit_from_value, digit_at, digits_value_short, digits_value-take-le}
use Rattle.std.proofs.lemmas.Str.{digit_value_digit}
use Rattle.std.proofs.lemmas.Int.Digits.{digits_value_more}
use Rattle.std.proofs.lemmas.Fmt.{digits_decimal, decimal-digits_value, decimal_injective, decimal_nonempty, decimal_digit, first_decimal, length-decimal-le}
use Rattle.std.proofs.lemmas.List.{take-append-drop}
use Rattle.odb_play.specs.Numbers.{EndsNumber, StartsWithNumber, IsShort}

pub own : IsNumeralModel (AllDigits 10) (digits_value 10)
own = numerals_by_value (AllDigits 10) tells_digits

-- what ends a number does not begin with a digit
no_digit : (rest : List ℕ) (b : ℕ) (bytes : List ℕ) → EndsNumber rest → rest ≡ b ∷ bytes → digit_value b < 10 → ⊥
no_digit [] b bytes ends e digit = cc
no_digit (c ∷ cs) b bytes ends e digit =
    let same : c ≡ b = cc in
    let between : IsInRange 48 57 b = digit_from_value b digit in
    omega (arith, same, between, ends)

-- digits that are ended in one place only are told by the whole
pub same_digits : (xs ys r s : List ℕ) → AllDigits 10 xs → AllDigits 10 ys → EndsNumber r → EndsNumber s → xs ++ r ≡ ys ++ s → (xs ≡ ys) × (r ≡ s)
same_digits [] [] r s dx dy er es e = (refl, e)
same_digits [] (y ∷ ys) r s dx dy er es e = absurd (no_digit r y (ys ++ s) er e dy.0)
same_digits (x ∷ xs) [] r s dx dy er es e = absurd (no_digit s x (xs ++ r) es (sym e) dx.0)
same_digits (x ∷ xs) (y ∷ ys) r s dx dy er es e =
    let first : x ≡ y = cc in
    let more : xs ++ r ≡ ys ++ s = cc in
    let rest : (xs ≡ ys) × (r ≡ s) = same_digits xs ys r s dx.1 dy.1 er es more in
    (cc (first, rest.0), rest.1)

below_64 : (n : ℕ) → n < 10 ^ 9 → n < 2 ^ 64
below_64 n few = omega arith

-- the decimal of a number below 10^9 has at most 9 digits, and only 0 begins with 0
short_decimal : (n : ℕ) → n < 10 ^ 9 → IsShort (decimal n)
short_decimal zero few = rw (decimal_digit 0 (lit< tt)) (record { some = lit< tt; few = lit≤ tt; first = λ _. refl })
short_decimal (suc n) few = record {
  some = decimal_nonempty (suc n) (omega arith);
  few = length-decimal-le 9 (suc n) (lit< tt) few (omega arith);
  first = λ zero_first. absurd (omega (arith, zero_first, first_decimal (suc n) (omega arith) (omega arith)));
}

-- digits that are short and end there are the decimal of their value
pub number_found : (bs : List ℕ) (k : ℕ) → AllDigits 10 (take k bs) → EndsNumber (drop k bs) → IsShort (take k bs) → StartsWithNumber bs (digits_value 10 (take k bs)) (drop k bs)
number_found bs k digits ends short =
    let small : digits_value 10 (take k bs) < 10 ^ 9 = digits_value_short own (take k bs) 9 digits short.few in
    let written : decimal (digits_value 10 (take k bs)) ≡ take k bs = decimal-digits_value own (take k bs) digits short.some short.first (omega arith) in
    record { few = small; spelled = rw written (sym (take-append-drop k bs)); ends = ends }

-- digits that are not short are no number's
pub number_none : (bs : List ℕ) (k : ℕ) → AllDigits 10 (take k bs) → EndsNumber (drop k bs) → (IsShort (take k bs) → ⊥) → (n : ℕ) (rest : List ℕ) → StartsWithNumber bs n rest → ⊥
number_none bs k digits ends long n rest starts =
    let written : AllDigits 10 (decimal n) = digits_decimal own n (below_64 n starts.few) in
    let same : (take k bs ≡ decimal n) × (drop k bs ≡ rest) = same_digits (take k bs) (decimal n) (drop k bs) rest digits written ends starts.ends (take-append-drop k bs ∙ starts.spelled) in
    long (rw same.0 (short_decimal n starts.few))

-- bytes begin with one number at most
pub number_unique : (bs : List ℕ) (m n : ℕ) (r s : List ℕ) → StartsWithNumber bs m r → StartsWithNumber bs n s → (m ≡ n) × (r ≡ s)
number_unique bs m n r s one two =
    let m_digits : AllDigits 10 (decimal m) = digits_decimal own m (below_64 m one.few) in
    let n_digits : AllDigits 10 (decimal n) = digits_decimal own n (below_64 n two.few) in
    let same : (decimal m ≡ decimal n) × (r ≡ s) = same_digits (decimal m) (decimal n) r s m_digits n_digits one.ends two.ends (sym one.spelled ∙ two.spelled) in
    (decimal_injective m n (below_64 m one.few) (below_64 n two.few) same.0, same.1)

-- one digit more, with what is known of it
pub record IsValueStep (ds : List ℕ) (i value : ℕ) : Type 0 where
  pub digit : 48 ≤ get_or ds i 0
  pub small : value * 10 + (get_or ds i 0 - 48) < 10 ^ 9
  pub more : value * 10 + (get_or ds i 0 - 48) ≡ digits_value 10 (take (i + 1) ds)

pub value_step : (ds : List ℕ) (i value : ℕ) → AllDigits 10 ds → length ds ≤ 9 → i < length ds → value ≡ digits_value 10 (take i ds) → IsValueStep ds i value
value_step ds i value digits few within so_far =
    let between : IsInRange 48 57 (get_or ds i 0) = digit_at ds i digits within in
    let worth : digit_value (get_or ds i 0) + 48 ≡ get_or ds i 0 = digit_value_digit (get_or ds i 0) between in
    let step : digits_value 10 (take (i + 1) ds) ≡ digits_value 10 (take i ds) * 10 + digit_value (get_or ds i 0) = digits_value_more 10 ds i within in
    let below : digits_value 10 (take (i + 1) ds) ≤ digits_value 10 ds = digits_value-take-le 10 ds (i + 1) (lit≤ tt) in
    let small : digits_value 10 ds < 10 ^ 9 = digits_value_short own ds 9 digits few in
    record { digit = between.0; small = omega arith; more = omega arith }
