-- The value of a few digits, and the number whose decimal they are.
use Rattle.std.proofs.Common.{◌≡◌, ℕ, zero, suc, ◌+◌, ◌-◌, ◌*◌, ◌^◌, ◌<◌, ◌≤◌, List, length, take, get_or, Option, Some, None, IfSome, IfNone, refl, sym, lit<, lit≤, arith}
use Rattle.std.specs.Char.{digit_value}
use Rattle.std.specs.Int.{IsInRange}
use Rattle.std.specs.Fmt.{decimal}
use Rattle.std.specs.Str.Parse.{AllDigits, digits_value}
use Rattle.std.proofs.lemmas.Str.Parse.{IsNumeralModel, numerals_by_value, tells_digits, digit_from_value, digits_value_short}
use Rattle.std.proofs.lemmas.Str.{digit_value_digit}
use Rattle.std.proofs.lemmas.Int.Digits.{digits_value_more, digits_more}
use Rattle.std.proofs.lemmas.List.{length-take-le}
use Rattle.std.proofs.lemmas.Fmt.{digits_decimal, decimal-digits_value, decimal_nonempty, decimal_digit, first_decimal, length-decimal-le}
use Rattle.odb_parse.specs.Decimals.{IsTrimmed}

own : IsNumeralModel (AllDigits 10) (digits_value 10)
own = numerals_by_value (AllDigits 10) tells_digits

-- one digit more, with what is known of it
pub record IsValueStep (ds : List ℕ) (i value : ℕ) : Type 0 where
  pub digit : 48 ≤ get_or ds i 0
  pub digits : AllDigits 10 (take (i + 1) ds)
  pub small : value * 10 + (get_or ds i 0 - 48) < 10 ^ 15
  pub more : value * 10 + (get_or ds i 0 - 48) ≡ digits_value 10 (take (i + 1) ds)

pub value_step : (ds : List ℕ) (i value : ℕ) → AllDigits 10 (take i ds) → length ds ≤ 15 → i < length ds → value ≡ digits_value 10 (take i ds) → digit_value (get_or ds i 0) < 10 → IsValueStep ds i value
value_step ds i value digits few within so_far here =
    let between : IsInRange 48 57 (get_or ds i 0) = digit_from_value (get_or ds i 0) here in
    let worth : digit_value (get_or ds i 0) + 48 ≡ get_or ds i 0 = digit_value_digit (get_or ds i 0) between in
    let step : digits_value 10 (take (i + 1) ds) ≡ digits_value 10 (take i ds) * 10 + digit_value (get_or ds i 0) = digits_value_more 10 ds i within in
    let all : AllDigits 10 (take (i + 1) ds) = digits_more 10 ds i within digits here in
    let short : length (take (i + 1) ds) ≤ 15 = omega (arith, length-take-le (i + 1) ds (omega arith)) in
    let small : digits_value 10 (take (i + 1) ds) < 10 ^ 15 = digits_value_short own (take (i + 1) ds) 15 all short in
    record { digit = between.0; digits = all; small = omega arith; more = omega arith }

-- the decimal of a number below 10^15 is so
decimal_trimmed : (n : ℕ) → n < 10 ^ 15 → IsTrimmed (decimal n)
decimal_trimmed zero few = rw (decimal_digit 0 (lit< tt)) (record { some = lit< tt; few = lit≤ tt; first = λ _. refl })
decimal_trimmed (suc n) few = record {
  some = decimal_nonempty (suc n) (omega arith);
  few = length-decimal-le 15 (suc n) (lit< tt) few (omega arith);
  first = λ zero_first. absurd (omega (arith, zero_first, first_decimal (suc n) (omega arith) (omega arith)));
}

pub trimmed : (ds : List ℕ) (n : ℕ) → n < 10 ^ 15 → ds ≡ decimal n → IsTrimmed ds
trimmed ds n few is = rw is (decimal_trimmed n few)

all_digits : (ds : List ℕ) (n : ℕ) → n < 10 ^ 15 → ds ≡ decimal n → AllDigits 10 ds
all_digits ds n few is = rw is (digits_decimal own n (omega arith))

-- The value that a few digits have is the number whose decimal they are, and other bytes are no decimal.
pub found_of : (ds : List ℕ) (r : Option ℕ) → IsTrimmed ds → IfSome r (λ n. AllDigits 10 ds × (n ≡ digits_value 10 ds)) → IfSome r (λ n. (n < 10 ^ 15) × (ds ≡ decimal n))
found_of ds None like value = tt
found_of ds (Some n) like value =
    let small : digits_value 10 ds < 10 ^ 15 = digits_value_short own ds 15 value.0 like.few in
    rw value.1 (small, sym (decimal-digits_value own ds value.0 like.some like.first (omega arith)))

pub none_of : (ds : List ℕ) (r : Option ℕ) → IfNone r (AllDigits 10 ds → ⊥) → IfNone r ((n : ℕ) → n < 10 ^ 15 → ds ≡ decimal n → ⊥)
none_of ds (Some n) none = tt
none_of ds None none = λ n few is. none (all_digits ds n few is)
