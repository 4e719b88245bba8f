-- Decimals of numbers below 2^32.
use Rattle.std.proofs.Common.{◌≡◌, ℕ, ◌^◌, ◌<◌, ◌≤◌, List, length, get_or, sym, ◌∙◌, arith}
use Rattle.std.specs.Int.{IsInRange}
use Rattle.std.specs.Fmt.{decimal}
use Rattle.std.specs.Str.Parse.{AllDigits, digits_value}
use Rattle.std.proofs.lemmas.Str.Parse.{IsNumeralModel, numerals_by_value, tells_digits, digit_at}
use Rattle.std.proofs.lemmas.Fmt.{digits_decimal, decimal_injective}
use Rattle.odb_command.specs.Numbers.{IsDecimalIn}

own : IsNumeralModel (AllDigits 10) (digits_value 10)
own = numerals_by_value (AllDigits 10) tells_digits

-- a number has one decimal
pub only_number : (m n : ℕ) → m < 10 ^ 15 → n < 2 ^ 32 → decimal m ≡ decimal n → m ≡ n
only_number m n few small same = decimal_injective m n (omega arith) (omega arith) same

-- a word that is no decimal of up to 15 digits is none of a number in a range
pub none_spelled : (word : List ℕ) (least most : ℕ) → most < 2 ^ 32 → ((n : ℕ) → n < 10 ^ 15 → word ≡ decimal n → ⊥) → (n : ℕ) → IsDecimalIn least most word n → ⊥
none_spelled word least most narrow none n (is, low, high) = none n (omega arith) is

-- nor is the decimal of a number outside the range
pub none_inside : (word : List ℕ) (least most m : ℕ) → most < 2 ^ 32 → m < 10 ^ 15 → word ≡ decimal m → (least ≤ m → m ≤ most → ⊥) → (n : ℕ) → IsDecimalIn least most word n → ⊥
none_inside word least most m narrow few spelled outside n (is, low, high) =
    let same : m ≡ n = only_number m n few (omega arith) (sym spelled ∙ is) in
    outside (omega arith) (omega arith)

-- no byte of a decimal is `=`
pub no_sign : (n : ℕ) → n < 2 ^ 32 → (k : ℕ) → k < length (decimal n) → get_or (decimal n) k 0 ≡ 61 → ⊥
no_sign n small k within is =
    let digits : AllDigits 10 (decimal n) = digits_decimal own n (omega arith) in
    let between : IsInRange 48 57 (get_or (decimal n) k 0) = digit_at (decimal n) k digits within in
    omega (arith, between, is)
