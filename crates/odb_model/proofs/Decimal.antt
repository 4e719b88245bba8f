-- The decimals of any number, also one that no machine holds.
use Rattle.std.proofs.Common.{◌≡◌, ℕ, zero, suc, ◌+◌, ◌*◌, ◌/◌, ◌%◌, ◌^◌, ◌<◌, ◌≤◌, true, false, ◌||◌, ◌==◌, nat_lt, cond, List, [], ◌∷◌, length, refl, sym, ap, ◌∙◌, arith, eqb-true}
use Rattle.std.specs.Prelude.{ℤ, pos, negsuc}
use Rattle.std.specs.List.{AllByRecursion, list_any}
use Rattle.std.specs.Fmt.{decimal, signed_decimal, digits, digits_onto, digit_glyph}
use Rattle.std.proofs.lemmas.Fmt.{decimal_is_IsNumeral_wide, length-decimal-le}
use Rattle.std.specs.Str.Parse.{digits_value}
use Rattle.std.proofs.Math.Nat.{pow-suc, one-le-pow}
use Rattle.odb_model.proofs.Cut.{HasNoLf}

-- no byte is a space, or below it
abbrev pub IsUnspaced : List ℕ → Type 0
IsUnspaced bytes = AllByRecursion (λ b. 32 < b) bytes

glyph_seen : (d : ℕ) → 32 < digit_glyph false d
glyph_seen d = elim (nat_lt d 10) as (λ b. 32 < cond b (48 + d) (87 + d)) [ true ↦ omega arith | false ↦ omega arith ]

digits_onto-unspaced : (i n : ℕ) (acc : List ℕ) → IsUnspaced acc → IsUnspaced (digits_onto i 10 false n acc)
digits_onto-unspaced zero n acc seen = seen
digits_onto-unspaced (suc i) n acc seen =
    let first = glyph_seen (n % 10) in
    elim (n / 10 == 0) as (λ b. IsUnspaced (cond b (digit_glyph false (n % 10) ∷ acc) (digits_onto i 10 false (n / 10) (digit_glyph false (n % 10) ∷ acc)))) [
      | true ↦ (first, seen)
      | false ↦ digits_onto-unspaced i (n / 10) (digit_glyph false (n % 10) ∷ acc) (first, seen)
    ]

pub decimal-unspaced : (n : ℕ) → IsUnspaced (decimal n)
unfolding digits
decimal-unspaced n = digits_onto-unspaced 64 n [] tt

-- digits that don't use up their fuel are all digits of the number
digits_onto-short : (i n : ℕ) (acc : List ℕ) → length (digits_onto i 10 false n acc) < i + length acc → n < 10 ^ i
digits_onto-short zero n acc short = absurd (omega arith)
digits_onto-short (suc i) n acc short =
    let g = digit_glyph false (n % 10) in
    let power : 10 ^ suc i ≡ 10 ^ i * 10 = pow-suc 10 i in
    let some : 1 ≤ 10 ^ i = one-le-pow i 10 (omega arith) in
    elim (n / 10 == 0) as (λ b. (n / 10 == 0) ≡ b → length (cond b (g ∷ acc) (digits_onto i 10 false (n / 10) (g ∷ acc))) < suc i + length acc → n < 10 ^ suc i) [
      | true ↦ λ e short. let none : n / 10 ≡ 0 = eqb-true (n / 10) 0 e in omega arith
      | false ↦ λ e short. let rest : n / 10 < 10 ^ i = digits_onto-short i (n / 10) (g ∷ acc) (omega arith) in omega arith
    ] refl short

decimal-short : (n : ℕ) → length (decimal n) < 64 → n < 10 ^ 64
unfolding digits
decimal-short n short = digits_onto-short 64 n [] short

-- the decimals of a number of 64 bits are no other number's
pub decimal-one : (m n : ℕ) → m < 2 ^ 64 → decimal m ≡ decimal n → m ≡ n
decimal-one m n small same =
    let few : length (decimal m) ≤ 20 = length-decimal-le 20 m (omega arith) (omega arith) small in
    let count : length (decimal m) ≡ length (decimal n) = ap length same in
    let wide : n < 10 ^ 64 = decimal-short n (omega arith) in
    let narrow : m < 10 ^ 64 = decimal-short m (omega arith) in
    sym (decimal_is_IsNumeral_wide m narrow).1 ∙ ap (digits_value 10) same ∙ (decimal_is_IsNumeral_wide n wide).1

pub unspaced-no_lf : (bytes : List ℕ) → IsUnspaced bytes → HasNoLf bytes
unspaced-no_lf [] seen = refl
unspaced-no_lf (b ∷ bytes) seen =
    elim (b == 10) as (λ c. (b == 10) ≡ c → HasNoLf (b ∷ bytes)) [
      | true ↦ λ e. let same : b ≡ 10 = eqb-true b 10 e in absurd (omega (arith, seen.0))
      | false ↦ λ e. ap (λ c. c || list_any (λ x. x == 10) bytes) e ∙ unspaced-no_lf bytes seen.1
    ] refl

pub no_lf-decimal : (n : ℕ) → HasNoLf (decimal n)
no_lf-decimal n = unspaced-no_lf (decimal n) (decimal-unspaced n)

pub no_lf-signed : (n : ℤ) → HasNoLf (signed_decimal n)
no_lf-signed (pos n) = no_lf-decimal n
no_lf-signed (negsuc n) = no_lf-decimal (suc n)
