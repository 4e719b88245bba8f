-- Values, keys and rows: what is read has the image that was read, and an image is read as what it is of.
use Rattle.std.proofs.Common.{◌≡◌, ℕ, zero, suc, ◌^◌, ◌<◌, ◌≤◌, ℤ, pos, negsuc, true, cond, leb, ◌&&◌, List, [], ◌∷◌, ◌++◌, length, take, drop, Ok, Err, refl, sym, ap, subst, ◌∙◌, append_assoc, arith}
use Rattle.std.specs.Prelude.{FitsSigned}
use Rattle.std.specs.Int.{w16, w64, to_be_bytes, cast_signed, cast_unsigned}
use Rattle.std.specs.List.{AllByRecursion}
use Rattle.std.proofs.lemmas.Bool.{and_parts, and_from, leb-true, le-leb}
use Rattle.std.proofs.lemmas.Int.{of_z-to_z, to_z-of_z}
use Rattle.std.proofs.lemmas.List.{take_at, drop_at, take-append-drop, length-append, length-take}
use Rattle.std.proofs.lemmas.List.Concat.{flat_map-cons}
use Rattle.std.proofs.lemmas.List.Sums.{sum_by-cons}
use borrow.Author.Gap.{read_sfits}
use Rattle.odb_values.specs.declared.value.Value.{Value}
use Rattle.odb_values.specs.declared.value.Value.TheVariants.{Null, Int, Text}
use Rattle.odb_values.specs.Text.{IsText}
use Rattle.odb_values.specs.Value.{width_of}
use Rattle.odb_values.specs.Key.{width_of_all}
use Rattle.odb_codec.specs.Image.{counted, value_image, values_image, IsTyped}
use Rattle.odb_codec.specs.Reading.{◌>>=◌, number_at, is_text, text_at, behind_kind, value_at, values_upto, values_in}
use Rattle.odb_codec.proofs.Steps.{IsBytes, IsBytes-drop, IsBytes-rest, bind_ok, guard_ok, ok_is, Takes, Takes-then}
use Rattle.odb_codec.proofs.Numbers.{wide16, wide64, number_takes, number_again}
use Rattle.odb_codec.proofs.Texts.{IsText-from_test, test_from-IsText}
use Rattle.odb_codec.proofs.Values.{as_one_ok, values_in-nil, values_in_step}

signed_fits : (z : ℤ) → FitsSigned w64 z → cast_unsigned w64 z < 2 ^ 64
signed_fits (pos n) fits = omega (arith, fits.sfits)
signed_fits (negsuc n) fits = omega arith

text_takes : (bytes : List ℕ) (x : List ℕ × List ℕ) → IsBytes bytes → text_at bytes ≡ Ok x → Takes bytes (counted x.0) x.1 × IsText x.0
unfolding text_at counted
text_takes bytes x fits e =
    let b = bind_ok (number_at w16 bytes) (λ len. cond (leb len.0 (length len.1) && is_text (take len.0 len.1)) (Ok (take len.0 len.1, drop len.0 len.1)) (Err (length bytes))) x e in
    let n = b.0 in
    let t = number_takes w16 (2 ^ 16) wide16 bytes n.0 n.1 fits b.1 in
    let g = guard_ok (leb n.0 (length n.1) && is_text (take n.0 n.1)) (length bytes) (take n.0 n.1, drop n.0 n.1) x b.2 in
    let tests = and_parts (leb n.0 (length n.1)) (is_text (take n.0 n.1)) g.0 in
    let long : n.0 ≤ length n.1 = leb-true _ _ tests.0 in
    let len : length (take n.0 n.1) ≡ n.0 = omega (arith, length-take n.0 n.1) in
    let second : Takes n.1 (take n.0 n.1) (drop n.0 n.1) = record { parts = sym (take-append-drop n.0 n.1); rest_fits = IsBytes-drop n.0 n.1 t.0.rest_fits } in
    let both = Takes-then bytes (to_be_bytes w16 n.0) n.1 (take n.0 n.1) (drop n.0 n.1) t.0 second in
    let whole : Takes bytes (to_be_bytes w16 (length (take n.0 n.1)) ++ take n.0 n.1) (drop n.0 n.1) = subst (λ (k : ℕ). Takes bytes (to_be_bytes w16 k ++ take n.0 n.1) (drop n.0 n.1)) (sym len) both in
    subst (λ (p : List ℕ × List ℕ). Takes bytes (to_be_bytes w16 (length p.0) ++ p.0) p.1 × IsText p.0) g.1 (whole, IsText-from_test (take n.0 n.1) tests.1)

text_again : (text rest : List ℕ) → IsText text → text_at (counted text ++ rest) ≡ Ok (text, rest)
unfolding text_at counted
text_again text rest fits =
    let regrouped : (to_be_bytes w16 (length text) ++ text) ++ rest ≡ to_be_bytes w16 (length text) ++ (text ++ rest) = append_assoc (to_be_bytes w16 (length text)) text rest in
    let short : length text < 2 ^ 16 = omega (arith, fits.short) in
    let front : take (length text) (text ++ rest) ≡ text = take_at text rest (length text) refl in
    let back : drop (length text) (text ++ rest) ≡ rest = drop_at text rest (length text) refl in
    let passes : (leb (length text) (length (text ++ rest)) && is_text text) ≡ true =
    and_from (leb (length text) (length (text ++ rest))) (is_text text) (le-leb (length text) (length (text ++ rest)) (omega (arith, length-append text rest))) (test_from-IsText text fits) in
    ap text_at regrouped ∙ rw (number_again w16 (2 ^ 16) wide16 (length text) (text ++ rest) short, front, back, passes) refl

kind_takes : (kind : ℕ) (bytes : List ℕ) (x : Value × List ℕ) → IsBytes bytes → behind_kind kind bytes ≡ Ok x → Takes (kind ∷ bytes) (value_image x.0) x.1 × IsTyped x.0
unfolding behind_kind value_image
kind_takes zero bytes x fits e =
    subst (λ (y : Value × List ℕ). Takes (0 ∷ bytes) (value_image y.0) y.1 × IsTyped y.0) (ok_is (Null, bytes) x e) (record { parts = refl; rest_fits = fits }, tt)
kind_takes (suc zero) bytes x fits e =
    let b = bind_ok (number_at w64 bytes) (λ n. Ok (Int (cast_signed w64 n.0), n.1)) x e in
    let n = b.0.0 in
    let t = number_takes w64 (2 ^ 64) wide64 bytes n b.0.1 fits b.1 in
    let back : cast_unsigned w64 (cast_signed w64 n) ≡ n = of_z-to_z w64 n t.1 in
    let whole : bytes ≡ to_be_bytes w64 (cast_unsigned w64 (cast_signed w64 n)) ++ b.0.1 = subst (λ (k : ℕ). bytes ≡ to_be_bytes w64 k ++ b.0.1) (sym back) t.0.parts in
    subst (λ (y : Value × List ℕ). Takes (1 ∷ bytes) (value_image y.0) y.1 × IsTyped y.0) (ok_is (Int (cast_signed w64 n), b.0.1) x b.2) (record { parts = ap (λ (w : List ℕ). 1 ∷ w) whole; rest_fits = t.0.rest_fits }, read_sfits w64 n)
kind_takes (suc (suc zero)) bytes x fits e =
    let b = bind_ok (text_at bytes) (λ text. Ok (Text text.0, text.1)) x e in
    let t = text_takes bytes b.0 fits b.1 in
    subst (λ (y : Value × List ℕ). Takes (2 ∷ bytes) (value_image y.0) y.1 × IsTyped y.0) (ok_is (Text b.0.0, b.0.1) x b.2) (record { parts = ap (λ (w : List ℕ). 2 ∷ w) t.0.parts; rest_fits = t.0.rest_fits }, t.1)
kind_takes (suc (suc (suc kind))) bytes x fits e = absurd cc

pub value_takes : (bytes : List ℕ) (x : Value × List ℕ) → IsBytes bytes → value_at bytes ≡ Ok x → Takes bytes (value_image x.0) x.1 × IsTyped x.0
unfolding value_at
value_takes [] x fits e = absurd cc
value_takes (kind ∷ bytes) x fits e = kind_takes kind bytes x (IsBytes-rest kind bytes fits) (as_one_ok (kind ∷ bytes) (behind_kind kind bytes) x e)

pub value_again : (v : Value) (rest : List ℕ) → IsTyped v → value_at (value_image v ++ rest) ≡ Ok (v, rest)
unfolding value_at value_image behind_kind
value_again Null rest typed = refl
value_again (Int n) rest typed =
    let back : cast_signed w64 (cast_unsigned w64 n) ≡ n = to_z-of_z w64 n typed in
    rw (number_again w64 (2 ^ 64) wide64 (cast_unsigned w64 n) rest (signed_fits n typed), back) refl
value_again (Text t) rest typed = rw (text_again t rest typed) refl

upto_takes : (most : ℕ) (bytes : List ℕ) (vs : List Value) → IsBytes bytes → values_upto most bytes ≡ Ok vs → (bytes ≡ values_image vs) × AllByRecursion IsTyped vs
unfolding values_upto
upto_takes zero [] vs fits e =
    subst (λ (ys : List Value). ([] ≡ values_image ys) × AllByRecursion IsTyped ys) (ok_is [] vs e) (refl, tt)
upto_takes (suc most) [] vs fits e =
    subst (λ (ys : List Value). ([] ≡ values_image ys) × AllByRecursion IsTyped ys) (ok_is [] vs e) (refl, tt)
upto_takes zero (b ∷ bytes) vs fits e = absurd cc
upto_takes (suc most) (b ∷ bytes) vs fits e =
    let a = bind_ok (value_at (b ∷ bytes)) (λ first. values_upto most first.1 >>= λ others. Ok (first.0 ∷ others)) vs e in
    let o = bind_ok (values_upto most a.0.1) (λ others. Ok (a.0.0 ∷ others)) vs a.2 in
    let first = value_takes (b ∷ bytes) a.0 fits a.1 in
    let second = upto_takes most a.0.1 o.0 first.0.rest_fits o.1 in
    let whole : b ∷ bytes ≡ values_image (a.0.0 ∷ o.0) = first.0.parts ∙ ap (λ (w : List ℕ). value_image a.0.0 ++ w) second.0 ∙ sym (flat_map-cons value_image a.0.0 o.0) in
    subst (λ (ys : List Value). (b ∷ bytes ≡ values_image ys) × AllByRecursion IsTyped ys) (ok_is (a.0.0 ∷ o.0) vs o.2) (whole, (first.1, second.1))

pub values_take : (bytes : List ℕ) (vs : List Value) → IsBytes bytes → values_in bytes ≡ Ok vs → (bytes ≡ values_image vs) × AllByRecursion IsTyped vs
unfolding values_in
values_take bytes vs fits e = upto_takes (length bytes) bytes vs fits e

value_has_bytes : (v : Value) (rest : List ℕ) → 0 < length (value_image v ++ rest)
unfolding value_image
value_has_bytes Null rest = omega arith
value_has_bytes (Int n) rest = omega arith
value_has_bytes (Text t) rest = omega arith

pub values_again : (vs : List Value) → AllByRecursion IsTyped vs → values_in (values_image vs) ≡ Ok vs
values_again [] typed = values_in-nil
values_again (v ∷ vs) typed =
    let parts : values_image (v ∷ vs) ≡ value_image v ++ values_image vs = flat_map-cons value_image v vs in
    let step = values_in_step (value_image v ++ values_image vs) (value_has_bytes v (values_image vs)) in
    ap values_in parts ∙ step ∙ rw (value_again v (values_image vs) typed.0, values_again vs typed.1) refl

length-value_image : (v : Value) → length (value_image v) ≡ width_of v
unfolding value_image counted
length-value_image Null = refl
length-value_image (Int n) = refl
length-value_image (Text t) = omega (arith, length-append (to_be_bytes w16 (length t)) t)

pub length-values_image : (vs : List Value) → length (values_image vs) ≡ width_of_all vs
length-values_image [] = refl
length-values_image (v ∷ vs) =
    let parts : values_image (v ∷ vs) ≡ value_image v ++ values_image vs = flat_map-cons value_image v vs in
    let rest = length-values_image vs in
    let one = length-value_image v in
    ap length parts ∙ length-append (value_image v) (values_image vs) ∙ rw (one, rest) (sym (sum_by-cons width_of v vs))
