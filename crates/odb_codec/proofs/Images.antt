-- Keys and rows behind their lengths.
use Rattle.std.proofs.Common.{◌≡◌, ℕ, zero, suc, ◌+◌, ◌^◌, ◌<◌, ◌≤◌, Bool, true, false, cond, ltb, leb, List, [], ◌∷◌, ◌++◌, length, take, drop, Option, Some, None, Result, Ok, Err, refl, sym, ap, subst, ◌∙◌, append_assoc, arith}
use Rattle.std.specs.Prelude.{IfSome}
use Rattle.std.specs.Int.{w16, to_be_bytes}
use Rattle.std.specs.List.{AllByRecursion}
use Rattle.std.proofs.lemmas.Bool.{leb-true, le-leb, ltb-false, le-ltb}
use Rattle.std.proofs.lemmas.List.{take_at, drop_at, take-append-drop, length-append, length-take}
use Rattle.odb_values.specs.declared.value.Value.{Value}
use Rattle.odb_values.specs.Key.{IsKey, width_of_all}
use Rattle.odb_model.specs.declared.table_key.TableKey.{TableKey}
use Rattle.odb_codec.specs.Image.{counted, values_image, change_image, IsTyped}
use Rattle.odb_model.specs.Width.{width_of_change}
use Rattle.odb_codec.specs.Reading.{◌>>=◌, number_at, values_in, in_front_of, image_at, is_key, is_above, key_at, row_at, change_at}
use Rattle.odb_codec.proofs.Steps.{IsBytes, IsBytes-take, IsBytes-drop, IsBytes-rest, bind_ok, guard_ok, guard_not, ok_is, Takes, Takes-then}
use Rattle.odb_codec.proofs.Numbers.{wide16, number_takes, number_again}
use Rattle.odb_codec.proofs.Agree.{values_take, values_again, length-values_image}
use Rattle.odb_codec.proofs.Keys.{IsKey-from_test, test_from-IsKey}

in_front_ok : {A : Type 0} (n : ℕ) (r : Result A ℕ) (x : A) → in_front_of n r ≡ Ok x → r ≡ Ok x
in_front_ok n (Ok y) x e = e
in_front_ok n (Err left) x e = absurd cc

pub image_takes : (len : ℕ) (bytes : List ℕ) (x : List Value × List ℕ) → IsBytes bytes → image_at len bytes ≡ Ok x → Takes bytes (values_image x.0) x.1 × (length (values_image x.0) ≡ len) × AllByRecursion IsTyped x.0
unfolding image_at
image_takes len bytes x fits e =
    let a = bind_ok (in_front_of (length (drop len bytes)) (values_in (take len bytes))) (λ values. cond (ltb (length bytes) len) (Err 0) (Ok (values, drop len bytes))) x e in
    let g = guard_not (ltb (length bytes) len) 0 (a.0, drop len bytes) x a.2 in
    let long : len ≤ length bytes = ltb-false (length bytes) len g.0 in
    let read = in_front_ok (length (drop len bytes)) (values_in (take len bytes)) a.0 a.1 in
    let taken = values_take (take len bytes) a.0 (IsBytes-take len bytes fits) read in
    let whole : bytes ≡ values_image a.0 ++ drop len bytes = sym (take-append-drop len bytes) ∙ ap (λ (w : List ℕ). w ++ drop len bytes) taken.0 in
    let count : length (values_image a.0) ≡ len = sym (ap length taken.0) ∙ omega (arith, length-take len bytes) in
    subst (λ (y : List Value × List ℕ). Takes bytes (values_image y.0) y.1 × (length (values_image y.0) ≡ len) × AllByRecursion IsTyped y.0) g.1
    (record { parts = whole; rest_fits = IsBytes-drop len bytes fits }, count, taken.1)

pub image_again : (vs : List Value) (rest : List ℕ) → AllByRecursion IsTyped vs → image_at (length (values_image vs)) (values_image vs ++ rest) ≡ Ok (vs, rest)
unfolding image_at
image_again vs rest typed =
    let front : take (length (values_image vs)) (values_image vs ++ rest) ≡ values_image vs = take_at (values_image vs) rest (length (values_image vs)) refl in
    let back : drop (length (values_image vs)) (values_image vs ++ rest) ≡ rest = drop_at (values_image vs) rest (length (values_image vs)) refl in
    let long : ltb (length (values_image vs ++ rest)) (length (values_image vs)) ≡ false = le-ltb _ _ (omega (arith, length-append (values_image vs) rest)) in
    rw (front, back, values_again vs typed, long) refl

-- a length, and an image of that length
counted_takes : (bytes : List ℕ) (len : ℕ × List ℕ) (x : List Value × List ℕ) → IsBytes bytes → number_at w16 bytes ≡ Ok len → image_at len.0 len.1 ≡ Ok x
    → Takes bytes (counted (values_image x.0)) x.1 × (length (values_image x.0) ≡ len.0) × AllByRecursion IsTyped x.0
unfolding counted
counted_takes bytes len x fits number image =
    let first = number_takes w16 (2 ^ 16) wide16 bytes len.0 len.1 fits number in
    let second = image_takes len.0 len.1 x first.0.rest_fits image in
    let both = Takes-then bytes (to_be_bytes w16 len.0) len.1 (values_image x.0) x.1 first.0 second.0 in
    (subst (λ (k : ℕ). Takes bytes (to_be_bytes w16 k ++ values_image x.0) x.1) (sym second.1) both, second.1, second.2)

counted_again : (vs : List Value) (rest : List ℕ) → length (values_image vs) < 2 ^ 16 → number_at w16 (counted (values_image vs) ++ rest) ≡ Ok (length (values_image vs), values_image vs ++ rest)
unfolding counted
counted_again vs rest short =
    let regrouped : (to_be_bytes w16 (length (values_image vs)) ++ values_image vs) ++ rest ≡ to_be_bytes w16 (length (values_image vs)) ++ (values_image vs ++ rest) = append_assoc (to_be_bytes w16 (length (values_image vs))) (values_image vs) rest in
    ap (number_at w16) regrouped ∙ number_again w16 (2 ^ 16) wide16 (length (values_image vs)) (values_image vs ++ rest) short

-- what a key is that was read
pub record IsKeyRead (before : Option TableKey) (table : ℕ) (bytes : List ℕ) (key : List Value) (rest : List ℕ) : Type 0 where
  pub takes : Takes bytes (counted (values_image key)) rest
  pub is_key : IsKey key
  pub typed : AllByRecursion IsTyped key
  pub above : is_above before (record { table = table; key = key }) ≡ true

pub key_takes : (before : Option TableKey) (table : ℕ) (bytes : List ℕ) (x : List Value × List ℕ) → IsBytes bytes → key_at before table bytes ≡ Ok x → IsKeyRead before table bytes x.0 x.1
unfolding key_at
key_takes before table bytes x fits e =
    let a = bind_ok (number_at w16 bytes) (λ len. image_at len.0 len.1 >>= λ key. cond (is_key key.0) (cond (is_above before (record { table = table; key = key.0 })) (Ok key) (Err (length len.1))) (Err (length bytes))) x e in
    let b = bind_ok (image_at a.0.0 a.0.1) (λ key. cond (is_key key.0) (cond (is_above before (record { table = table; key = key.0 })) (Ok key) (Err (length a.0.1))) (Err (length bytes))) x a.2 in
    let t = counted_takes bytes a.0 b.0 fits a.1 b.1 in
    let g = tests (is_key b.0.0) (is_above before (record { table = table; key = b.0.0 })) (length bytes) (length a.0.1) b.0 x b.2 in
    subst (λ (y : List Value × List ℕ). IsKeyRead before table bytes y.0 y.1) g.2
    (record { takes = t.0; is_key = IsKey-from_test b.0.0 g.0; typed = t.2; above = g.1 })
  where
    tests : (b c : Bool) (d e : ℕ) (x y : List Value × List ℕ) → cond b (cond c (Ok x) (Err e)) (Err d) ≡ Ok y → (b ≡ true) × (c ≡ true) × (x ≡ y)
    tests true true d e x y h = (refl, refl, ok_is x y h)
    tests true false d e x y h = absurd cc
    tests false c d e x y h = absurd cc

pub key_again : (before : Option TableKey) (table : ℕ) (key : List Value) (rest : List ℕ) → IsKey key → AllByRecursion IsTyped key → is_above before (record { table = table; key = key }) ≡ true → key_at before table (counted (values_image key) ++ rest) ≡ Ok (key, rest)
unfolding key_at
key_again before table key rest is typed above =
    let width = length-values_image key in
    let short : length (values_image key) < 2 ^ 16 = omega (arith, is.narrow) in
    rw (counted_again key rest short, image_again key rest typed, test_from-IsKey key is, above) refl

pub row_takes : (key_width : ℕ) (bytes : List ℕ) (x : List Value × List ℕ) → IsBytes bytes → row_at key_width bytes ≡ Ok x
    → Takes bytes (counted (values_image x.0)) x.1 × AllByRecursion IsTyped x.0 × (key_width + width_of_all x.0 ≤ 1006)
unfolding row_at
row_takes key_width bytes x fits e =
    let a = bind_ok (number_at w16 bytes) (λ len. image_at len.0 len.1 >>= λ row. cond (leb (key_width + len.0) 1006) (Ok row) (Err (length bytes))) x e in
    let b = bind_ok (image_at a.0.0 a.0.1) (λ row. cond (leb (key_width + a.0.0) 1006) (Ok row) (Err (length bytes))) x a.2 in
    let t = counted_takes bytes a.0 b.0 fits a.1 b.1 in
    let g = guard_ok (leb (key_width + a.0.0) 1006) (length bytes) b.0 x b.2 in
    let narrow = leb-true (key_width + a.0.0) 1006 g.0 in
    subst (λ (y : List Value × List ℕ). Takes bytes (counted (values_image y.0)) y.1 × AllByRecursion IsTyped y.0 × (key_width + width_of_all y.0 ≤ 1006)) g.1
    (t.0, t.2, omega (arith, narrow, t.1, length-values_image b.0.0))

pub row_again : (key_width : ℕ) (row : List Value) (rest : List ℕ) → key_width + width_of_all row ≤ 1006 → AllByRecursion IsTyped row → row_at key_width (counted (values_image row) ++ rest) ≡ Ok (row, rest)
unfolding row_at
row_again key_width row rest narrow typed =
    let width = length-values_image row in
    let short : length (values_image row) < 2 ^ 16 = omega arith in
    let passes : leb (key_width + length (values_image row)) 1006 ≡ true = le-leb _ _ (omega arith) in
    rw (counted_again row rest short, image_again row rest typed, passes) refl

pub change_takes : (key_width : ℕ) (bytes : List ℕ) (x : Option (List Value) × List ℕ) → key_width ≤ 256 → IsBytes bytes → change_at key_width bytes ≡ Ok x
    → Takes bytes (change_image x.0) x.1 × IfSome x.0 (AllByRecursion IsTyped) × (key_width + width_of_change x.0 ≤ 1006)
unfolding change_at change_image
change_takes key_width [] x narrow fits e = absurd cc
change_takes key_width (zero ∷ bytes) x narrow fits e =
    subst (λ (y : Option (List Value) × List ℕ). Takes (0 ∷ bytes) (change_image y.0) y.1 × IfSome y.0 (AllByRecursion IsTyped) × (key_width + width_of_change y.0 ≤ 1006)) (ok_is (None, bytes) x e)
    (record { parts = refl; rest_fits = IsBytes-rest 0 bytes fits }, tt, omega arith)
change_takes key_width (suc zero ∷ bytes) x narrow fits e =
    let b = bind_ok (row_at key_width bytes) (λ row. Ok (Some row.0, row.1)) x e in
    let t = row_takes key_width bytes b.0 (IsBytes-rest 1 bytes fits) b.1 in
    subst (λ (y : Option (List Value) × List ℕ). Takes (1 ∷ bytes) (change_image y.0) y.1 × IfSome y.0 (AllByRecursion IsTyped) × (key_width + width_of_change y.0 ≤ 1006)) (ok_is (Some b.0.0, b.0.1) x b.2)
    (record { parts = ap (λ (w : List ℕ). 1 ∷ w) t.0.parts; rest_fits = t.0.rest_fits }, t.1, t.2)
change_takes key_width (suc (suc flag) ∷ bytes) x narrow fits e = absurd cc

pub change_again : (key_width : ℕ) (row : Option (List Value)) (rest : List ℕ) → key_width + width_of_change row ≤ 1006 → IfSome row (AllByRecursion IsTyped) → change_at key_width (change_image row ++ rest) ≡ Ok (row, rest)
unfolding change_at change_image
change_again key_width None rest narrow typed = refl
change_again key_width (Some row) rest narrow typed = rw (row_again key_width row rest narrow typed) refl
