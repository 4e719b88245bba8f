-- Sums, one number after another.
use Rattle.std.proofs.Common.{◌≡◌, ℕ, ◌+◌, ◌<◌, ℤ, ◌+ℤ◌, Bool, false, ◌||◌, List, [], ◌∷◌, length, drop, get_or, map, refl, ap, ◌∙◌, arith}
use Rattle.std.specs.List.{list_any}
use Rattle.std.proofs.lemmas.Int.{ints}
use Rattle.odb_values.specs.declared.value.Value.{Value}
use Rattle.odb_values.specs.Value.{is_null}
use Rattle.odb_model.specs.Sums.{int_sum}
use Rattle.odb_plain.proofs.Items.{drop-item}

-- with a number more
pub sum-more : {X : Type 0} (f : X → ℤ) (xs : List X) (i : ℕ) (x : X) (sum total : ℤ) → i < length xs → x ≡ get_or xs i x
    → sum +ℤ int_sum (map f (drop i xs)) ≡ total → (sum +ℤ f x) +ℤ int_sum (map f (drop (i + 1) xs)) ≡ total
sum-more f xs i x sum total within is so =
    let next : int_sum (map f (drop i xs)) ≡ f x +ℤ int_sum (map f (drop (i + 1) xs)) = ap (λ ys. int_sum (map f ys)) (drop-item xs i x within is) in
    omega (arith, ints, next, so)

-- whether one of some is Null
pub any-null : {X Y : Type 0} (f : Y → Value) (g : X → Y) (xs : List X) → list_any (λ x. is_null (f (g x))) xs ≡ list_any is_null (map f (map g xs))
any-null f g [] = refl
any-null f g (x ∷ xs) = ap (λ b. is_null (f (g x)) || b) (any-null f g xs)
