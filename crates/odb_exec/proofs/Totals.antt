-- Sums with one value more.
use Rattle.std.proofs.Common.{◌≡◌, ℤ, pos, ◌+ℤ◌, Bool, true, false, ◌&&◌, ◌||◌, not, List, [], ◌∷◌, ◌++◌, map, refl, sym, ap, ◌∙◌, arith}
use Rattle.std.specs.List.{list_all}
use Rattle.std.proofs.lemmas.Int.{ints}
use Rattle.std.proofs.Math.IntN.{+ℤ_assoc}
use Rattle.odb_values.specs.declared.value.Value.{Value}
use Rattle.odb_values.specs.Value.{is_null}
use Rattle.odb_model.specs.Sums.{number_of, int_sum}
use Rattle.odb_exec.specs.declared.total.Total.{Total}
use Rattle.odb_exec.specs.Total.{IsTotalOf}

first_turned : (a b : ℤ) → a +ℤ b ≡ b +ℤ a
first_turned a b = omega (arith, ints)

-- a sum with a value more
sum-more : (values : List Value) (v : Value) → int_sum (map number_of (values ++ v ∷ [])) ≡ int_sum (map number_of values) +ℤ number_of v
sum-more [] v = first_turned (number_of v) (pos 0)
sum-more (x ∷ xs) v = ap (λ n. number_of x +ℤ n) (sum-more xs v) ∙ sym (+ℤ_assoc (number_of x) (int_sum (map number_of xs)) (number_of v))

both : (a b c : Bool) → (a && (b && c)) ≡ ((a && b) && c)
both true b c = refl
both false b c = refl

with_true : (a : Bool) → (a && true) ≡ a
with_true true = refl
with_true false = refl

nulls-more : (values : List Value) (v : Value) → list_all is_null (values ++ v ∷ []) ≡ (list_all is_null values && is_null v)
nulls-more [] v = with_true (is_null v)
nulls-more (x ∷ xs) v = ap (λ b. is_null x && b) (nulls-more xs v) ∙ both (is_null x) (list_all is_null xs) (is_null v)

not_both : (a b : Bool) → (not a || not b) ≡ not (a && b)
not_both true b = refl
not_both false b = refl

pub total-more : (values : List Value) (t : Total) (v : Value) (sum : ℤ) (some : Bool) → IsTotalOf values t
    → sum ≡ t.sum +ℤ number_of v → some ≡ (t.some || not (is_null v)) → IsTotalOf (values ++ v ∷ []) (record { sum = sum; some = some })
total-more values t v sum some is e f = record {
  sum = e ∙ ap (λ n. n +ℤ number_of v) is.sum ∙ sym (sum-more values v);
  some = f ∙ ap (λ b. b || not (is_null v)) is.some ∙ not_both (list_all is_null values) (is_null v) ∙ ap not (sym (nulls-more values v));
}
