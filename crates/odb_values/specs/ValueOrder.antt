-- The order of values is total, and only equal values tie.
use Rattle.std.proofs.Common.{◌≡◌, ℕ, ℤ, pos, List, [], refl, sym, ap, subst}
use Rattle.std.specs.declared.cmp.Ordering.{Ordering}
use Rattle.std.specs.declared.cmp.Ordering.TheVariants.{Less, Equal, Greater}
use Rattle.std.specs.Ordering.{nat_cmp, int_cmp, on, then_cmp, ordering_then}
use Rattle.std.specs.Cmp.{IsTotalOrder}
use Rattle.std.specs.Cmp.Lexicographic.{slice_cmp}
use Rattle.std.specs.FinMap.{IsAntisymmetric, nat_cmp-IsAntisymmetric, int_cmp-IsAntisymmetric, slice_cmp-IsAntisymmetric}
use Rattle.std.proofs.lemmas.Cmp.{nat_cmp_total, int_cmp_total, nat_list_cmp_total, lists_total, on_total, then_total}
use Rattle.odb_values.specs.declared.value.Value.{Value}
use Rattle.odb_values.specs.declared.value.Value.TheVariants.{Null, Int, Text}
use Rattle.odb_values.specs.Value.{value_cmp, values_cmp}

-- the kinds of values in their order
abbrev kind_of : Value → ℕ
kind_of Null = 0
kind_of (Int n) = 1
kind_of (Text t) = 2

-- the number of a value, where it is one
abbrev number_of : Value → ℤ
number_of Null = pos 0
number_of (Int n) = n
number_of (Text t) = pos 0

-- the bytes of a value, where it is a text
abbrev text_of : Value → List ℕ
text_of Null = []
text_of (Int n) = []
text_of (Text t) = t

-- the order of values again, by three parts that each value has: kind, then number, then text
abbrev by_parts : Value → Value → Ordering
by_parts =
    then_cmp (on kind_of nat_cmp)
    (then_cmp (on number_of int_cmp) (on text_of (slice_cmp nat_cmp)))

by_parts_total : IsTotalOrder by_parts
by_parts_total =
    then_total (on_total kind_of nat_cmp_total)
    (then_total (on_total number_of int_cmp_total) (on_total text_of nat_list_cmp_total))

then_equal : (o : Ordering) → ordering_then o Equal ≡ o
then_equal Less = refl
then_equal Equal = refl
then_equal Greater = refl

same_by_parts : (a b : Value) → by_parts a b ≡ value_cmp a b
same_by_parts Null Null = refl
same_by_parts Null (Int b) = refl
same_by_parts Null (Text b) = refl
same_by_parts (Int a) Null = refl
same_by_parts (Int a) (Int b) = then_equal (int_cmp a b)
same_by_parts (Int a) (Text b) = refl
same_by_parts (Text a) Null = refl
same_by_parts (Text a) (Int b) = refl
same_by_parts (Text a) (Text b) = refl

same_order : by_parts ≡ value_cmp
same_order = λ i a b. same_by_parts a b i

pub value_cmp_total : IsTotalOrder value_cmp
value_cmp_total = subst (λ (R : Value → Value → Ordering). IsTotalOrder R) same_order by_parts_total

-- what Equal has and the other answers lack
abbrev OnEqual : Ordering → Type 0
OnEqual Less = ⊥
OnEqual Equal = Unit {0}
OnEqual Greater = ⊥

less_is_not_equal : Less ≡ Equal → ⊥
less_is_not_equal e = subst OnEqual (sym e) tt

greater_is_not_equal : Greater ≡ Equal → ⊥
greater_is_not_equal e = subst OnEqual (sym e) tt

-- two values that tie are one
pub value_cmp_exact : IsAntisymmetric value_cmp
value_cmp_exact Null Null e = refl
value_cmp_exact Null (Int b) e = absurd (less_is_not_equal e)
value_cmp_exact Null (Text b) e = absurd (less_is_not_equal e)
value_cmp_exact (Int a) Null e = absurd (greater_is_not_equal e)
value_cmp_exact (Int a) (Int b) e = ap Int (int_cmp-IsAntisymmetric a b e)
value_cmp_exact (Int a) (Text b) e = absurd (less_is_not_equal e)
value_cmp_exact (Text a) Null e = absurd (greater_is_not_equal e)
value_cmp_exact (Text a) (Int b) e = absurd (greater_is_not_equal e)
value_cmp_exact (Text a) (Text b) e = ap Text (slice_cmp-IsAntisymmetric nat_cmp-IsAntisymmetric a b e)

pub values_cmp_total : IsTotalOrder values_cmp
values_cmp_total = lists_total value_cmp_total

-- two lists of values that tie are one
pub values_cmp_exact : IsAntisymmetric values_cmp
values_cmp_exact = slice_cmp-IsAntisymmetric value_cmp_exact
