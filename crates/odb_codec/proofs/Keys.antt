-- The test of a key.
use Rattle.std.proofs.Common.{◌≡◌, ℕ, ◌≤◌, true, leb, ◌&&◌, List, length, arith}
use Rattle.std.specs.Prelude.{not}
use Rattle.std.specs.Int.{is_in_range}
use Rattle.std.specs.List.{list_all}
use Rattle.std.proofs.lemmas.Bool.{and_parts, and_from, leb-true, le-leb}
use Rattle.odb_values.specs.declared.value.Value.{Value}
use Rattle.odb_values.specs.Value.{is_null}
use Rattle.odb_values.specs.Key.{IsKey, width_of_all}
use Rattle.odb_codec.specs.Reading.{is_key}

pub in_range : (low high n : ℕ) → is_in_range low high n ≡ true → (low ≤ n) × (n ≤ high)
in_range low high n h =
    let a = and_parts (leb low n) (leb n high) h in
    (leb-true low n a.0, leb-true n high a.1)

pub range_passes : (low high n : ℕ) → low ≤ n → n ≤ high → is_in_range low high n ≡ true
range_passes low high n p q = and_from (leb low n) (leb n high) (le-leb low n p) (le-leb n high q)

pub IsKey-from_test : (values : List Value) → is_key values ≡ true → IsKey values
unfolding is_key
IsKey-from_test values h =
    let a = and_parts (is_in_range 1 15 (length values) && list_all (λ v. not (is_null v)) values) (leb (width_of_all values) 256) h in
    let b = and_parts (is_in_range 1 15 (length values)) (list_all (λ v. not (is_null v)) values) a.0 in
    let count = in_range 1 15 (length values) b.0 in
    record { keyed = record { some = omega arith; few = count.1; full = b.1 }; narrow = leb-true (width_of_all values) 256 a.1 }

pub test_from-IsKey : (values : List Value) → IsKey values → is_key values ≡ true
unfolding is_key
test_from-IsKey values key =
    and_from (is_in_range 1 15 (length values) && list_all (λ v. not (is_null v)) values) (leb (width_of_all values) 256)
    (and_from (is_in_range 1 15 (length values)) (list_all (λ v. not (is_null v)) values) (range_passes 1 15 (length values) (omega (arith, key.keyed.some)) key.keyed.few) key.keyed.full)
    (le-leb (width_of_all values) 256 key.narrow)
