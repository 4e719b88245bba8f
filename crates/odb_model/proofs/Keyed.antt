-- Where the columns of a table's key stand.
use Rattle.std.proofs.Common.{◌≡◌, ℕ, zero, suc, ◌+◌, ◌<◌, ◌≤◌, Bool, true, false, ◌&&◌, ◌==◌, cond, List, [], ◌∷◌, map, length, codes, refl, sym, ap, subst, ◌∙◌, pos, Option, Some, None, option_map, slice_get, unwrap_or, is_some, eq-eqb, add-zero, add-one, arith, nat_lt, nat_le, lit<, lit≤, get_or}
use Rattle.std.specs.Option.{option_map_or, option_and_then}
use Rattle.std.specs.List.{filter_map, cons_option, range_with_len, list_all}
use Rattle.std.specs.FinMap.{get}
use Rattle.std.proofs.lemmas.Bool.Decides.{nat_tests}
use Rattle.std.proofs.lemmas.Option.{unwrap_or-slice_get, slice_get_within, slice_get-get_or, get_or_from_slice_get}
use Rattle.std.proofs.lemmas.List.{length-map}
use Rattle.std.proofs.lemmas.List.Elements.{All-nil, All-cons, All-get_or, All-from_get_or}
use Rattle.std.proofs.lemmas.List.FromFn.{get_or-map-range_with_len}
use Rattle.odb_values.specs.declared.value.Value.{Value}
use Rattle.odb_values.specs.declared.value.Value.TheVariants.{Null, Int}
use Rattle.odb_model.specs.State.{State}
use Rattle.odb_model.specs.Table.{Table, IsTable, kv, is_named, value_at, place_in, places_outside, stored_value, in_columns}
use Rattle.odb_model.specs.Dictionary.{Described, table_of, table_in_row, table_by, are_columns, is_key, key_length, key_in, columns_in, in_dictionary, has_name_form}
use Rattle.odb_model.proofs.Covering.{and_true, same_number}
use Rattle.odb_model.proofs.Keys.{length-filter-le}

-- a column of the key stands in the table, and its place in the key is the first one of it there
abbrev pub IsPlaced : Table → Type 0
IsPlaced t = (n place : ℕ) → slice_get t.key n ≡ Some place → (place < length t.columns) × (place_in t.key place ≡ Some n)

some_one : (a b : ℕ) → Some a ≡ Some b → a ≡ b
some_one a b e = ap (λ o. unwrap_or o a) e

-- the place behind the first one of a list
later : (m : ℕ) (ns : List ℕ) (n place : ℕ) (o : Option ℕ) → ((p : ℕ) → o ≡ Some p → slice_get ns p ≡ Some n) → option_map (λ p. p + 1) o ≡ Some place → slice_get (m ∷ ns) place ≡ Some n
later m ns n place None at found = cc
later m ns n place (Some p) at found =
    subst (λ (q : ℕ). slice_get (m ∷ ns) q ≡ Some n) (sym (add-one p) ∙ some_one (p + 1) place found) (at p refl)

-- the number at the place of a number is that number
at_place : (ns : List ℕ) (n place : ℕ) → place_in ns n ≡ Some place → slice_get ns place ≡ Some n
at_place [] n place e = cc
at_place (m ∷ ns) n place e =
    elim (m == n) as (λ b. (m == n) ≡ b → cond b (Some 0) (option_map (λ p. p + 1) (place_in ns n)) ≡ Some place → slice_get (m ∷ ns) place ≡ Some n) [
      | true ↦ λ same found. subst (λ (p : ℕ). slice_get (m ∷ ns) p ≡ Some n) (some_one 0 place found) (ap Some (same_number m n same))
      | false ↦ λ other found. later m ns n place (place_in ns n) (λ p. at_place ns n p) found
    ] refl e

-- two numbers don't have one place
one_place : (ns : List ℕ) (m n place : ℕ) → place_in ns m ≡ Some place → place_in ns n ≡ Some place → m ≡ n
one_place ns m n place p q = some_one m n (sym (at_place ns m place p) ∙ at_place ns n place q)

module _ (f : ℕ → Option ℕ) where
  abbrev found_from : ℕ → ℕ → List ℕ
  found_from a k = filter_map f (range_with_len a k)

  -- where each is found, the j-th is that of a + j
  found_at : (k a j i : ℕ) → list_all (λ n. is_some (f n)) (range_with_len a k) ≡ true → slice_get (found_from a k) j ≡ Some i → f (a + j) ≡ Some i
  found_at zero a j i all e = cc
  found_at (suc k) a j i all e =
      elim (f a) as (λ o. f a ≡ o → (is_some o && list_all (λ n. is_some (f n)) (range_with_len (a + 1) k)) ≡ true → slice_get (cons_option o (found_from (a + 1) k)) j ≡ Some i → f (a + j) ≡ Some i) [
        | None ↦ λ is none found. cc
        | Some x ↦ λ is some found. at x is j found (λ n there. found_at k (a + 1) n i (and_true true _ some).1 there)
      ] refl all e
    where
      at : (x : ℕ) → f a ≡ Some x → (j : ℕ) → slice_get (x ∷ found_from (a + 1) k) j ≡ Some i → ((n : ℕ) → slice_get (found_from (a + 1) k) n ≡ Some i → f (a + 1 + n) ≡ Some i) → f (a + j) ≡ Some i
      at x is zero found more = ap f (add-zero a) ∙ is ∙ found
      at x is (suc n) found more = let same : a + suc n ≡ a + 1 + n = omega arith in ap f same ∙ more n found

  -- as many are found as are looked for
  length_found : (k a : ℕ) → list_all (λ n. is_some (f n)) (range_with_len a k) ≡ true → length (found_from a k) ≡ k
  length_found zero a all = refl
  length_found (suc k) a all =
      elim (f a) as (λ o. (is_some o && list_all (λ n. is_some (f n)) (range_with_len (a + 1) k)) ≡ true → length (cons_option o (found_from (a + 1) k)) ≡ suc k) [
        | None ↦ λ none. cc
        | Some x ↦ λ some. ap suc (length_found k (a + 1) (and_true true _ some).1)
      ] all

  module _ (apart : (m n i : ℕ) → f m ≡ Some i → f n ≡ Some i → m ≡ n) where
    -- and the first place of what is found is that
    place_of_found : (k a j i : ℕ) → list_all (λ n. is_some (f n)) (range_with_len a k) ≡ true → slice_get (found_from a k) j ≡ Some i → place_in (found_from a k) i ≡ Some j
    place_of_found zero a j i all e = cc
    place_of_found (suc k) a j i all e =
        elim (f a) as (λ o. f a ≡ o → (is_some o && list_all (λ n. is_some (f n)) (range_with_len (a + 1) k)) ≡ true → slice_get (cons_option o (found_from (a + 1) k)) j ≡ Some i → place_in (cons_option o (found_from (a + 1) k)) i ≡ Some j) [
          | None ↦ λ is none found. cc
          | Some x ↦ λ is some found. at x is j found (λ n there. found_at k (a + 1) n i (and_true true _ some).1 there) (λ n there. place_of_found k (a + 1) n i (and_true true _ some).1 there)
        ] refl all e
      where
        at : (x : ℕ) → f a ≡ Some x → (j : ℕ) → slice_get (x ∷ found_from (a + 1) k) j ≡ Some i → ((n : ℕ) → slice_get (found_from (a + 1) k) n ≡ Some i → f (a + 1 + n) ≡ Some i)
            → ((n : ℕ) → slice_get (found_from (a + 1) k) n ≡ Some i → place_in (found_from (a + 1) k) i ≡ Some n) → place_in (x ∷ found_from (a + 1) k) i ≡ Some j
        at x is zero found more rest = ap (λ b. cond b (Some 0) (option_map (λ p. p + 1) (place_in (found_from (a + 1) k) i))) (eq-eqb x i (some_one x i found))
        at x is (suc n) found more rest =
            elim (x == i) as (λ b. (x == i) ≡ b → cond b (Some 0) (option_map (λ p. p + 1) (place_in (found_from (a + 1) k) i)) ≡ Some (suc n)) [
              | true ↦ λ same. let one : a ≡ a + 1 + n = apart a (a + 1 + n) i (is ∙ ap Some (same_number x i same)) (more n found) in absurd (omega arith)
              | false ↦ λ other. ap (option_map (λ p. p + 1)) (rest n found) ∙ ap Some (add-one n)
            ] refl

-- the key of columns with these places in it has each of its columns once
key_in-keyed : (ns : List ℕ) → is_key ns ≡ true → (n place : ℕ) → slice_get (key_in ns) n ≡ Some place → (place < length ns) × (place_in (key_in ns) place ≡ Some n)
key_in-keyed ns form n place e =
    let all : list_all (λ m. is_some (place_in ns m)) (range_with_len 1 (key_length ns)) ≡ true = (and_true (nat_lt 0 (key_length ns)) _ form).1 in (
      slice_get_within ns place (1 + n) (at_place ns (1 + n) place (found_at (place_in ns) (key_length ns) 1 n place all e)),
      place_of_found (place_in ns) (one_place ns) (key_length ns) 1 n place all e,
    )

at_most : (a b : ℕ) → nat_le a b ≡ true → a ≤ b
at_most a b e = grind (arith, nat_tests)

below : (a b : ℕ) → nat_lt a b ≡ true → a < b
below a b e = grind (arith, nat_tests)

then_some : {A : Type 0} (b : Bool) (x y : A) → cond b (Some x) None ≡ Some y → (b ≡ true) × (x ≡ y)
then_some true x y e = (refl, ap (λ o. unwrap_or o x) e)
then_some false x y e = cc

-- the columns of a table that a row tells of
pub table_by-is : (number bank count : ℕ) (columns : List Described) (t : Table) → table_by number bank count columns ≡ Some t → IsTable t
table_by-is number bank count columns t e =
    let form = then_some _ _ _ e in
    let ns : List ℕ = map (λ d. d.key_place) columns in
    let are = (and_true _ (are_columns columns) form.0).1 in
    let key : is_key ns ≡ true = (and_true _ (is_key ns) are).1 in
    let short : nat_le (length columns) 15 ≡ true = (and_true _ _ (and_true _ _ (and_true _ (is_key ns) are).0).0).1 in
    let several = and_true (nat_lt 0 (key_length ns)) _ key in
    let count_is : length (key_in ns) ≡ key_length ns = length_found (place_in ns) (key_length ns) 1 several.1 in
    let fewer : key_length ns ≤ length ns = length-filter-le (nat_lt 0) ns in
    let within : length columns ≤ 15 = at_most _ 15 short in
    let above : 0 < key_length ns = below 0 (key_length ns) several.0 in
    subst IsTable form.1 (record {
      narrow = omega (arith, within, length-map columns (λ d. d.column));
      some = omega (arith, above, count_is);
      few = omega (arith, within, fewer, count_is, length-map columns (λ d. d.key_place));
      inside = All-from_get_or (λ place. place < length (map (λ d. d.column) columns)) (key_in ns) 0 (λ i inside.
          let there = key_in-keyed ns key i (get_or (key_in ns) i 0) (slice_get-get_or (key_in ns) i 0 inside) in
          omega (arith, there.0, length-map columns (λ d. d.key_place), length-map columns (λ d. d.column)));
      once = λ m n place a b. some_one m n (sym (key_in-keyed ns key m place a).1 ∙ (key_in-keyed ns key n place b).1);
    })

columns-is : (number bank count : ℕ) (o : Option (List Described)) (t : Table) → option_and_then (table_by number bank count) o ≡ Some t → IsTable t
columns-is number bank count None t e = cc
columns-is number bank count (Some columns) t e = table_by-is number bank count columns t e

pub row-is : (row : List Value) (t : Table) → table_in_row row ≡ Some t → IsTable t
row-is (Int (pos number) ∷ Int (pos bank) ∷ Int (pos count) ∷ columns) t e = columns-is number bank count (columns_in columns) t e
row-is other t e = cc

stored-is : (o : Option (List Value)) (t : Table) → option_and_then table_in_row o ≡ Some t → IsTable t
stored-is None t e = cc
stored-is (Some row) t e = row-is row t e

only_first : (n place : ℕ) → slice_get (0 ∷ []) n ≡ Some place → n ≡ 0
only_first zero place e = refl
only_first (suc n) place e = cc

pub kv-is : IsTable kv
kv-is = record {
  narrow = lit≤ tt;
  some = lit< tt;
  few = lit≤ tt;
  inside = All-cons (λ place. place < 2) 0 [] (lit< tt) (All-nil (λ place. place < 2));
  once = λ m n place a b. only_first m place a ∙ sym (only_first n place b);
}

-- so is each table that a dictionary tells of
pub table-is : (s : State) (name : List ℕ) (t : Table) → table_of s name ≡ Some t → IsTable t
table-is s name t e =
    elim (is_named name (codes "KV")) as (λ b. cond b (Some kv) (cond (has_name_form name) (option_and_then table_in_row (get s (in_dictionary name))) None) ≡ Some t → IsTable t) [
      | true ↦ λ same. subst IsTable (then_some true kv t same).1 kv-is
      | false ↦ elim (has_name_form name) as (λ c. cond c (option_and_then table_in_row (get s (in_dictionary name))) None ≡ Some t → IsTable t) [
        | true ↦ λ stored. stored-is (get s (in_dictionary name)) t stored
        | false ↦ λ none. cc
      ]
    ] e

true_not_false : true ≡ false → ⊥
true_not_false e = cc

-- a number is found in a list where it is the first one, or found behind it
abbrev IsFound : List ℕ → ℕ → Type 0
IsFound ns n = (k : ℕ) × (place_in ns n ≡ Some k)

found_behind : (m : ℕ) (ns : List ℕ) (n i : ℕ) → ((j : ℕ) → slice_get ns j ≡ Some n → IsFound ns n) → (m == n) ≡ false → slice_get (m ∷ ns) i ≡ Some n
    → (k : ℕ) × (option_map (λ p. p + 1) (place_in ns n) ≡ Some k)
found_behind m ns n zero rest other found = absurd (true_not_false (sym (eq-eqb m n (some_one m n found)) ∙ other))
found_behind m ns n (suc j) rest other found = let there = rest j found in (there.0 + 1, ap (option_map (λ p. p + 1)) there.1)

-- a number of a list is found there
is_found : (ns : List ℕ) (i n : ℕ) → slice_get ns i ≡ Some n → IsFound ns n
is_found [] i n e = cc
is_found (m ∷ ns) i n e =
    elim (m == n) as (λ b. (m == n) ≡ b → (k : ℕ) × (cond b (Some 0) (option_map (λ p. p + 1) (place_in ns n)) ≡ Some k)) [
      | true ↦ λ same. (0, refl)
      | false ↦ λ other. found_behind m ns n i (λ j. is_found ns j n) other e
    ] refl

-- the columns of a table's key are placed
pub placed : (t : Table) → IsTable t → IsPlaced t
placed t is n place e =
    let there = is_found t.key n place e in
    let within : n < length t.key = slice_get_within t.key n place e in
    let column : get_or t.key n 0 < length t.columns = All-get_or (λ p. p < length t.columns) t.key n 0 within is.inside in (
      subst (λ (p : ℕ). p < length t.columns) (get_or_from_slice_get t.key n place 0 e) column,
      there.1 ∙ ap Some (is.once there.0 n place (at_place t.key place there.0 there.1) e),
    )

-- so they are in each table that a dictionary tells of
pub table-placed : (s : State) (name : List ℕ) (t : Table) → table_of s name ≡ Some t → IsPlaced t
table-placed s name t e = placed t (table-is s name t e)

module _ (t : Table) (keyed : IsPlaced t) (key row : List Value) where
  -- a column of the key has its value from the key
  pub value_at-in_columns : (n place : ℕ) → slice_get t.key n ≡ Some place → value_at (in_columns t key row) place ≡ value_at key n
  value_at-in_columns n place e =
      let there = keyed n place e in
      let at : 0 + place ≡ place = omega arith in
      unwrap_or-slice_get (in_columns t key row) place Null
      ∙ get_or-map-range_with_len (stored_value t key row) 0 (length t.columns) place place Null there.0 at
      ∙ ap (λ o. option_map_or (value_at key) o (option_map_or (value_at row) (place_in (places_outside t) place) Null)) there.1
