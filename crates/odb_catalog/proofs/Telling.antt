-- The row that a CREATE TABLE writes tells of the table that it asks for.
use Rattle.std.proofs.Common.{◌≡◌, ℕ, zero, suc, ◌+◌, ◌<◌, ◌≤◌, Bool, true, false, ◌&&◌, ◌||◌, ◌==◌, cond, nat_lt, nat_le, List, [], ◌∷◌, length, map, refl, sym, ap, subst, ◌∙◌, Option, Some, None, is_some, option_map, slice_get, arith, eq-eqb}
use Rattle.std.specs.List.{filter, list_any, list_all, filter_map, flat_map, range_with_len, cons_option}
use Rattle.std.specs.Option.{option_and_then}
use Rattle.std.proofs.lemmas.Bool.Decides.{nat_tests}
use Rattle.std.proofs.lemmas.List.{length-map}
use Rattle.odb_model.specs.declared.statement.ColumnText.{ColumnText}
use Rattle.odb_model.specs.Table.{is_named, column_place, place_in}
use Rattle.odb_model.specs.Dictionary.{Described, described, has_name_form, names_differ, key_length, is_key, key_in, are_columns, columns_in, table_by, table_in_row, is_number_from}
use Rattle.odb_model.specs.Definitions.{text_names, is_among, is_out_of_range, asked_kind, key_place, column_values, table_row, asked_columns, asked_table}
use Rattle.odb_model.proofs.Covering.{and_true, both_true}
use Rattle.odb_catalog.proofs.Names.{place_tells, in_key, passing_all}

-- a column as its values in the row tell it
abbrev told_column : List (List ℕ) → ColumnText → Described
told_column key c = described c.name (asked_kind c.length) (cond c.not_null 1 0) (key_place key c.name)

kind_within : (length : Option ℕ) → is_out_of_range length ≡ false → nat_le (asked_kind length) 200 ≡ true
kind_within None e = refl
kind_within (Some n) e = by n e
  where
    by : (n : ℕ) → (nat_lt n 1 || nat_lt 200 n) ≡ false → nat_le n 200 ≡ true
    by n e = grind (arith, nat_tests)

flag_within : (b : Bool) → nat_le (cond b 1 0) 1 ≡ true
flag_within true = refl
flag_within false = refl

abbrev pub HaveForms : List ColumnText → Type 0
HaveForms [] = Unit {0}
HaveForms (c ∷ columns) = (has_name_form c.name ≡ true) × HaveForms columns

or_false : (a b : Bool) → (a || b) ≡ false → (a ≡ false) × (b ≡ false)
or_false true b e = cc
or_false false b e = (refl, e)

-- the values of the columns tell of them
columns_told : (key : List (List ℕ)) (columns : List ColumnText) → HaveForms columns → list_any (λ c. is_out_of_range c.length) columns ≡ false
    → columns_in (flat_map (column_values key) columns) ≡ Some (map (told_column key) columns)
columns_told key [] forms ranges = refl
columns_told key (c ∷ columns) forms ranges =
    let parts = or_false (is_out_of_range c.length) (list_any (λ d. is_out_of_range d.length) columns) ranges in
    let lawful : (has_name_form c.name && nat_le (asked_kind c.length) 200 && nat_le (cond c.not_null 1 0) 1) ≡ true =
    both_true (has_name_form c.name && nat_le (asked_kind c.length) 200) (nat_le (cond c.not_null 1 0) 1)
    (both_true (has_name_form c.name) (nat_le (asked_kind c.length) 200) forms.0 (kind_within c.length parts.0)) (flag_within c.not_null) in
    ap (λ b. cond b (option_map (λ more. told_column key c ∷ more) (columns_in (flat_map (column_values key) columns))) None) lawful
    ∙ ap (option_map (λ more. told_column key c ∷ more)) (columns_told key columns forms.1 parts.1)

names_told : (key : List (List ℕ)) (columns : List ColumnText) → map (λ d. d.column.name) (map (told_column key) columns) ≡ text_names columns
names_told key [] = refl
names_told key (c ∷ columns) = ap (λ ns. c.name ∷ ns) (names_told key columns)

must_told : (b : Bool) → (cond b 1 0 == 1) ≡ b
must_told true = refl
must_told false = refl

columns_asked : (key : List (List ℕ)) (columns : List ColumnText) → map (λ d. d.column) (map (told_column key) columns) ≡ asked_columns key columns
columns_asked key [] = refl
columns_asked key (c ∷ columns) =
    let must : ((cond c.not_null 1 0 == 1) || nat_lt 0 (key_place key c.name)) ≡ (c.not_null || is_among key c.name) =
    ap (λ b. b || nat_lt 0 (key_place key c.name)) (must_told c.not_null) ∙ ap (λ b. c.not_null || b) (in_key key c.name) in
    (λ i. record { name = c.name; kind = asked_kind c.length; not_null = must i } ∷ columns_asked key columns i)

-- the places in the key
abbrev places : List (List ℕ) → List ColumnText → List ℕ
places key columns = map (λ d. d.key_place) (map (told_column key) columns)

key_counted : (key : List (List ℕ)) (columns : List ColumnText) → key_length (places key columns) ≡ length (filter (is_among key) (text_names columns))
key_counted key [] = refl
key_counted key (c ∷ columns) =
    let rest = key_counted key columns in
    ap (λ b. length (cond b (key_place key c.name ∷ filter (nat_lt 0) (places key columns)) (filter (nat_lt 0) (places key columns)))) (in_key key c.name)
    ∙ by (is_among key c.name) rest
  where
    by : (b : Bool) → key_length (places key columns) ≡ length (filter (is_among key) (text_names columns))
        → length (cond b (key_place key c.name ∷ filter (nat_lt 0) (places key columns)) (filter (nat_lt 0) (places key columns)))
        ≡ length (cond b (c.name ∷ filter (is_among key) (text_names columns)) (filter (is_among key) (text_names columns)))
    by true rest = omega (arith, rest)
    by false rest = rest

-- the column of a place in the key is the one of the name there
place_same : (key : List (List ℕ)) (columns : List ColumnText) (k : List ℕ) (j : ℕ) → names_differ key ≡ true → slice_get key j ≡ Some k
    → place_in (places key columns) (j + 1) ≡ column_place (asked_columns key columns) k
place_same key [] k j differ at = refl
place_same key (c ∷ columns) k j differ at =
    ap (λ b. cond b (Some 0) (option_map (λ place. place + 1) (place_in (places key columns) (j + 1)))) (place_tells key k c.name j differ at)
    ∙ ap (λ o. cond (is_named k c.name) (Some 0) (option_map (λ place. place + 1) o)) (place_same key columns k j differ at)

some_more : (o : Option ℕ) → is_some o ≡ true → is_some (option_map (λ place. place + 1) o) ≡ true
some_more None e = e
some_more (Some p) e = refl

column_found : (key : List (List ℕ)) (columns : List ColumnText) (k : List ℕ) → is_among (text_names columns) k ≡ true → is_some (column_place (asked_columns key columns) k) ≡ true
column_found key [] k among = cc
column_found key (c ∷ columns) k among =
    elim (is_named k c.name) as (λ b. (b || is_among (text_names columns) k) ≡ true → is_some (cond b (Some 0) (option_map (λ place. place + 1) (column_place (asked_columns key columns) k))) ≡ true) [
      | true ↦ λ e. refl
      | false ↦ λ e. some_more (column_place (asked_columns key columns) k) (column_found key columns k e)
    ] among

-- what holds at each name and its number holds along both
all_along : (g : ℕ → Bool) (a : ℕ) (ks : List (List ℕ)) → ((i : ℕ) (k : List ℕ) → slice_get ks i ≡ Some k → g (i + a) ≡ true) → list_all g (range_with_len a (length ks)) ≡ true
all_along g a [] each = refl
all_along g a (k ∷ ks) each =
    both_true (g a) (list_all g (range_with_len (a + 1) (length ks))) (let none : 0 + a ≡ a = omega arith in subst (λ n. g n ≡ true) none (each 0 k refl))
    (all_along g (a + 1) ks (λ i x at. let same : suc i + a ≡ i + (a + 1) = omega arith in subst (λ n. g n ≡ true) same (each (suc i) x at)))

map_along : (g : ℕ → Option ℕ) (h : List ℕ → Option ℕ) (a : ℕ) (ks : List (List ℕ)) → ((i : ℕ) (k : List ℕ) → slice_get ks i ≡ Some k → g (i + a) ≡ h k)
    → filter_map g (range_with_len a (length ks)) ≡ filter_map h ks
map_along g h a [] each = refl
map_along g h a (k ∷ ks) each =
    ap (λ o. cons_option o (filter_map g (range_with_len (a + 1) (length ks)))) (let none : 0 + a ≡ a = omega arith in subst (λ n. g n ≡ h k) none (each 0 k refl))
    ∙ ap (cons_option (h k)) (map_along g h (a + 1) ks (λ i x at. let same : suc i + a ≡ i + (a + 1) = omega arith in subst (λ n. g n ≡ h x) same (each (suc i) x at)))

among_each : (names key : List (List ℕ)) (i : ℕ) (k : List ℕ) → list_all (is_among names) key ≡ true → slice_get key i ≡ Some k → is_among names k ≡ true
among_each names [] i k all at = cc
among_each names (x ∷ key) zero k all at = subst (λ (n : List ℕ). is_among names n ≡ true) (let same : x ≡ k = cc in same) (and_true (is_among names x) (list_all (is_among names) key) all).0
among_each names (x ∷ key) (suc i) k all at = among_each names key i k (and_true (is_among names x) (list_all (is_among names) key) all).1 at

-- a CREATE TABLE that nothing refuses, with names in their form
pub record IsRight (columns : List ColumnText) (key : List (List ℕ)) : Type 0 where
  pub forms : HaveForms columns
  pub some : 0 < length key
  pub named : names_differ (text_names columns) ≡ true
  pub few : length columns ≤ 15
  pub once : names_differ key ≡ true
  pub ranges : list_any (λ c. is_out_of_range c.length) columns ≡ false
  pub there : list_all (is_among (text_names columns)) key ≡ true

module _ (columns : List ColumnText) (key : List (List ℕ)) (right : IsRight columns key) where
  counted : key_length (places key columns) ≡ length key
  counted = key_counted key columns ∙ passing_all (text_names columns) key right.named right.once right.there

  some_columns : 1 ≤ length columns
  some_columns = by columns key right.some right.there
    where
      by : (cs : List ColumnText) (ks : List (List ℕ)) → 0 < length ks → list_all (is_among (text_names cs)) ks ≡ true → 1 ≤ length cs
      by [] [] some there = absurd (omega arith)
      by [] (k ∷ ks) some there = cc
      by (c ∷ cs) ks some there = omega arith

  is_placed : is_key (places key columns) ≡ true
  is_placed =
      let positive : nat_lt 0 (length key) ≡ true = by (length key) right.some in
      ap (λ n. nat_lt 0 n && list_all (λ m. is_some (place_in (places key columns) m)) (range_with_len 1 n)) counted
      ∙ both_true (nat_lt 0 (length key)) (list_all (λ m. is_some (place_in (places key columns) m)) (range_with_len 1 (length key))) positive
      (all_along (λ m. is_some (place_in (places key columns) m)) 1 key
      (λ i k at. ap is_some (place_same key columns k i right.once at) ∙ column_found key columns k (among_each (text_names columns) key i k right.there at)))
    where
      by : (n : ℕ) → 0 < n → nat_lt 0 n ≡ true
      by n h = grind (arith, nat_tests)

  key_told : key_in (places key columns) ≡ filter_map (column_place (asked_columns key columns)) key
  key_told =
      ap (λ n. filter_map (place_in (places key columns)) (range_with_len 1 n)) counted
      ∙ map_along (place_in (places key columns)) (column_place (asked_columns key columns)) 1 key (λ i k at. place_same key columns k i right.once at)

  lawful : are_columns (map (told_column key) columns) ≡ true
  lawful =
      let size : length (map (told_column key) columns) ≡ length columns = length-map columns (told_column key) in
      let named : names_differ (map (λ d. d.column.name) (map (told_column key) columns)) ≡ true = ap names_differ (names_told key columns) ∙ right.named in
      both_true _ _ (both_true _ _ (both_true _ _ (least (length (map (told_column key) columns)) (omega (arith, size, some_columns))) (most (length (map (told_column key) columns)) (omega (arith, size, right.few)))) named) is_placed
    where
      least : (n : ℕ) → 1 ≤ n → nat_le 1 n ≡ true
      least n h = grind (arith, nat_tests)

      most : (n : ℕ) → n ≤ 15 → nat_le n 15 ≡ true
      most n h = grind (arith, nat_tests)

  -- the row tells of the table
  pub row_tells : (number bank : ℕ) → is_number_from 16 number ≡ true → is_number_from 2 bank ≡ true → table_in_row (table_row number bank columns key) ≡ Some (asked_table number bank columns key)
  row_tells number bank above high =
      let size : (length columns == length (map (told_column key) columns)) ≡ true = eq-eqb _ _ (sym (length-map columns (told_column key))) in
      ap (option_and_then (table_by number bank (length columns))) (columns_told key columns right.forms right.ranges)
      ∙ ap (λ b. cond b (Some (record {
        number = number;
        bank = bank;
        columns = map (λ d. d.column) (map (told_column key) columns);
        key = key_in (places key columns);
      })) None) (both_true _ _ (both_true _ _ (both_true _ _ above high) size) lawful)
      ∙ (λ i. Some (record { number = number; bank = bank; columns = columns_asked key columns i; key = key_told i }))
