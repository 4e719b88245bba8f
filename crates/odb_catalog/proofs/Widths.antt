-- The writes of a definition can be stored as one entry.
use Rattle.std.proofs.Common.{◌≡◌, ℕ, suc, ◌+◌, ◌*◌, ◌≤◌, pos, Bool, true, false, nat_lt, ◌&&◌, cond, List, [], ◌∷◌, length, refl, ap, ◌∙◌, Some, None, codes, arith}
use Rattle.std.specs.List.{list_all, filter, flat_map}
use Rattle.std.specs.List.Sorted.{IsStrictlySortedBy}
use Rattle.std.proofs.lemmas.Bool.Decides.{nat_tests}
use Rattle.std.proofs.lemmas.List.Elements.{All-nil, All-cons}
use Rattle.std.proofs.lemmas.List.Sums.{sum_by-append, sum_by-cons}
use Rattle.odb_values.specs.declared.value.Value.{Value}
use Rattle.odb_values.specs.declared.value.Value.TheVariants.{Int, Text}
use Rattle.odb_values.specs.Value.{width_of}
use Rattle.odb_values.specs.Key.{width_of_all}
use Rattle.odb_model.specs.declared.statement.ColumnText.{ColumnText}
use Rattle.odb_model.specs.Dictionary.{is_capital, is_name_byte, has_name_form, names_differ}
use Rattle.odb_model.specs.Definitions.{text_names, is_among, asked_kind, key_place, column_values, table_row, creation_writes, dictionary_write, number_write}
use Rattle.odb_model.specs.Storable.{IsNarrow, IsStorableList}
use Rattle.odb_model.proofs.Covering.{and_true}
use Rattle.odb_catalog.proofs.Names.{passing_all}
use Rattle.odb_catalog.proofs.Telling.{HaveForms}

-- a name has at most 32 bytes
name_short : (name : List ℕ) → has_name_form name ≡ true → length name ≤ 32
name_short [] e = omega arith
name_short (b ∷ bytes) e = below (length bytes) (and_true (is_capital b && list_all is_name_byte bytes) (nat_lt (length bytes) 32) e).1
  where
    below : (n : ℕ) → nat_lt n 32 ≡ true → suc n ≤ 32
    below n e = grind (arith, nat_tests)

two_wide : (a b : Value) → width_of_all (a ∷ b ∷ []) ≡ width_of a + width_of b
two_wide a b = sum_by-cons width_of a (b ∷ []) ∙ ap (λ n. width_of a + n) (sum_by-cons width_of b []) ∙ omega arith

four_wide : (a b c d : Value) → width_of_all (a ∷ b ∷ c ∷ d ∷ []) ≡ width_of a + (width_of b + (width_of c + (width_of d + 0)))
four_wide a b c d =
    sum_by-cons width_of a (b ∷ c ∷ d ∷ [])
    ∙ ap (λ n. width_of a + n) (sum_by-cons width_of b (c ∷ d ∷ [])
    ∙ ap (λ n. width_of b + n) (sum_by-cons width_of c (d ∷ [])
    ∙ ap (λ n. width_of c + n) (sum_by-cons width_of d [])))

column_wide : (key : List (List ℕ)) (c : ColumnText) → has_name_form c.name ≡ true → width_of_all (column_values key c) ≤ 62
column_wide key c form =
    let wide = four_wide (Text c.name) (Int (pos (asked_kind c.length))) (Int (pos (cond c.not_null 1 0))) (Int (pos (key_place key c.name))) in
    omega (arith, name_short c.name form, wide)

columns_wide : (key : List (List ℕ)) (columns : List ColumnText) → HaveForms columns → width_of_all (flat_map (column_values key) columns) ≤ 62 * length columns
columns_wide key [] forms = omega arith
columns_wide key (c ∷ columns) forms =
    omega (arith, sum_by-append width_of (column_values key c) (flat_map (column_values key) columns), column_wide key c forms.0, columns_wide key columns forms.1)

table_wide : (number bank : ℕ) (key : List (List ℕ)) (columns : List ColumnText) → HaveForms columns → width_of_all (table_row number bank columns key) ≤ 27 + 62 * length columns
table_wide number bank key columns forms = omega (
  arith,
  columns_wide key columns forms,
  sum_by-cons width_of (Int (pos number)) (Int (pos bank) ∷ Int (pos (length columns)) ∷ flat_map (column_values key) columns),
  sum_by-cons width_of (Int (pos bank)) (Int (pos (length columns)) ∷ flat_map (column_values key) columns),
  sum_by-cons width_of (Int (pos (length columns))) (flat_map (column_values key) columns),
)

name_wide : (kind : ℕ) (name : List ℕ) → has_name_form name ≡ true → width_of_all (Int (pos kind) ∷ Text name ∷ []) ≤ 44
name_wide kind name form = omega (arith, two_wide (Int (pos kind)) (Text name), name_short name form)

next_wide : (n : ℕ) → width_of_all (Int (pos n) ∷ []) ≤ 9
next_wide n = omega (arith, sum_by-cons width_of (Int (pos n)) [])

narrow_table : (number bank : ℕ) (name : List ℕ) (columns : List ColumnText) (key : List (List ℕ)) → has_name_form name ≡ true → HaveForms columns → length columns ≤ 15
    → IsNarrow (dictionary_write 2 name (Some (table_row number bank columns key)))
narrow_table number bank name columns key form forms few = omega (arith, name_wide 2 name form, table_wide number bank key columns forms, few)

narrow_number : (used : ℕ) → IsNarrow (number_write used)
narrow_number used = omega (arith, name_wide 5 (codes "NEXT") refl, next_wide (used + 1))

narrow_drop : (name : List ℕ) → has_name_form name ≡ true → IsNarrow (dictionary_write 2 name None)
narrow_drop name form = omega (arith, name_wide 2 name form)

pub creation_storable : (number bank : ℕ) (name : List ℕ) (columns : List ColumnText) (key : List (List ℕ)) → has_name_form name ≡ true → HaveForms columns → length columns ≤ 15
    → IsStorableList (creation_writes number bank name columns key)
unfolding IsStrictlySortedBy
creation_storable number bank name columns key form forms few = record {
  few = omega arith;
  ascending = ((refl, tt), (tt, tt));
  narrow = All-cons IsNarrow (dictionary_write 2 name (Some (table_row number bank columns key))) (number_write number ∷ []) (narrow_table number bank name columns key form forms few)
      (All-cons IsNarrow (number_write number) [] (narrow_number number) (All-nil IsNarrow));
}

pub drop_storable : (name : List ℕ) → has_name_form name ≡ true → IsStorableList (dictionary_write 2 name None ∷ [])
unfolding IsStrictlySortedBy
drop_storable name form = record {
  few = omega arith;
  ascending = (tt, tt);
  narrow = All-cons IsNarrow (dictionary_write 2 name None) [] (narrow_drop name form) (All-nil IsNarrow);
}

filtered : (p : List ℕ → Bool) (names : List (List ℕ)) → length (filter p names) ≤ length names
filtered p [] = omega arith
filtered p (n ∷ names) =
    let rest = filtered p names in
    elim (p n) as (λ b. length (cond b (n ∷ filter p names) (filter p names)) ≤ length (n ∷ names)) [ true ↦ omega (arith, rest) | false ↦ omega (arith, rest) ]

-- a key of columns that are there has no more than they are
pub key_short : (columns : List ColumnText) (key : List (List ℕ)) → names_differ (text_names columns) ≡ true → names_differ key ≡ true → list_all (is_among (text_names columns)) key ≡ true → length columns ≤ 15 → length key ≤ 15
key_short columns key named once there few =
    omega (arith, passing_all (text_names columns) key named once there, filtered (is_among key) (text_names columns), counted columns, few)
  where
    counted : (cs : List ColumnText) → length (text_names cs) ≡ length cs
    counted [] = refl
    counted (c ∷ cs) = omega (arith, counted cs)
