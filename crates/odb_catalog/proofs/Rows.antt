-- How rows of the dictionary are read, value by value.
use Rattle.std.proofs.Common.{◌≡◌, ℕ, zero, suc, ◌+◌, ◌-◌, ◌<◌, ◌≤◌, pos, true, false, ◌&&◌, nat_le, List, [], ◌∷◌, ◌++◌, map, length, take, drop, get_or, codes, refl, sym, ap, ◌∙◌, Option, Some, None, option_map, arith, if◌then◌else◌, append_assoc}
use Rattle.std.specs.Option.{option_and_then}
use Rattle.std.specs.List.{range_with_len, filter_map, cons_option}
use Rattle.std.specs.FinMap.{get}
use Rattle.std.proofs.Math.Seq.{take-length}
use Rattle.std.proofs.lemmas.List.{length-drop}
use Rattle.odb_values.specs.declared.value.Value.{Value}
use Rattle.odb_values.specs.declared.value.Value.TheVariants.{Int, Text}
use Rattle.odb_model.specs.Table.{Table, IsTable, kv, is_named}
use Rattle.odb_model.specs.Dictionary.{Described, has_name_form, described, columns_in, key_in, table_by, table_in_row, in_dictionary}
use Rattle.odb_model.proofs.Keyed.{table_by-is}
use Rattle.odb_catalog.specs.Rows.{natural_of, column_by, with_column, is_table, table_from, IsTableOf}

-- four values are those of a column, or none of what they begin counts
pub columns_step : (a b c d : Value) (rest : List Value) → columns_in (a ∷ b ∷ c ∷ d ∷ rest) ≡ with_column (column_by a (natural_of b) (natural_of c) (natural_of d)) (columns_in rest)
columns_step (Text name) (Int (pos k)) (Int (pos f)) (Int (pos p)) rest =
    elim (has_name_form name && nat_le k 200 && nat_le f 1) as (λ b. (if b then option_map (λ columns. described name k f p ∷ columns) (columns_in rest) else None)
    ≡ with_column (if b then Some (described name k f p) else None) (columns_in rest)) [ true ↦ refl | false ↦ refl ]
columns_step a b c d rest = refl

pub columns_one : (a : Value) → columns_in (a ∷ []) ≡ None
columns_one (Text name) = refl
columns_one a = refl

pub columns_two : (a b : Value) → columns_in (a ∷ b ∷ []) ≡ None
columns_two (Text name) (Int (pos k)) = refl
columns_two a b = refl

pub columns_three : (a b c : Value) → columns_in (a ∷ b ∷ c ∷ []) ≡ None
columns_three (Text name) (Int (pos k)) (Int (pos f)) = refl
columns_three a b c = refl

-- a column that is put behind others goes before those behind it
pub put_between : (old : List Described) (d : Described) (rest : Option (List Described)) → option_map (λ columns. old ++ columns) (option_map (λ columns. d ∷ columns) rest) ≡ option_map (λ columns. (old ++ d ∷ []) ++ columns) rest
put_between old d None = refl
put_between old d (Some columns) = ap Some (sym (append_assoc old (d ∷ []) columns))

-- four values and those behind them
pub four_first : (values : List Value) (a b c d : Value) → 4 ≤ length values → a ≡ get_or values 0 a → b ≡ get_or values 1 b → c ≡ get_or values 2 c → d ≡ get_or values 3 d → values ≡ a ∷ b ∷ c ∷ d ∷ drop 4 values
four_first [] a b c d h p q r s = absurd (omega arith)
four_first (v ∷ []) a b c d h p q r s = absurd (omega arith)
four_first (v ∷ w ∷ []) a b c d h p q r s = absurd (omega arith)
four_first (v ∷ w ∷ x ∷ []) a b c d h p q r s = absurd (omega arith)
four_first (v ∷ w ∷ x ∷ y ∷ values) a b c d h p q r s = cc

-- what is behind the first four is all of it
pub behind_four : (values : List Value) → take (length values - 4) (drop 4 values) ≡ drop 4 values
behind_four values = ap (λ n. take n (drop 4 values)) (sym (length-drop 4 values)) ∙ take-length (drop 4 values)

-- the columns of four values and those behind them, behind others
pub columns_more : (old : List Described) (one : Described) (values : List Value) (a b c d : Value) → values ≡ a ∷ b ∷ c ∷ d ∷ drop 4 values → column_by a (natural_of b) (natural_of c) (natural_of d) ≡ Some one
    → option_map (λ more. (old ++ one ∷ []) ++ more) (columns_in (drop 4 values)) ≡ option_map (λ more. old ++ more) (columns_in values)
columns_more old one values a b c d split found =
    sym (ap (λ vs. option_map (λ more. old ++ more) (columns_in vs)) split
    ∙ ap (option_map (λ more. old ++ more)) (columns_step a b c d (drop 4 values))
    ∙ ap (λ o. option_map (λ more. old ++ more) (with_column o (columns_in (drop 4 values)))) found
    ∙ put_between old one (columns_in (drop 4 values)))

-- a table's row begins with three numbers
pub row_step : (a b c : Value) (columns : List Value) → table_in_row (a ∷ b ∷ c ∷ columns) ≡ table_from (natural_of a) (natural_of b) (natural_of c) columns
row_step (Int (pos number)) (Int (pos bank)) (Int (pos count)) columns = refl
row_step a b c columns = refl

pub row_one : (a : Value) → table_in_row (a ∷ []) ≡ None
row_one (Int (pos number)) = refl
row_one a = refl

pub row_two : (a b : Value) → table_in_row (a ∷ b ∷ []) ≡ None
row_two (Int (pos number)) (Int (pos bank)) = refl
row_two a b = refl

pub range_more : (a n : ℕ) → 0 < n → range_with_len a n ≡ a ∷ range_with_len (a + 1) (n - 1)
range_more a zero h = absurd (omega arith)
range_more a (suc n) h = let same : n ≡ suc n - 1 = omega arith in ap (λ k. a ∷ range_with_len (a + 1) k) same

-- a table with these numbers and columns
abbrev pub table_with : ℕ → ℕ → List Described → Table
table_with number bank columns = record {
  number = number;
  bank = bank;
  columns = map (λ d. d.column) columns;
  key = key_in (map (λ d. d.key_place) columns);
}

pub table_made : (number bank count : ℕ) (columns : List Described) → is_table number bank count columns ≡ true → table_by number bank count columns ≡ Some (table_with number bank columns)
table_made number bank count columns is = ap (λ b. if b then Some (table_with number bank columns) else None) is

-- such a table is one of a dictionary
pub made_is : (number bank count : ℕ) (columns : List Described) → is_table number bank count columns ≡ true → IsTable (table_with number bank columns)
made_is number bank count columns is = table_by-is number bank count columns (table_with number bank columns) (table_made number bank count columns is)

-- the places of the key's columns from one that is found on
pub key_more : (f : ℕ → Option ℕ) (old : List ℕ) (from count place : ℕ) → 0 < count → f from ≡ Some place → (old ++ place ∷ []) ++ filter_map f (range_with_len (from + 1) (count - 1)) ≡ old ++ filter_map f (range_with_len from count)
key_more f old from count place some found =
    append_assoc old (place ∷ []) (filter_map f (range_with_len (from + 1) (count - 1)))
    ∙ ap (λ ys. old ++ ys) (sym (ap (filter_map f) (range_more from count some) ∙ ap (λ o. cons_option o (filter_map f (range_with_len (from + 1) (count - 1)))) found))

-- the table of a name, by the row that the dictionary has for it
pub fixed_is : (name : List ℕ) (row : Option (List Value)) → is_named name (codes "KV") ≡ true → IsTableOf name row (Some kv)
fixed_is name row same s e = ap (λ b. if b then Some kv else if has_name_form name then option_and_then table_in_row (get s (in_dictionary name)) else None) (sym same)

pub unnamed_is : (name : List ℕ) (row : Option (List Value)) → is_named name (codes "KV") ≡ false → has_name_form name ≡ false → IsTableOf name row None
unnamed_is name row other form s e =
    ap (λ b. if b then option_and_then table_in_row (get s (in_dictionary name)) else None) (sym form)
    ∙ ap (λ b. if b then Some kv else if has_name_form name then option_and_then table_in_row (get s (in_dictionary name)) else None) (sym other)

pub stored_is : (name : List ℕ) (row : Option (List Value)) → is_named name (codes "KV") ≡ false → has_name_form name ≡ true → IsTableOf name row (option_and_then table_in_row row)
stored_is name row other form s e =
    ap (option_and_then table_in_row) (sym e)
    ∙ ap (λ b. if b then option_and_then table_in_row (get s (in_dictionary name)) else None) (sym form)
    ∙ ap (λ b. if b then Some kv else if has_name_form name then option_and_then table_in_row (get s (in_dictionary name)) else None) (sym other)
