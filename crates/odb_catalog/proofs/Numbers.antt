-- The numbers that the dictionary tells.
use Rattle.std.proofs.Common.{◌≡◌, ℕ, ◌<◌, ◌≤◌, ◌^◌, pos, negsuc, Bool, true, false, ◌&&◌, ◌==◌, cond, nat_lt, nat_le, List, [], ◌∷◌, ◌++◌, refl, sym, ap, subst, ◌∙◌, Option, Some, None, option_map, unwrap_or, find, codes, arith}
use Rattle.std.specs.Option.{option_and_then}
use Rattle.std.specs.List.{cons_option}
use Rattle.std.specs.FinMap.{get, entries}
use Rattle.std.proofs.lemmas.Bool.Decides.{nat_tests}
use Rattle.odb_values.specs.declared.value.Value.{Value}
use Rattle.odb_values.specs.declared.value.Value.TheVariants.{Null, Int, Text}
use Rattle.odb_model.specs.declared.table_key.TableKey.{TableKey}
use Rattle.odb_model.specs.State.{State, part_in}
use Rattle.odb_model.specs.Table.{is_named}
use Rattle.odb_model.specs.Dictionary.{is_number_from}
use Rattle.odb_model.specs.Databanks.{Databank, sysdb, main, main_in, is_main, is_sysdb, is_databank_number, databank_in_row, name_in_key, databanks_told, may_be_copy, that_count, fixed_files, databanks, databank_named, databank_rows, in_row, number_in_row, next_number}
use Rattle.odb_model.proofs.Covering.{and_true, same_number}
use Rattle.odb_catalog.proofs.Names.{inside_some}

pub within : (least n : ℕ) → is_number_from least n ≡ true → (least ≤ n) × (n < 2 ^ 32)
within least n e =
    let parts = and_true (nat_le least n) (nat_lt n (2 ^ 32)) e in (above least n parts.0, below n (2 ^ 32) parts.1)
  where
    above : (a b : ℕ) → nat_le a b ≡ true → a ≤ b
    above a b e = grind (arith, nat_tests)

    below : (a b : ℕ) → nat_lt a b ≡ true → a < b
    below a b e = grind (arith, nat_tests)

pub is_within : (least n : ℕ) → least ≤ n → n < 2 ^ 32 → is_number_from least n ≡ true
is_within least n p q = ap (λ b. b && nat_lt n (2 ^ 32)) (above least n p) ∙ below n (2 ^ 32) q
  where
    above : (a b : ℕ) → a ≤ b → nat_le a b ≡ true
    above a b e = grind (arith, nat_tests)

    below : (a b : ℕ) → a < b → nat_lt a b ≡ true
    below a b e = grind (arith, nat_tests)

tested : {A : Type 0} (b : Bool) (x y : A) → cond b (Some x) None ≡ Some y → (b ≡ true) × (x ≡ y)
tested true x y e = (refl, inside_some x y e)
tested false x y e = cc

-- a number that a row gives is one of the dictionary
pub number_range : (row : List Value) (n : ℕ) → number_in_row row ≡ Some n → is_number_from 16 n ≡ true
number_range [] n e = cc
number_range (Null ∷ row) n e = cc
number_range (Text t ∷ row) n e = cc
number_range (Int (negsuc k) ∷ row) n e = cc
number_range (Int (pos k) ∷ []) n e = let parts = tested (is_number_from 16 k) k n e in subst (λ m. is_number_from 16 m ≡ true) parts.1 parts.0
number_range (Int (pos k) ∷ v ∷ row) n e = cc

-- the next number is one of the dictionary
pub next_range : (s : State) → is_number_from 16 (next_number s) ≡ true
next_range s = by (get s (in_row 5 (codes "NEXT")))
  where
    with_number : (o : Option ℕ) (row : List Value) → number_in_row row ≡ o → is_number_from 16 (unwrap_or o 16) ≡ true
    with_number None row e = refl
    with_number (Some n) row e = number_range row n e

    by : (o : Option (List Value)) → is_number_from 16 (unwrap_or (option_and_then number_in_row o) 16) ≡ true
    by None = refl
    by (Some row) = with_number (number_in_row row) row refl

-- the numbers of databanks begin at 2
abbrev IsLarge : Databank → Type 0
IsLarge b = is_number_from 2 b.number ≡ true

bank_number : (name : List ℕ) (n : ℕ) → is_databank_number name n ≡ true → is_number_from 2 n ≡ true
bank_number name n e = by (is_main name) e
  where
    by : (t : Bool) → cond t (n == 4) (is_number_from 16 n) ≡ true → is_number_from 2 n ≡ true
    by true f = subst (λ m. is_number_from 2 m ≡ true) (sym (same_number n 4 f)) refl
    by false f = let parts = within 16 n f in is_within 2 n (omega (arith, parts.0)) parts.1

row_large : (name : List ℕ) (row : List Value) (b : Databank) → databank_in_row name row ≡ Some b → IsLarge b
row_large name [] b e = cc
row_large name (Null ∷ row) b e = cc
row_large name (Text t ∷ row) b e = cc
row_large name (Int (negsuc k) ∷ row) b e = cc
row_large name (Int (pos k) ∷ []) b e = cc
row_large name (Int (pos k) ∷ Null ∷ row) b e = cc
row_large name (Int (pos k) ∷ Text t ∷ row) b e = cc
row_large name (Int (pos k) ∷ Int (negsuc o) ∷ row) b e = cc
row_large name (Int (pos k) ∷ Int (pos o) ∷ []) b e = cc
row_large name (Int (pos k) ∷ Int (pos o) ∷ Null ∷ row) b e = cc
row_large name (Int (pos k) ∷ Int (pos o) ∷ Text t ∷ row) b e = cc
row_large name (Int (pos k) ∷ Int (pos o) ∷ Int (negsuc f) ∷ row) b e = cc
row_large name (Int (pos k) ∷ Int (pos o) ∷ Int (pos f) ∷ []) b e =
    let parts = tested (is_databank_number name k && (o == 1) && is_number_from 4 f) (record { name = name; number = k; file = f }) b e in
    let inner = and_true (is_databank_number name k && (o == 1)) (is_number_from 4 f) parts.0 in
    let number = and_true (is_databank_number name k) (o == 1) inner.0 in
    subst IsLarge parts.1 (bank_number name k number.0)
row_large name (Int (pos k) ∷ Int (pos o) ∷ Int (pos f) ∷ v ∷ row) b e = cc

-- a row of MAIN has the number 4
main_four : (row : List Value) (b : Databank) → databank_in_row (codes "MAIN") row ≡ Some b → b.number ≡ 4
main_four [] b e = cc
main_four (Null ∷ row) b e = cc
main_four (Text t ∷ row) b e = cc
main_four (Int (negsuc k) ∷ row) b e = cc
main_four (Int (pos k) ∷ []) b e = cc
main_four (Int (pos k) ∷ Null ∷ row) b e = cc
main_four (Int (pos k) ∷ Text t ∷ row) b e = cc
main_four (Int (pos k) ∷ Int (negsuc o) ∷ row) b e = cc
main_four (Int (pos k) ∷ Int (pos o) ∷ []) b e = cc
main_four (Int (pos k) ∷ Int (pos o) ∷ Null ∷ row) b e = cc
main_four (Int (pos k) ∷ Int (pos o) ∷ Text t ∷ row) b e = cc
main_four (Int (pos k) ∷ Int (pos o) ∷ Int (negsuc f) ∷ row) b e = cc
main_four (Int (pos k) ∷ Int (pos o) ∷ Int (pos f) ∷ []) b e =
    let parts = tested (is_databank_number (codes "MAIN") k && (o == 1) && is_number_from 4 f) (record { name = codes "MAIN"; number = k; file = f }) b e in
    let inner = and_true (is_databank_number (codes "MAIN") k && (o == 1)) (is_number_from 4 f) parts.0 in
    let number = and_true (is_databank_number (codes "MAIN") k) (o == 1) inner.0 in
    ap (λ (d : Databank). d.number) (sym parts.1) ∙ same_number k 4 number.0
main_four (Int (pos k) ∷ Int (pos o) ∷ Int (pos f) ∷ v ∷ row) b e = cc

pub main_number : (s : State) → (main_in s).number ≡ 4
main_number s = by (get s (in_row 1 (codes "MAIN")))
  where
    with_bank : (o : Option Databank) (row : List Value) → databank_in_row (codes "MAIN") row ≡ o → (unwrap_or o main).number ≡ 4
    with_bank None row e = refl
    with_bank (Some b) row e = main_four row b e

    by : (o : Option (List Value)) → (unwrap_or (option_and_then (databank_in_row (codes "MAIN")) o) main).number ≡ 4
    by None = refl
    by (Some row) = with_bank (databank_in_row (codes "MAIN") row) row refl

abbrev AreLarge : List Databank → Type 0
AreLarge [] = Unit {0}
AreLarge (b ∷ banks) = IsLarge b × AreLarge banks

told_large : (rows : List (TableKey × List Value)) → AreLarge (databanks_told rows)
told_large [] = tt
told_large (e ∷ rows) = with_name (name_in_key e.0.key) (told_large rows)
  where
    with_bank : (name : List ℕ) (o : Option Databank) → databank_in_row name e.1 ≡ o → AreLarge (databanks_told rows) → AreLarge (cons_option o (databanks_told rows))
    with_bank name None is rest = rest
    with_bank name (Some b) is rest = (row_large name e.1 b is, rest)

    with_name : (o : Option (List ℕ)) → AreLarge (databanks_told rows) → AreLarge (cons_option (option_and_then (λ name. databank_in_row name e.1) o) (databanks_told rows))
    with_name None rest = rest
    with_name (Some name) rest = with_bank name (databank_in_row name e.1) refl rest

count_large : (files : List ℕ) (banks : List Databank) → AreLarge banks → AreLarge (that_count files banks)
count_large files [] all = tt
count_large files (b ∷ banks) all =
    elim (may_be_copy files b.file) as (λ t. AreLarge (cond t (b ∷ that_count (files ++ b.file ∷ []) banks) (that_count files banks))) [
      | true ↦ (all.0, count_large (files ++ b.file ∷ []) banks all.1)
      | false ↦ count_large files banks all.1
    ]

found_large : (p : Databank → Bool) (banks : List Databank) (b : Databank) → AreLarge banks → find p banks ≡ Some b → IsLarge b
found_large p [] b all e = cc
found_large p (d ∷ banks) b all e =
    elim (p d) as (λ t. cond t (Some d) (find p banks) ≡ Some b → IsLarge b) [
      | true ↦ λ f. subst IsLarge (inside_some d b f) all.0
      | false ↦ λ f. found_large p banks b all.1 f
    ] e

-- a databank that is there has a number from 2 on
pub bank_range : (s : State) (name : List ℕ) (b : Databank) → databank_named s name ≡ Some b → is_number_from 2 b.number ≡ true
bank_range s name b found =
    found_large (λ d. is_named name d.name) (databanks s) b
    (refl, (subst (λ n. is_number_from 2 n ≡ true) (sym (main_number s)) refl, count_large (fixed_files s) (databanks_told (entries (part_in databank_rows s))) (told_large (entries (part_in databank_rows s)))))
    found

-- a row of MAIN has its name
main_named : (row : List Value) (b : Databank) → databank_in_row (codes "MAIN") row ≡ Some b → b.name ≡ codes "MAIN"
main_named [] b e = cc
main_named (Null ∷ row) b e = cc
main_named (Text t ∷ row) b e = cc
main_named (Int (negsuc k) ∷ row) b e = cc
main_named (Int (pos k) ∷ []) b e = cc
main_named (Int (pos k) ∷ Null ∷ row) b e = cc
main_named (Int (pos k) ∷ Text t ∷ row) b e = cc
main_named (Int (pos k) ∷ Int (negsuc o) ∷ row) b e = cc
main_named (Int (pos k) ∷ Int (pos o) ∷ []) b e = cc
main_named (Int (pos k) ∷ Int (pos o) ∷ Null ∷ row) b e = cc
main_named (Int (pos k) ∷ Int (pos o) ∷ Text t ∷ row) b e = cc
main_named (Int (pos k) ∷ Int (pos o) ∷ Int (negsuc f) ∷ row) b e = cc
main_named (Int (pos k) ∷ Int (pos o) ∷ Int (pos f) ∷ []) b e =
    ap (λ (d : Databank). d.name) (sym (tested (is_databank_number (codes "MAIN") k && (o == 1) && is_number_from 4 f) (record { name = codes "MAIN"; number = k; file = f }) b e).1)
main_named (Int (pos k) ∷ Int (pos o) ∷ Int (pos f) ∷ v ∷ row) b e = cc

pub main_name : (s : State) → (main_in s).name ≡ codes "MAIN"
main_name s = by (get s (in_row 1 (codes "MAIN")))
  where
    with_bank : (o : Option Databank) (row : List Value) → databank_in_row (codes "MAIN") row ≡ o → (unwrap_or o main).name ≡ codes "MAIN"
    with_bank None row e = refl
    with_bank (Some b) row e = main_named row b e

    by : (o : Option (List Value)) → (unwrap_or (option_and_then (databank_in_row (codes "MAIN")) o) main).name ≡ codes "MAIN"
    by None = refl
    by (Some row) = with_bank (databank_in_row (codes "MAIN") row) row refl

-- those behind the fixed databanks
abbrev pub further : State → List Databank
further s = that_count (fixed_files s) (databanks_told (entries (part_in databank_rows s)))

-- a databank of another name than the fixed ones is one behind them
pub named_further : (s : State) (name : List ℕ) → is_sysdb name ≡ false → is_main name ≡ false → databank_named s name ≡ find (λ b. is_named name b.name) (further s)
named_further s name p q =
    ap (λ t. cond t (Some sysdb) (cond (is_named name (main_in s).name) (Some (main_in s)) (find (λ b. is_named name b.name) (further s)))) p
    ∙ ap (λ t. cond t (Some (main_in s)) (find (λ b. is_named name b.name) (further s))) (ap (is_named name) (main_name s) ∙ q)

-- that of MAIN has the number 4
pub named_main : (s : State) (name : List ℕ) → is_sysdb name ≡ false → is_main name ≡ true → option_map (λ b. b.number) (databank_named s name) ≡ Some 4
named_main s name p q =
    ap (λ t. option_map (λ (b : Databank). b.number) (cond t (Some sysdb) (cond (is_named name (main_in s).name) (Some (main_in s)) (find (λ b. is_named name b.name) (further s))))) p
    ∙ ap (λ t. option_map (λ (b : Databank). b.number) (cond t (Some (main_in s)) (find (λ b. is_named name b.name) (further s)))) (ap (is_named name) (main_name s) ∙ q)
    ∙ ap Some (main_number s)
