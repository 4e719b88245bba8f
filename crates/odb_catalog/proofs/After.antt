-- What the dictionary tells after a definition.
use Rattle.std.proofs.Common.{◌≡◌, ◌≢◌, ℕ, ◌+◌, ◌<◌, ◌≤◌, ◌^◌, pos, Bool, true, false, ◌||◌, ◌==◌, cond, not, nat_lt, List, [], ◌∷◌, length, refl, sym, ap, subst, ◌∙◌, Option, Some, None, is_some, unwrap_or, arith, codes, eq-eqb}
use Rattle.std.specs.Option.{option_and_then, option_map_or}
use Rattle.std.specs.List.{All, list_all}
use Rattle.std.specs.Ordering.{eq_by_cmp, is_eq}
use Rattle.std.specs.declared.cmp.Ordering.TheVariants.{Less, Equal, Greater}
use Rattle.std.specs.FinMap.{get, entries}
use Rattle.std.proofs.lemmas.Bool.Decides.{nat_tests}
use Rattle.std.proofs.lemmas.List.Elements.{All-weaker}
use Rattle.odb_values.specs.declared.value.Value.{Value}
use Rattle.odb_values.specs.declared.value.Value.TheVariants.{Int, Text}
use Rattle.odb_model.specs.declared.table_key.TableKey.{TableKey}
use Rattle.odb_model.specs.declared.write.Write.{Write}
use Rattle.odb_model.specs.declared.statement.ColumnText.{ColumnText}
use Rattle.odb_model.specs.State.{State, table_key_cmp, changed, after_writes, is_in, part_in}
use Rattle.odb_model.specs.Table.{Table, is_named, kv}
use Rattle.odb_model.specs.Dictionary.{table_of, table_in_row, in_dictionary, has_name_form, names_differ}
use Rattle.odb_model.specs.Databanks.{Databank, sysdb, main, fixed_shadow, main_in, databank_in_row, databank_rows, databanks_told, that_count, databanks, databank_named, in_row, number_in_row, next_number}
use Rattle.odb_model.specs.Definitions.{Plans, text_names, is_among, table_row, created_in, dropped, asked_table, numbers_end}
use Rattle.std.specs.Cmp.{tied_itself}
use Rattle.odb_model.proofs.Replay.{get-changed_at, table_key_cmp_total, table_key_cmp_exact, part_in-same}
use Rattle.odb_catalog.specs.Telling.{databank_number, SameTables, HasCreated, HasDropped, AreUsed}
use Rattle.odb_catalog.proofs.Names.{inside_some, named_itself, same_names}
use Rattle.odb_catalog.proofs.Telling.{HaveForms, IsRight, row_tells}
use Rattle.odb_catalog.proofs.Planned.{none_of, planned_in, planned_drop}
use Rattle.odb_catalog.proofs.Numbers.{within, is_within, next_range, bank_range}

other_row : (other name : List ℕ) → is_named other name ≡ false → eq_by_cmp table_key_cmp (in_row 2 other) (in_row 2 name) ≡ false
other_row other name differ =
    elim (table_key_cmp (in_row 2 other) (in_row 2 name)) as (λ o. table_key_cmp (in_row 2 other) (in_row 2 name) ≡ o → is_eq o ≡ false) [
      | Less ↦ λ e. refl
      | Equal ↦ λ e. sym (true_of e) ∙ differ
      | Greater ↦ λ e. refl
    ] refl
  where
    true_of : table_key_cmp (in_row 2 other) (in_row 2 name) ≡ Equal → is_named other name ≡ true
    true_of e =
        let same : in_row 2 other ≡ in_row 2 name = table_key_cmp_exact (in_row 2 other) (in_row 2 name) e in
        let keys : Int (pos 2) ∷ Text other ∷ [] ≡ Int (pos 2) ∷ Text name ∷ [] = ap (λ (at : TableKey). at.key) same in
        let names : other ≡ name = cc in
        subst (λ (n : List ℕ). is_named other n ≡ true) names (named_itself other)

own_row : (name : List ℕ) → eq_by_cmp table_key_cmp (in_row 2 name) (in_row 2 name) ≡ true
own_row name = ap is_eq (tied_itself table_key_cmp_total (in_row 2 name))

table_apart : (name : List ℕ) → eq_by_cmp table_key_cmp (in_row 2 name) (in_row 5 (codes "NEXT")) ≡ false
table_apart name = refl

number_apart : (name : List ℕ) → eq_by_cmp table_key_cmp (in_row 5 (codes "NEXT")) (in_row 2 name) ≡ false
number_apart name = refl

number_own : eq_by_cmp table_key_cmp (in_row 5 (codes "NEXT")) (in_row 5 (codes "NEXT")) ≡ true
number_own = refl

-- two keys that differ are told apart
apart : (q at : TableKey) → q ≢ at → eq_by_cmp table_key_cmp q at ≡ false
apart q at differ =
    elim (table_key_cmp q at) as (λ o. table_key_cmp q at ≡ o → is_eq o ≡ false) [
      | Less ↦ λ e. refl
      | Equal ↦ λ e. absurd (differ (table_key_cmp_exact q at e))
      | Greater ↦ λ e. refl
    ] refl

kind_in : List Value → ℕ
kind_in [] = 0
kind_in (Int (pos n) ∷ rest) = n
kind_in (v ∷ rest) = 0

kinds_differ : (k l : ℕ) (a b : List ℕ) → (k ≡ l → ⊥) → in_row k a ≢ in_row l b
kinds_differ k l a b differ same = differ (by (ap (λ (at : TableKey). at.key) same))
  where
    by : Int (pos k) ∷ Text a ∷ [] ≡ Int (pos l) ∷ Text b ∷ [] → k ≡ l
    by e = cc

-- no row of a table, nor that of the next number, is one of a databank
table_outside : (name : List ℕ) → is_in databank_rows (in_row 2 name) ≡ false
table_outside name = refl

number_outside : is_in databank_rows (in_row 5 (codes "NEXT")) ≡ false
number_outside = refl

inside_differs : (q at : TableKey) → is_in databank_rows q ≡ true → is_in databank_rows at ≡ false → q ≢ at
inside_differs q at inside outside same =
    let both : is_in databank_rows at ≡ true = subst (λ (x : TableKey). is_in databank_rows x ≡ true) same inside in cc

-- the databanks by the row of MAIN and the rows of the others
abbrev banks_by : Databank → State → List Databank
banks_by m rows = sysdb ∷ m ∷ that_count (sysdb.file ∷ fixed_shadow ∷ m.file ∷ []) (databanks_told (entries rows))

same_banks : (s after : State) → get after (in_row 1 (codes "MAIN")) ≡ get s (in_row 1 (codes "MAIN")) → part_in databank_rows after ≡ part_in databank_rows s → databanks after ≡ databanks s
same_banks s after first rest =
    ap (λ (o : Option (List Value)). banks_by (unwrap_or (option_and_then (databank_in_row (codes "MAIN")) o) main) (part_in databank_rows after)) first
    ∙ ap (banks_by (main_in s)) rest

-- the table of a name by the row that is there for it
abbrev told_by : List ℕ → Option (List Value) → Option Table
told_by name row =
    cond (is_named name (codes "KV")) (Some kv) (cond (has_name_form name) (option_and_then table_in_row row) None)

-- the first of these tests holds no more than any of them
pub or_first : (a b : Bool) → (a || b) ≡ false → (a ≡ false) × (b ≡ false)
or_first true b e = cc
or_first false b e = (refl, e)

pub not_not : (b : Bool) → not b ≡ false → b ≡ true
not_not true e = refl
not_not false e = cc

pub at_most : (n : ℕ) → nat_lt 15 n ≡ false → n ≤ 15
at_most n e = grind (arith, nat_tests)

-- a name without a table isn't KV
not_kv : (name : List ℕ) (rest : Option Table) → is_some (cond (is_named name (codes "KV")) (Some kv) rest) ≡ false → is_named name (codes "KV") ≡ false
not_kv name rest e = by (is_named name (codes "KV")) e
  where
    by : (b : Bool) → is_some (cond b (Some kv) rest) ≡ false → b ≡ false
    by true f = cc
    by false f = refl

number_differs : (m n : ℕ) → (m == n) ≡ false → m ≡ n → ⊥
number_differs m n e same = let yes : (m == n) ≡ true = eq-eqb m n same in cc

-- a table's row and the next number are written
module _ (s : State) (name : List ℕ) (row : List Value) (number : ℕ) where
  abbrev with_row : State
  with_row = changed s (in_row 2 name) (Some row)

  abbrev with_both : State
  with_both = changed with_row (in_row 5 (codes "NEXT")) (Some (Int (pos (number + 1)) ∷ []))

  number_there : get with_both (in_row 5 (codes "NEXT")) ≡ Some (Int (pos (number + 1)) ∷ [])
  number_there =
      get-changed_at with_row (in_row 5 (codes "NEXT")) (Some (Int (pos (number + 1)) ∷ [])) (in_row 5 (codes "NEXT"))
      ∙ ap (λ b. cond b (Some (Int (pos (number + 1)) ∷ [])) (get with_row (in_row 5 (codes "NEXT")))) number_own

  next_there : number + 1 < 2 ^ 32 → 16 ≤ number → next_number with_both ≡ number + 1
  next_there small large =
      ap (λ (o : Option (List Value)). unwrap_or (option_and_then number_in_row o) 16) number_there
      ∙ ap (λ b. unwrap_or (cond b (Some (number + 1)) None) 16) (is_within 16 (number + 1) (omega (arith, large)) small)

  tables_there : (other : List ℕ) → get with_both (in_row 2 other) ≡ get with_row (in_row 2 other)
  tables_there other =
      get-changed_at with_row (in_row 5 (codes "NEXT")) (Some (Int (pos (number + 1)) ∷ [])) (in_row 2 other)
      ∙ ap (λ b. cond b (Some (Int (pos (number + 1)) ∷ [])) (get with_row (in_row 2 other))) (table_apart other)

  own_there : get with_both (in_row 2 name) ≡ Some row
  own_there = tables_there name ∙ get-changed_at s (in_row 2 name) (Some row) (in_row 2 name) ∙ ap (λ b. cond b (Some row) (get s (in_row 2 name))) (own_row name)

  elsewhere_there : (at : TableKey) → at ≢ in_row 2 name → at ≢ in_row 5 (codes "NEXT") → get with_both at ≡ get s at
  elsewhere_there at p q =
      get-changed_at with_row (in_row 5 (codes "NEXT")) (Some (Int (pos (number + 1)) ∷ [])) at
      ∙ ap (λ b. cond b (Some (Int (pos (number + 1)) ∷ [])) (get with_row at)) (apart at (in_row 5 (codes "NEXT")) q)
      ∙ get-changed_at s (in_row 2 name) (Some row) at ∙ ap (λ b. cond b (Some row) (get s at)) (apart at (in_row 2 name) p)

  banks_there : databanks with_both ≡ databanks s
  banks_there =
      same_banks s with_both
      (elsewhere_there (in_row 1 (codes "MAIN")) (kinds_differ 1 2 (codes "MAIN") name (λ e. omega (arith, e))) (kinds_differ 1 5 (codes "MAIN") (codes "NEXT") (λ e. omega (arith, e))))
      (part_in-same databank_rows with_both s (λ q inside.
      elsewhere_there q (inside_differs q (in_row 2 name) inside (table_outside name)) (inside_differs q (in_row 5 (codes "NEXT")) inside number_outside)))

  others_there : SameTables name s with_both
  others_there other differ =
      ap (told_by other) (tables_there other ∙ get-changed_at s (in_row 2 name) (Some row) (in_row 2 other) ∙ ap (λ b. cond b (Some row) (get s (in_row 2 other))) (other_row other name differ))

-- a CREATE TABLE that is planned
module _ (s : State) (name : List ℕ) (columns : List ColumnText) (key : List (List ℕ)) (bank : List ℕ) (writes : List Write)
    (form : has_name_form name ≡ true) (forms : HaveForms columns) (some : 0 < length key) (planned : created_in s (databank_named s bank) name columns key ≡ Plans writes) where
  pub created : HasCreated name columns key bank s (after_writes s writes)
  created =
      let there = planned_in s (databank_named s bank) name columns key writes planned in
      let b : Databank = there.0 in
      let number : ℕ = next_number s in
      let row : List Value = table_row number b.number columns key in
      let tests = none_of _ _ _ _ _ there.3 in
      let taken = or_first (is_some (table_of s name)) (not (names_differ (text_names columns))) tests.0 in
      let count = or_first (nat_lt 15 (length columns)) (not (names_differ key)) tests.1 in
      let right : IsRight columns key = record {
        forms = forms;
        some = some;
        named = not_not (names_differ (text_names columns)) taken.1;
        few = at_most (length columns) count.0;
        once = not_not (names_differ key) count.1;
        ranges = tests.2;
        there = not_not (list_all (is_among (text_names columns)) key) tests.3;
      } in
      let range = within 16 number (next_range s) in
      let unused : number ≡ numbers_end → ⊥ = number_differs number numbers_end tests.4 in
      let small : number + 1 < 2 ^ 32 = below_last number range.1 unused in
      let other : is_named name (codes "KV") ≡ false = not_kv name (cond (has_name_form name) (option_and_then table_in_row (get s (in_dictionary name))) None) taken.0 in
      let bank_is : b.number ≡ databank_number s bank = ap (λ (o : Option Databank). option_map_or (λ d. d.number) o 0) (sym there.1) in
      let made : table_of (with_both s name row number) name ≡ Some (asked_table number (databank_number s bank) columns key) =
      ap (told_by name) (own_there s name row number)
      ∙ ap (λ t. cond t (Some kv) (cond (has_name_form name) (table_in_row row) None)) other
      ∙ ap (λ t. cond t (table_in_row row) None) form
      ∙ row_tells columns key right number b.number (next_range s) (bank_range s bank b there.1)
      ∙ ap (λ n. Some (asked_table number n columns key)) bank_is in
      subst (λ (ws : List Write). HasCreated name columns key bank s (after_writes s ws)) there.4 (record {
        made = made;
        used = next_there s name row number small range.0;
        elsewhere = elsewhere_there s name row number;
        others = others_there s name row number;
        banks = banks_there s name row number;
      })
    where
      below_last : (n : ℕ) → n < 2 ^ 32 → (n ≡ numbers_end → ⊥) → n + 1 < 2 ^ 32
      below_last n below unused = omega (arith, below, unused)

abbrev no_table : Option Table
no_table = None

either : (b : Bool) → cond b no_table no_table ≡ None
either true = refl
either false = refl

-- a DROP TABLE that is planned
pub dropped_tells : (s : State) (name : List ℕ) (writes : List Write) → dropped s (table_of s name) name ≡ Plans writes → HasDropped name s (after_writes s writes)
dropped_tells s name writes planned =
    let there = planned_drop s (table_of s name) name writes planned in
    let after : State = changed s (in_row 2 name) None in
    let own : get after (in_row 2 name) ≡ None = get-changed_at s (in_row 2 name) None (in_row 2 name) ∙ ap (λ b. cond b None (get s (in_row 2 name))) (own_row name) in
    let number : get after (in_row 5 (codes "NEXT")) ≡ get s (in_row 5 (codes "NEXT")) =
    get-changed_at s (in_row 2 name) None (in_row 5 (codes "NEXT")) ∙ ap (λ b. cond b None (get s (in_row 5 (codes "NEXT")))) (number_apart name) in
    let elsewhere : (at : TableKey) → at ≢ in_row 2 name → get after at ≡ get s at =
    λ at p. get-changed_at s (in_row 2 name) None at ∙ ap (λ b. cond b None (get s at)) (apart at (in_row 2 name) p) in
    subst (λ (ws : List Write). HasDropped name s (after_writes s ws)) there.3 (record {
      elsewhere = elsewhere;
      banks = same_banks s after (elsewhere (in_row 1 (codes "MAIN")) (kinds_differ 1 2 (codes "MAIN") name (λ e. omega (arith, e))))
          (part_in-same databank_rows after s (λ q inside. elsewhere q (inside_differs q (in_row 2 name) inside (table_outside name))));
      gone = ap (told_by name) own ∙ ap (λ t. cond t (Some kv) (cond (has_name_form name) no_table no_table)) there.2 ∙ either (has_name_form name);
      used = ap (λ (o : Option (List Value)). unwrap_or (option_and_then number_in_row o) 16) number;
      others = λ other differ. ap (told_by other) (get-changed_at s (in_row 2 name) None (in_row 2 other) ∙ ap (λ b. cond b None (get s (in_row 2 other))) (other_row other name differ));
    })

-- numbers stay used
below : (s after : State) → databanks after ≡ databanks s → next_number s ≤ next_number after → AreUsed s → All (λ b. (b.number < next_number after) × (b.file < next_number after)) (databanks after)
below s after same more used =
    subst (λ (banks : List Databank). All (λ b. (b.number < next_number after) × (b.file < next_number after)) banks) (sym same)
    (All-weaker (λ (b : Databank). (b.number < next_number s) × (b.file < next_number s)) (λ b. (b.number < next_number after) × (b.file < next_number after))
    (λ b has. let m = has.0 in let n = has.1 in (omega (arith, m, more), omega (arith, n, more))) (databanks s) used.banks)

pub used_created : (s after : State) (name : List ℕ) (columns : List ColumnText) (key : List (List ℕ)) (bank : List ℕ) → HasCreated name columns key bank s after → AreUsed s → AreUsed after
used_created s after name columns key bank has used = record { tables = λ other t found. by other t found (is_named other name) refl; banks = below s after has.banks (omega (arith, has.used)) used }
  where
    by : (other : List ℕ) (t : Table) → table_of after other ≡ Some t → (b : Bool) → is_named other name ≡ b → t.number < next_number after
    by other t found true is =
        let same : t ≡ asked_table (next_number s) (databank_number s bank) columns key =
        inside_some t (asked_table (next_number s) (databank_number s bank) columns key) (sym found ∙ ap (table_of after) (same_names other name is) ∙ has.made) in
        omega (arith, ap (λ (x : Table). x.number) same, has.used)
    by other t found false is = let before = used.tables other t (sym (has.others other is) ∙ found) in omega (arith, before, has.used)

pub used_dropped : (s after : State) (name : List ℕ) → HasDropped name s after → AreUsed s → AreUsed after
used_dropped s after name has used = record { tables = λ other t found. by other t found (is_named other name) refl; banks = below s after has.banks (omega (arith, has.used)) used }
  where
    by : (other : List ℕ) (t : Table) → table_of after other ≡ Some t → (b : Bool) → is_named other name ≡ b → t.number < next_number after
    by other t found true is = let none : None ≡ Some t = sym has.gone ∙ ap (table_of after) (sym (same_names other name is)) ∙ found in cc
    by other t found false is = let before = used.tables other t (sym (has.others other is) ∙ found) in omega (arith, before, has.used)
