-- The dictionary stays in order: behind writes elsewhere, and behind a definition.
use Rattle.std.proofs.Common.{◌≡◌, ◌≢◌, ℕ, ◌<◌, ◌≤◌, Bool, true, false, ◌||◌, ◌==◌, cond, List, [], ◌∷◌, map, find, refl, sym, ap, subst, ◌∙◌, Option, Some, None, unwrap_or, codes, arith, eq-eqb, IsTrue}
use Rattle.std.specs.Option.{option_and_then, option_map_or}
use Rattle.std.specs.List.{All, list_any}
use Rattle.std.specs.Ordering.{is_eq, eq_by_cmp}
use Rattle.std.specs.Cmp.{tied_itself}
use Rattle.std.specs.FinMap.{get, entries}
use Rattle.std.proofs.lemmas.List.Elements.{All-head, All-tail, All-weaker}
use Rattle.odb_values.specs.declared.value.Value.{Value}
use Rattle.odb_model.specs.declared.table_key.TableKey.{TableKey}
use Rattle.odb_model.specs.declared.statement.ColumnText.{ColumnText}
use Rattle.odb_model.specs.State.{State, table_key_cmp, is_in, part_in}
use Rattle.odb_model.specs.Table.{Table, is_named, kv}
use Rattle.odb_model.specs.Dictionary.{table_of, table_in_row, in_dictionary, has_name_form}
use Rattle.odb_model.specs.Databanks.{Databank, sysdb, main, fixed_shadow, main_in, databank_in_row, databank_rows, databanks_told, that_count, databanks, databank_named, row_key, in_row, number_in_row, next_number}
use Rattle.odb_model.specs.Definitions.{asked_table}
use Rattle.odb_model.specs.Reads.{dictionary_row}
use Rattle.odb_model.proofs.Replay.{table_key_cmp_total, part_in-same}
use Rattle.odb_model.proofs.Covering.{and_true, same_number}
use Rattle.odb_model.proofs.Agree.{table_of-same}
use Rattle.odb_model.proofs.Written.{tied}
use Rattle.odb_catalog.specs.Telling.{databank_number, SameTables, HasCreated, HasDropped, AreUsed}
use Rattle.odb_catalog.proofs.Names.{inside_some, same_names}
use Rattle.odb_catalog.proofs.Numbers.{within, next_range}
use Rattle.odb_catalog.proofs.After.{used_created, used_dropped}
use Rattle.odb_sound.specs.Sound.{IsRow, numbers_differ, IsInOrder}
use Rattle.odb_sound.proofs.Made.{fixed, told, origin}

-- both states have the same dictionary
abbrev pub SameDictionary : State → State → Type 0
SameDictionary s after = (q : TableKey) → q.table ≡ 6 → get after q ≡ get s q

-- the databanks by the row of MAIN and the rows of the others
abbrev banks_by : Databank → State → List Databank
banks_by m rows = sysdb ∷ m ∷ that_count (sysdb.file ∷ fixed_shadow ∷ m.file ∷ []) (databanks_told (entries (part_in databank_rows rows)))

abbrev listed_by : Databank → State → List Databank
listed_by m part = sysdb ∷ m ∷ that_count (sysdb.file ∷ fixed_shadow ∷ m.file ∷ []) (databanks_told (entries part))

in_banks_table : (q : TableKey) → is_in databank_rows q ≡ true → q.table ≡ 6
in_banks_table q inside = sym (same_number 6 q.table (and_true (6 == q.table) _ inside).0)

in_name_table : (name : List ℕ) (q : TableKey) → is_in (dictionary_row name) q ≡ true → q.table ≡ 6
in_name_table name q inside = sym (same_number 6 q.table (and_true (6 == q.table) _ inside).0)

pub same_databanks : (s after : State) → SameDictionary s after → databanks after ≡ databanks s
same_databanks s after same =
    ap (λ (o : Option (List Value)). listed_by (unwrap_or (option_and_then (databank_in_row (codes "MAIN")) o) main) (part_in databank_rows after)) (same (in_row 1 (codes "MAIN")) refl)
    ∙ ap (listed_by (main_in s)) (part_in-same databank_rows after s (λ q inside. same q (in_banks_table q inside)))

pub same_tables : (s after : State) → SameDictionary s after → (name : List ℕ) → table_of after name ≡ table_of s name
same_tables s after same name = table_of-same name after s (λ q inside. same q (in_name_table name q inside))

pub same_next : (s after : State) → SameDictionary s after → next_number after ≡ next_number s
same_next s after same = ap (λ (o : Option (List Value)). unwrap_or (option_and_then number_in_row o) 16) (same (in_row 5 (codes "NEXT")) refl)

pub same_named : (s after : State) → databanks after ≡ databanks s → (name : List ℕ) → databank_named after name ≡ databank_named s name
same_named s after same name = ap (find (λ b. is_named name b.name)) same

row_same : (s after : State) → ((name : List ℕ) → table_of after name ≡ table_of s name) → databanks after ≡ databanks s → {key row : List Value} → IsRow s key row → IsRow after key row
row_same s after tables banks (IsRow.databank {name} form other is there) = IsRow.databank form other is (same_named s after banks name ∙ there)
row_same s after tables banks (IsRow.table {name} form other is there) = IsRow.table form other is (tables name ∙ there)
row_same s after tables banks (IsRow.number is) = IsRow.number is

-- what is below the next number stays so
pub banks_below : (s after : State) → databanks after ≡ databanks s → next_number s ≤ next_number after → AreUsed s → All (λ b. (b.number < next_number after) × (b.file < next_number after)) (databanks after)
banks_below s after same more used =
    subst (λ (banks : List Databank). All (λ b. (b.number < next_number after) × (b.file < next_number after)) banks) (sym same)
    (All-weaker (λ (b : Databank). (b.number < next_number s) × (b.file < next_number s)) (λ b. (b.number < next_number after) × (b.file < next_number after))
    (λ b has. let m = has.0 in let n = has.1 in (omega (arith, m, more), omega (arith, n, more))) (databanks s) used.banks)

-- behind writes that leave the dictionary
pub order_same : (s after : State) → SameDictionary s after → IsInOrder s → IsInOrder after
order_same s after same order =
    let tables : (name : List ℕ) → table_of after name ≡ table_of s name = same_tables s after same in
    let banks : databanks after ≡ databanks s = same_databanks s after same in
    let next : next_number after ≡ next_number s = same_next s after same in
    record {
      rows = λ at row is there. row_same s after tables banks (order.rows at row is (sym (same at is) ∙ there));
      tables = λ m n t u p q numbers. order.tables m n t u (sym (tables m) ∙ p) (sym (tables n) ∙ q) numbers;
      banks = subst (λ (bs : List Databank). IsTrue (numbers_differ (map (λ b. b.number) bs))) (sym banks) order.banks;
      apart = λ name t p. ap (list_any (λ b. b.number == t.number)) banks ∙ order.apart name t (sym (tables name) ∙ p);
      files = subst (λ (bs : List Databank). IsTrue (numbers_differ (fixed_shadow ∷ map (λ b. b.file) bs))) (sym banks) order.files;
      used = record {
        tables = λ name t p. subst (λ (n : ℕ). t.number < n) (sym next) (order.used.tables name t (sym (tables name) ∙ p));
        banks = banks_below s after banks (omega (arith, next)) order.used;
      };
      in_banks = λ name t p. subst (λ (bs : List Databank). IsTrue (list_any (λ b. b.number == t.bank) bs)) (sym banks) (order.in_banks name t (sym (tables name) ∙ p));
    }

-- keys of the dictionary, put together
abbrev placed : ℕ → List Value → TableKey
placed table key = record { table = table; key = key }

at_row : (at : TableKey) (kind : ℕ) (name : List ℕ) → at.table ≡ 6 → at.key ≡ row_key kind name → at ≡ in_row kind name
at_row at kind name table key = ap (λ n. placed n at.key) table ∙ ap (placed 6) key

-- one key is told from another
told_apart : (q at : TableKey) → eq_by_cmp table_key_cmp q at ≡ false → q ≢ at
told_apart q at other same =
    let itself : eq_by_cmp table_key_cmp at at ≡ true = ap is_eq (tied_itself table_key_cmp_total at) in
    let no : eq_by_cmp table_key_cmp at at ≡ false = subst (λ (x : TableKey). eq_by_cmp table_key_cmp x at ≡ false) same other in
    let both : true ≡ false = sym itself ∙ no in cc

-- the rows but the one of this table are as before
row_kept : (s after : State) (name : List ℕ) → SameTables name s after → databanks after ≡ databanks s → {key row : List Value} → IsRow s key row → key ≢ row_key 2 name → IsRow after key row
row_kept s after name others banks (IsRow.databank {name = n} form other is there) differ = IsRow.databank form other is (same_named s after banks n ∙ there)
row_kept s after name others banks (IsRow.table {name = n} form other is there) differ = IsRow.table form other is (others n (unnamed n differ) ∙ there)
  where
    unnamed : (m : List ℕ) → row_key 2 m ≢ row_key 2 name → is_named m name ≡ false
    unnamed m apart =
        elim (is_named m name) as (λ b. is_named m name ≡ b → b ≡ false) [
          | true ↦ λ e. absurd (apart (ap (row_key 2) (same_names m name e)))
          | false ↦ λ e. refl
        ] refl
row_kept s after name others banks (IsRow.number is) differ = IsRow.number is

-- the row of a table that the dictionary tells of
row_there : (s : State) (name : List ℕ) (t : Table) (row : List Value) → table_of s name ≡ Some t → 16 ≤ t.number → get s (in_row 2 name) ≡ Some row → IsRow s (row_key 2 name) row
row_there s name t row is large there =
    elim (origin s name t is) as (λ o. IsRow s (row_key 2 name) row) [
      | fixed named same ↦ let five : t.number ≡ 5 = ap (λ (x : Table). x.number) same in absurd (omega (arith, five, large))
      | told other form numbers ↦ IsRow.table form other
          (sym (ap (λ b. cond b (Some kv) (cond (has_name_form name) (option_and_then table_in_row (get s (in_dictionary name))) None)) other
          ∙ ap (λ b. cond b (option_and_then table_in_row (get s (in_dictionary name))) None) form
          ∙ ap (option_and_then table_in_row) there) ∙ is) is
    ]

-- the row of the next number, where that is above the first one
number_there : (s : State) (row : List Value) → 16 < next_number s → get s (in_row 5 (codes "NEXT")) ≡ Some row → IsRow s (row_key 5 (codes "NEXT")) row
number_there s row large there =
    by (number_in_row row) refl (subst (λ (o : Option (List Value)). 16 < unwrap_or (option_and_then number_in_row o) 16) there large)
  where
    by : (o : Option ℕ) → number_in_row row ≡ o → 16 < unwrap_or o 16 → IsRow s (row_key 5 (codes "NEXT")) row
    by None is more = absurd (omega (arith, more))
    by (Some n) is more = IsRow.number is

-- a number above those of all databanks is none of theirs
unused : (n : ℕ) (banks : List Databank) → All (λ b. (b.number < n) × (b.file < n)) banks → list_any (λ b. b.number == n) banks ≡ false
unused n [] all = refl
unused n (b ∷ banks) all =
    let here = All-head (λ (d : Databank). (d.number < n) × (d.file < n)) b banks all in
    let rest = unused n banks (All-tail (λ (d : Databank). (d.number < n) × (d.file < n)) b banks all) in
    elim (b.number == n) as (λ t. (b.number == n) ≡ t → (t || list_any (λ d. d.number == n) banks) ≡ false) [
      | true ↦ λ e. let same : b.number ≡ n = same_number b.number n e in let less : b.number < n = here.0 in absurd (omega (arith, same, less))
      | false ↦ λ e. rest
    ] refl

-- a databank that is found is there
pub found_there : (p : Databank → Bool) (banks : List Databank) (b : Databank) → find p banks ≡ Some b → list_any (λ d. d.number == b.number) banks ≡ true
found_there p [] b e = cc
found_there p (d ∷ banks) b e =
    elim (p d) as (λ t. cond t (Some d) (find p banks) ≡ Some b → ((d.number == b.number) || list_any (λ x. x.number == b.number) banks) ≡ true) [
      | true ↦ λ f. subst (λ (x : Databank). ((x.number == b.number) || list_any (λ y. y.number == b.number) banks) ≡ true) (sym (inside_some d b f)) (first (b.number == b.number) _ (eq-eqb b.number b.number refl))
      | false ↦ λ f. second (d.number == b.number) _ (found_there p banks b f)
    ] e
  where
    first : (a c : Bool) → a ≡ true → (a || c) ≡ true
    first true c q = refl
    first false c q = cc

    second : (a c : Bool) → c ≡ true → (a || c) ≡ true
    second true c q = refl
    second false c q = q

-- of two tables behind a definition of this name, where each is the one made or one from before
module _ (s after : State) (name : List ℕ) (columns : List ColumnText) (key : List (List ℕ)) (bank : List ℕ) (has : HasCreated name columns key bank s after) (order : IsInOrder s) where
  abbrev new_table : Table
  new_table = asked_table (next_number s) (databank_number s bank) columns key

  -- a table that is there is the one that was made, or was there before
  pub data Earlier (m : List ℕ) (t : Table) : Type 0 where
    made : m ≡ name → t ≡ new_table → Earlier m t
    before : table_of s m ≡ Some t → Earlier m t

  pub earlier : (m : List ℕ) (t : Table) → table_of after m ≡ Some t → Earlier m t
  earlier m t there =
      elim (is_named m name) as (λ b. is_named m name ≡ b → Earlier m t) [
        | true ↦ λ e. let same : m ≡ name = same_names m name e in Earlier.made same (inside_some t new_table (sym there ∙ ap (table_of after) same ∙ has.made))
        | false ↦ λ e. Earlier.before (sym (has.others m e) ∙ there)
      ] refl

  large : 16 ≤ next_number s
  large = (within 16 (next_number s) (next_range s)).0

  rows_created : (at : TableKey) (row : List Value) → at.table ≡ 6 → get after at ≡ Some row → IsRow after at.key row
  rows_created at row is there =
      elim (eq_by_cmp table_key_cmp at (in_row 2 name)) as (λ b. eq_by_cmp table_key_cmp at (in_row 2 name) ≡ b → IsRow after at.key row) [
        | true ↦ λ e. let here : at ≡ in_row 2 name = tied at (in_row 2 name) e in
            subst (λ (q : TableKey). IsRow after q.key row) (sym here) (row_there after name new_table row has.made large (sym (ap (get after) here) ∙ there))
        | false ↦ λ e. elim (eq_by_cmp table_key_cmp at (in_row 5 (codes "NEXT"))) as (λ b. eq_by_cmp table_key_cmp at (in_row 5 (codes "NEXT")) ≡ b → IsRow after at.key row) [
          | true ↦ λ f. let here : at ≡ in_row 5 (codes "NEXT") = tied at (in_row 5 (codes "NEXT")) f in
              let used = has.used in
              subst (λ (q : TableKey). IsRow after q.key row) (sym here) (number_there after row (omega (arith, used, large)) (sym (ap (get after) here) ∙ there))
          | false ↦ λ f. let p = told_apart at (in_row 2 name) e in
              row_kept s after name has.others has.banks (order.rows at row is (sym (has.elsewhere at p (told_apart at (in_row 5 (codes "NEXT")) f)) ∙ there)) (λ same. p (at_row at 2 name is same))
        ] refl
      ] refl

  tables_created : (m n : List ℕ) (t u : Table) → table_of after m ≡ Some t → table_of after n ≡ Some u → t.number ≡ u.number → m ≡ n
  tables_created m n t u p q numbers =
      elim (earlier m t p) as (λ w. m ≡ n) [
        | made here is ↦ elim (earlier n u q) as (λ w. m ≡ n) [
          | made there are ↦ here ∙ sym there
          | before old ↦ let less = order.used.tables n u old in let new : t.number ≡ next_number s = ap (λ (x : Table). x.number) is in absurd (omega (arith, less, new, numbers))
        ]
        | before old ↦ elim (earlier n u q) as (λ w. m ≡ n) [
          | made there are ↦ let less = order.used.tables m t old in let new : u.number ≡ next_number s = ap (λ (x : Table). x.number) are in absurd (omega (arith, less, new, numbers))
          | before older ↦ order.tables m n t u old older numbers
        ]
      ]

  pub order_created : (b : Databank) → databank_named s bank ≡ Some b → IsInOrder after
  order_created b found = record {
    rows = rows_created;
    tables = tables_created;
    banks = subst (λ (bs : List Databank). IsTrue (numbers_differ (map (λ d. d.number) bs))) (sym has.banks) order.banks;
    apart = λ m t p. ap (list_any (λ d. d.number == t.number)) has.banks ∙ elim (earlier m t p) as (λ w. list_any (λ d. d.number == t.number) (databanks s) ≡ false) [
      | made here is ↦ subst (λ (x : Table). list_any (λ d. d.number == x.number) (databanks s) ≡ false) (sym is) (unused (next_number s) (databanks s) order.used.banks)
      | before old ↦ order.apart m t old
    ];
    files = subst (λ (bs : List Databank). IsTrue (numbers_differ (fixed_shadow ∷ map (λ d. d.file) bs))) (sym has.banks) order.files;
    used = used_created s after name columns key bank has order.used;
    in_banks = λ m t p. subst (λ (bs : List Databank). list_any (λ d. d.number == t.bank) bs ≡ true) (sym has.banks) (elim (earlier m t p) as (λ w. list_any (λ d. d.number == t.bank) (databanks s) ≡ true) [
      | made here is ↦ subst (λ (x : Table). list_any (λ d. d.number == x.bank) (databanks s) ≡ true) (sym is)
          (subst (λ (n : ℕ). list_any (λ d. d.number == n) (databanks s) ≡ true) (ap (λ (o : Option Databank). option_map_or (λ d. d.number) o 0) (sym found)) (found_there (λ d. is_named bank d.name) (databanks s) b found))
      | before old ↦ order.in_banks m t old
    ]);
  }

module _ (s after : State) (name : List ℕ) (has : HasDropped name s after) (order : IsInOrder s) where
  -- a table that is there was there before
  pub still : (m : List ℕ) (t : Table) → table_of after m ≡ Some t → table_of s m ≡ Some t
  still m t there =
      elim (is_named m name) as (λ b. is_named m name ≡ b → table_of s m ≡ Some t) [
        | true ↦ λ e. let no : None ≡ Some t = sym has.gone ∙ ap (table_of after) (sym (same_names m name e)) ∙ there in cc
        | false ↦ λ e. sym (has.others m e) ∙ there
      ] refl

  rows_dropped : get after (in_row 2 name) ≡ None → (at : TableKey) (row : List Value) → at.table ≡ 6 → get after at ≡ Some row → IsRow after at.key row
  rows_dropped own at row is there =
      elim (eq_by_cmp table_key_cmp at (in_row 2 name)) as (λ b. eq_by_cmp table_key_cmp at (in_row 2 name) ≡ b → IsRow after at.key row) [
        | true ↦ λ e. let here : at ≡ in_row 2 name = tied at (in_row 2 name) e in
            let no : None ≡ Some row = sym own ∙ sym (ap (get after) here) ∙ there in cc
        | false ↦ λ e. let p = told_apart at (in_row 2 name) e in
            row_kept s after name has.others has.banks (order.rows at row is (sym (has.elsewhere at p) ∙ there)) (λ same. p (at_row at 2 name is same))
      ] refl

  pub order_dropped : get after (in_row 2 name) ≡ None → IsInOrder after
  order_dropped own = record {
    rows = rows_dropped own;
    tables = λ m n t u p q numbers. order.tables m n t u (still m t p) (still n u q) numbers;
    banks = subst (λ (bs : List Databank). IsTrue (numbers_differ (map (λ d. d.number) bs))) (sym has.banks) order.banks;
    apart = λ m t p. ap (list_any (λ d. d.number == t.number)) has.banks ∙ order.apart m t (still m t p);
    files = subst (λ (bs : List Databank). IsTrue (numbers_differ (fixed_shadow ∷ map (λ d. d.file) bs))) (sym has.banks) order.files;
    used = used_dropped s after name has order.used;
    in_banks = λ m t p. subst (λ (bs : List Databank). list_any (λ d. d.number == t.bank) bs ≡ true) (sym has.banks) (order.in_banks m t (still m t p));
  }
