-- What a statement, and a transaction run alone, writes: rows of tables that the dictionary has, in
-- their databanks.
use Rattle.std.proofs.Common.{◌≡◌, ◌≢◌, ℕ, ◌<◌, ◌≤◌, ◌^◌, pos, Bool, true, false, ◌==◌, cond, nat_lt, List, [], ◌∷◌, ◌++◌, map, length, refl, sym, ap, subst, ◌∙◌, Option, Some, None, unwrap_or, codes, arith}
use Rattle.std.specs.Option.{option_and_then}
use Rattle.std.specs.List.{All, filter, flat_map}
use Rattle.std.specs.declared.cmp.Ordering.TheVariants.{Less, Equal, Greater}
use Rattle.std.specs.Ordering.{is_eq, eq_by_cmp}
use Rattle.std.specs.FinMap.{get, entries, retain_keys, values}
use Rattle.std.proofs.lemmas.Simd.{map-map}
use Rattle.std.proofs.lemmas.List.Elements.{All-nil, All-cons, All-head, All-tail, All-append, All-filter, All-map, All-weaker}
use Rattle.odb_values.specs.declared.value.Value.{Value}
use Rattle.odb_values.specs.declared.value.Value.TheVariants.{Int}
use Rattle.odb_model.specs.declared.write.Write.{Write}
use Rattle.odb_model.specs.declared.table_key.TableKey.{TableKey}
use Rattle.odb_model.specs.declared.reply.Reply.{Reply}
use Rattle.odb_model.specs.declared.reply.Reply.TheVariants.{TooManyWrites, Done}
use Rattle.odb_model.specs.declared.predicate.Predicate.{Predicate}
use Rattle.odb_model.specs.declared.statement.Assignment.{Assignment}
use Rattle.odb_model.specs.declared.statement.Statement.{Statement}
use Rattle.odb_model.specs.declared.statement.Statement.TheVariants.{Select, Insert, Update, Delete}
use Rattle.odb_model.specs.State.{State, table_key_cmp, table_key_of, changed, after_writes, rows_of, is_in}
use Rattle.odb_model.specs.Table.{Column, Table, kv, is_named}
use Rattle.odb_model.specs.Dictionary.{Described, names_differ, is_key, table_of, table_in_row, table_by, are_columns, columns_in, is_number_from, in_dictionary, has_name_form}
use Rattle.odb_model.specs.Binding.{first_refusal, binding_refusal}
use Rattle.odb_model.specs.Truth.{matches}
use Rattle.odb_model.specs.Meaning.{meaning, refused, refused_or, done, different, most_writes, executed, on_table, values_of, kept_rows, put_of, writes_of, tuples_refusal, new_values, new_row_writes, update_refusal, update_writes, delete_writes}
use Rattle.odb_model.specs.Reads.{dictionary_row}
use Rattle.odb_model.specs.Transaction.{table_keys, meaning_over, alone_writes, last_writes, is_there, net}
use Rattle.odb_model.proofs.Replay.{table_key_cmp_exact, get-changed_at}
use Rattle.odb_model.proofs.Parts.{entries-retain_keys}
use Rattle.odb_model.proofs.Keys.{IsAtItsKey, All-last_writes}
use Rattle.odb_model.proofs.Covering.{and_true, same_number}
use Rattle.odb_model.proofs.Agree.{table_of-same}
use Rattle.odb_catalog.proofs.Names.{same_names}
use Rattle.odb_catalog.proofs.Numbers.{within}
use Rattle.odb_sound.specs.Sound.{HasTable}

-- the write is to a table that the dictionary has, in its databank
abbrev pub IsMade : State → Write → Type 0
IsMade s w = HasTable s w.table w.bank

-- the write is to this table, in its databank
abbrev IsOf : Table → Write → Type 0
IsOf t w = (w.table ≡ t.number) × (w.bank ≡ t.bank)

-- the row is one of this table
abbrev IsRowOf : Table → TableKey × List Value → Type 0
IsRowOf t e = e.0.table ≡ t.number

module _ (t : Table) where
  nothing : All (IsOf t) []
  nothing = All-nil (IsOf t)

  done_of : (written : List TableKey) (count : ℕ) (writes : List Write) → All (IsOf t) writes → All (IsOf t) (done written count writes).writes
  done_of written count writes all =
      elim (nat_lt most_writes (different (written ++ map table_key_of writes))) as (λ b. All (IsOf t) (cond b (refused TooManyWrites) (record { reply = Done count; writes = writes })).writes) [
        | true ↦ nothing
        | false ↦ all
      ]

  unless_of : (o : Option Reply) (written : List TableKey) (count : ℕ) (writes : List Write) → All (IsOf t) writes → All (IsOf t) (refused_or o (done written count writes)).writes
  unless_of None written count writes all = done_of written count writes all
  unless_of (Some reply) written count writes all = nothing

  tuples_of : (tuples : List (List Value)) → All (IsOf t) (flat_map (writes_of t) tuples)
  tuples_of [] = nothing
  tuples_of (values ∷ tuples) = All-cons (IsOf t) (put_of t values) (flat_map (writes_of t) tuples) (refl, refl) (tuples_of tuples)

  updated_of : (sets : List Assignment) (rows : List (TableKey × List Value)) → All (IsRowOf t) rows → All (IsOf t) (flat_map (update_writes t sets) rows)
  updated_of sets [] all = nothing
  updated_of sets (row ∷ rows) all =
      let rest = updated_of sets rows (All-tail (IsRowOf t) row rows all) in
      elim (new_values t sets (values_of t row)) as (λ o. All (IsOf t) (new_row_writes t row.0 o ++ flat_map (update_writes t sets) rows)) [
        | None ↦ rest
        | Some new ↦ All-cons (IsOf t) _ (flat_map (update_writes t sets) rows) (All-head (IsRowOf t) row rows all, refl) rest
      ]

  deleted_of : (rows : List (TableKey × List Value)) → All (IsRowOf t) rows → All (IsOf t) (flat_map (delete_writes t) rows)
  deleted_of [] all = nothing
  deleted_of (row ∷ rows) all =
      All-cons (IsOf t) _ (flat_map (delete_writes t) rows) (All-head (IsRowOf t) row rows all, refl) (deleted_of rows (All-tail (IsRowOf t) row rows all))

  in_table : (es : List (TableKey × List Value)) → All (IsRowOf t) (filter (λ e. t.number == e.0.table) es)
  in_table [] = All-nil (IsRowOf t)
  in_table (e ∷ es) =
      elim (t.number == e.0.table) as (λ b. (t.number == e.0.table) ≡ b → All (IsRowOf t) (cond b (e ∷ filter (λ x. t.number == x.0.table) es) (filter (λ x. t.number == x.0.table) es))) [
        | true ↦ λ same. All-cons (IsRowOf t) e (filter (λ x. t.number == x.0.table) es) (sym (same_number t.number e.0.table same)) (in_table es)
        | false ↦ λ other. in_table es
      ] refl

  kept_of : (filter_of : Option Predicate) (s : State) → All (IsRowOf t) (kept_rows t filter_of s)
  kept_of filter_of s =
      All-filter (λ e. matches t.columns filter_of (values_of t e)) (IsRowOf t) (rows_of t.number s)
      (subst (All (IsRowOf t)) (sym (entries-retain_keys s (λ at. t.number == at.table))) (in_table (entries s)))

  executed_of : (st : Statement) (s : State) (written : List TableKey) (format : ℕ) → All (IsOf t) (executed t st s written format).writes
  executed_of (Select what table filter_of) s written format = nothing
  executed_of (Insert table tuples) s written format =
      unless_of (tuples_refusal format t s tuples) written (length tuples) (flat_map (writes_of t) tuples) (tuples_of tuples)
  executed_of (Update table sets filter_of) s written format =
      let rows : List (TableKey × List Value) = kept_rows t filter_of s in
      unless_of (first_refusal (update_refusal format t sets) rows) written (length rows) (flat_map (update_writes t sets) rows) (updated_of sets rows (kept_of filter_of s))
  executed_of (Delete table filter_of) s written format =
      let rows : List (TableKey × List Value) = kept_rows t filter_of s in
      done_of written (length rows) (flat_map (delete_writes t) rows) (deleted_of rows (kept_of filter_of s))
  executed_of other s written format = nothing

  bound_of : (o : Option Reply) (st : Statement) (s : State) (written : List TableKey) (format : ℕ) → All (IsOf t) (refused_or o (executed t st s written format)).writes
  bound_of None st s written format = executed_of st s written format
  bound_of (Some reply) st s written format = nothing

module _ (base s : State) (same : (name : List ℕ) → table_of s name ≡ table_of base name) (written : List TableKey) (format : ℕ) where
  on_table_made : (name : List ℕ) (o : Option Table) → table_of base name ≡ o → (st : Statement) → All (IsMade base) (on_table o st s written format).writes
  on_table_made name None is st = All-nil (IsMade base)
  on_table_made name (Some t) is st =
      All-weaker (IsOf t) (IsMade base) (λ w p. record { name = name; table = t; there = is; is_number = sym p.0; is_bank = sym p.1 }) _
      (bound_of t (binding_refusal t st) st s written format)

  -- what a statement writes on a state with the same tables
  pub made : (st : Statement) → All (IsMade base) (meaning st s written format).writes
  made (Select what table filter_of) = on_table_made table (table_of s table) (sym (same table)) (Select what table filter_of)
  made (Insert table tuples) = on_table_made table (table_of s table) (sym (same table)) (Insert table tuples)
  made (Update table sets filter_of) = on_table_made table (table_of s table) (sym (same table)) (Update table sets filter_of)
  made (Delete table filter_of) = on_table_made table (table_of s table) (sym (same table)) (Delete table filter_of)
  made other = All-nil (IsMade base)

-- the numbers of a table of the dictionary, and its names
pub record HasNumbers (t : Table) : Type 0 where
  pub number : 16 ≤ t.number
  pub small : t.number < 2 ^ 32
  pub bank : 2 ≤ t.bank
  pub bank_small : t.bank < 2 ^ 32
  pub names : names_differ (map (λ c. c.name) t.columns) ≡ true

then_some : {A : Type 0} (b : Bool) (x y : A) → cond b (Some x) None ≡ Some y → (b ≡ true) × (x ≡ y)
then_some true x y e = (refl, ap (λ o. unwrap_or o x) e)
then_some false x y e = cc

by_numbers : (number bank count : ℕ) (columns : List Described) (t : Table) → table_by number bank count columns ≡ Some t → HasNumbers t
by_numbers number bank count columns t e =
    let form = then_some _ _ _ e in
    let all = and_true _ (are_columns columns) form.0 in
    let both = and_true (is_number_from 16 number) (is_number_from 2 bank) (and_true _ (count == length columns) all.0).0 in
    let differ = (and_true _ (names_differ (map (λ d. d.column.name) columns)) (and_true _ (is_key (map (λ d. d.key_place) columns)) all.1).0).1 in
    let n = within 16 number both.0 in
    let b = within 2 bank both.1 in
    subst HasNumbers form.1 (record {
      number = n.0;
      small = n.1;
      bank = b.0;
      bank_small = b.1;
      names = ap names_differ (map-map (λ (c : Column). c.name) (λ (d : Described). d.column) columns) ∙ differ;
    })

columns_numbers : (number bank count : ℕ) (o : Option (List Described)) (t : Table) → option_and_then (table_by number bank count) o ≡ Some t → HasNumbers t
columns_numbers number bank count None t e = cc
columns_numbers number bank count (Some columns) t e = by_numbers number bank count columns t e

row_numbers : (row : List Value) (t : Table) → table_in_row row ≡ Some t → HasNumbers t
row_numbers (Int (pos number) ∷ Int (pos bank) ∷ Int (pos count) ∷ columns) t e = columns_numbers number bank count (columns_in columns) t e
row_numbers other t e = cc

stored_numbers : (o : Option (List Value)) (t : Table) → option_and_then table_in_row o ≡ Some t → HasNumbers t
stored_numbers None t e = cc
stored_numbers (Some row) t e = row_numbers row t e

-- KV is fixed, and any other table has a row of the dictionary
pub data Origin (s : State) (name : List ℕ) (t : Table) : Type 0 where
  fixed : name ≡ codes "KV" → t ≡ kv → Origin s name t
  told : is_named name (codes "KV") ≡ false → has_name_form name ≡ true → HasNumbers t → Origin s name t

pub origin : (s : State) (name : List ℕ) (t : Table) → table_of s name ≡ Some t → Origin s name t
origin s name t e =
    elim (is_named name (codes "KV")) as (λ b. is_named name (codes "KV") ≡ b → cond b (Some kv) (cond (has_name_form name) (option_and_then table_in_row (get s (in_dictionary name))) None) ≡ Some t → Origin s name t) [
      | true ↦ λ is same. Origin.fixed (same_names name (codes "KV") is) (sym (then_some true kv t same).1)
      | false ↦ λ is. elim (has_name_form name) as (λ c. has_name_form name ≡ c → cond c (option_and_then table_in_row (get s (in_dictionary name))) None ≡ Some t → Origin s name t) [
        | true ↦ λ form stored. Origin.told is form (stored_numbers (get s (in_dictionary name)) t stored)
        | false ↦ λ form none. cc
      ] refl
    ] refl e

-- the names of a table's columns differ
pub table_names : (s : State) (name : List ℕ) (t : Table) → table_of s name ≡ Some t → names_differ (map (λ c. c.name) t.columns) ≡ true
table_names s name t e =
    elim (origin s name t e) as (λ o. names_differ (map (λ c. c.name) t.columns) ≡ true) [
      | fixed named same ↦ subst (λ (x : Table). names_differ (map (λ c. c.name) x.columns) ≡ true) (sym same) refl
      | told other form numbers ↦ numbers.names
    ]

-- no table is the dictionary
pub not_dictionary : (s : State) (number bank : ℕ) → HasTable s number bank → number ≢ 6
not_dictionary s number bank has is =
    elim (origin s has.name has.table has.there) as (λ o. ⊥) [
      | fixed name same ↦ let five : has.table.number ≡ 5 = ap (λ (x : Table). x.number) same in
          let n = has.is_number in omega arith
      | told other form numbers ↦ let large = numbers.number in let n = has.is_number in omega arith
    ]

-- both numbers have 32 bits
pub both_small : (s : State) (number bank : ℕ) → HasTable s number bank → (number < 2 ^ 32) × (bank < 2 ^ 32)
both_small s number bank has =
    let n = has.is_number in
    let b = has.is_bank in
    elim (origin s has.name has.table has.there) as (λ o. (number < 2 ^ 32) × (bank < 2 ^ 32)) [
      | fixed name same ↦ let five : has.table.number ≡ 5 = ap (λ (x : Table). x.number) same in
          let four : has.table.bank ≡ 4 = ap (λ (x : Table). x.bank) same in
          (omega (arith, n, five), omega (arith, b, four))
      | told other form numbers ↦ let p = numbers.small in let q = numbers.bank_small in (omega (arith, n, p), omega (arith, b, q))
    ]

-- two keys of different tables are told apart
pub apart : (q at : TableKey) → q.table ≢ at.table → eq_by_cmp table_key_cmp q at ≡ false
apart q at differ =
    elim (table_key_cmp q at) as (λ o. table_key_cmp q at ≡ o → is_eq o ≡ false) [
      | Less ↦ λ e. refl
      | Equal ↦ λ e. absurd (differ (ap (λ (k : TableKey). k.table) (table_key_cmp_exact q at e)))
      | Greater ↦ λ e. refl
    ] refl

module _ (base : State) where
  -- such writes leave the dictionary
  pub dictionary_stays : (s : State) (ws : List Write) → All (IsMade base) ws → (q : TableKey) → q.table ≡ 6 → get (after_writes s ws) q ≡ get s q
  dictionary_stays s [] all q is = refl
  dictionary_stays s (w ∷ ws) all q is =
      let differ : q.table ≢ w.table = λ same. not_dictionary base w.table w.bank (All-head (IsMade base) w ws all) (sym same ∙ is) in
      dictionary_stays (changed s (table_key_of w) w.row) ws (All-tail (IsMade base) w ws all) q is
      ∙ get-changed_at s (table_key_of w) w.row q ∙ ap (λ b. cond b w.row (get s q)) (apart q (table_key_of w) differ)

  in_row_table : (name : List ℕ) (q : TableKey) → is_in (dictionary_row name) q ≡ true → q.table ≡ 6
  in_row_table name q inside = sym (same_number 6 q.table (and_true (6 == q.table) _ inside).0)

  -- so the tables are the same
  pub tables_stay : (s : State) (ws : List Write) → All (IsMade base) ws → (name : List ℕ) → table_of (after_writes s ws) name ≡ table_of s name
  tables_stay s ws all name = table_of-same name (after_writes s ws) s (λ q inside. dictionary_stays s ws all q (in_row_table name q inside))

  -- what statements write one after another
  pub alone_made : (ws : List Write) (sts : List Statement) (format : ℕ) → All (IsMade base) ws → All (IsMade base) (alone_writes base ws sts format)
  alone_made ws [] format all = all
  alone_made ws (st ∷ sts) format all =
      let more : List Write = (meaning_over st base ws format).writes in
      alone_made (ws ++ more) sts format
      (All-append (IsMade base) ws more all (made base (after_writes base ws) (tables_stay base ws all) (table_keys ws) format st))

-- what they leave is among them
pub net_of : (P : Write → Type 0) (s : State) (ws : List Write) → All P ws → All P (net s ws)
net_of P s ws all =
    All-map P (λ e. e.1) (entries (retain_keys (last_writes ws) (is_there s ws)))
    (All-weaker (IsAtItsKey P) (λ e. P e.1) (λ e h. h.1) (entries (retain_keys (last_writes ws) (is_there s ws)))
    (subst (All (IsAtItsKey P)) (sym (entries-retain_keys (last_writes ws) (is_there s ws)))
    (All-filter (λ e. is_there s ws e.0) (IsAtItsKey P) (entries (last_writes ws)) (All-last_writes P ws all))))
