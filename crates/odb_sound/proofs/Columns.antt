-- Each row of a table has the values that its table's columns ask for: what statements and definitions
-- keep of it.
use Rattle.std.proofs.Common.{◌≡◌, ℕ, true, false, cond, nat_lt, List, [], ◌∷◌, ◌++◌, map, length, refl, sym, ap, subst, ◌∙◌, Option, Some, None}
use Rattle.std.specs.Option.{option_or}
use Rattle.std.specs.List.{All, flat_map}
use Rattle.std.specs.FinMap.{entries}
use Rattle.std.proofs.lemmas.List.{length-map}
use Rattle.std.proofs.lemmas.List.Elements.{All-nil, All-cons, All-head, All-tail, All-append, All-filter, All-weaker}
use Rattle.odb_values.specs.declared.value.Value.{Value}
use Rattle.odb_model.specs.declared.write.Write.{Write}
use Rattle.odb_model.specs.declared.table_key.TableKey.{TableKey}
use Rattle.odb_model.specs.declared.reply.Reply.{Reply}
use Rattle.odb_model.specs.declared.reply.Reply.TheVariants.{TooManyWrites, Done}
use Rattle.odb_model.specs.declared.predicate.Predicate.{Predicate}
use Rattle.odb_model.specs.declared.statement.Assignment.{Assignment}
use Rattle.odb_model.specs.declared.statement.Statement.{Statement}
use Rattle.odb_model.specs.declared.statement.Statement.TheVariants.{Select, Insert, Update, Delete}
use Rattle.odb_model.specs.State.{State, table_key_of, after_writes, rows_of}
use Rattle.odb_model.specs.Table.{Table, value_at, key_of, row_of, places_outside}
use Rattle.odb_model.specs.Dictionary.{table_of, names_differ}
use Rattle.odb_model.specs.Binding.{first_refusal, binding_refusal, tuple_refusal, sets_refusal, filter_refusal}
use Rattle.odb_model.specs.Fitting.{row_refusal}
use Rattle.odb_model.specs.Truth.{matches}
use Rattle.odb_model.specs.Meaning.{meaning, refused, refused_or, done, different, most_writes, executed, on_table, values_of, kept_rows, write_at, put_of, writes_of, with_write, duplicate_refusal, tuples_refusal, new_values, new_row_refusal, new_row_writes, update_refusal, update_writes, delete_writes}
use Rattle.odb_model.specs.Transaction.{table_keys, meaning_over, alone_writes}
use Rattle.odb_model.proofs.KeysKept.{or_none}
use Rattle.odb_catalog.proofs.Names.{inside_some}
use Rattle.odb_sound.specs.Sound.{IsInOrder, HasColumns, HaveColumns}
use Rattle.odb_sound.proofs.Kept.{Holds, OfRows, OfWrite, of_after, WhereIn, from_rows, to_rows}
use Rattle.odb_sound.proofs.Made.{IsMade, made, tables_stay, table_names}
use Rattle.odb_sound.proofs.Taking.{tuple_taken, update_taken}

-- a row has the columns of its table, where the dictionary has that
abbrev pub IsShape : State → TableKey → List Value → Type 0
IsShape base at row = (name : List ℕ) (t : Table) → table_of base name ≡ Some t → at.table ≡ t.number → HasColumns t at.key row

-- a row of this table, with its columns
abbrev IsWhole : Table → TableKey × List Value → Type 0
IsWhole t e = (e.0.table ≡ t.number) × HasColumns t e.0.key e.1

-- a write that puts a row puts such a one
abbrev PutsWhole : Table → Write → Type 0
PutsWhole t w = (row : List Value) → w.row ≡ Some row → (w.table ≡ t.number) × HasColumns t w.key row

-- the names of a table's columns differ
abbrev HasNames : Table → Type 0
HasNames t = names_differ (map (λ c. c.name) t.columns) ≡ true

module _ (format : ℕ) (t : Table) (names : HasNames t) where
  nothing : All (PutsWhole t) []
  nothing = All-nil (PutsWhole t)

  done_whole : (written : List TableKey) (count : ℕ) (writes : List Write) → All (PutsWhole t) writes → All (PutsWhole t) (done written count writes).writes
  done_whole written count writes all =
      elim (nat_lt most_writes (different (written ++ map table_key_of writes))) as (λ b. All (PutsWhole t) (cond b (refused TooManyWrites) (record { reply = Done count; writes = writes })).writes) [
        | true ↦ nothing
        | false ↦ all
      ]

  -- the same, unless they are refused: then nothing is asked of them
  unless_whole : (o : Option Reply) (written : List TableKey) (count : ℕ) (writes : List Write) → (o ≡ None → All (PutsWhole t) writes) → All (PutsWhole t) (refused_or o (done written count writes)).writes
  unless_whole None written count writes all = done_whole written count writes (all refl)
  unless_whole (Some reply) written count writes all = nothing

  put_whole : (values : List Value) → tuple_refusal t.columns values ≡ None → row_refusal format t (key_of t values) values ≡ None → PutsWhole t (put_of t values)
  put_whole values bound fits row e = (
    refl,
    subst (λ (r : List Value). HasColumns t (key_of t values) r) (inside_some (row_of t values) row e)
        (record {
          key_values = length-map t.key (value_at values);
          row_values = length-map (places_outside t) (value_at values);
          each = tuple_taken format t values bound fits;
        }),
  )

  tuples_whole : (tuples : List (List Value)) (s : State) → first_refusal (tuple_refusal t.columns) tuples ≡ None → tuples_refusal format t s tuples ≡ None → All (PutsWhole t) (flat_map (writes_of t) tuples)
  tuples_whole [] s bound e = nothing
  tuples_whole (values ∷ tuples) s bound e =
      let fit = or_none (row_refusal format t (key_of t values) values) _ e in
      let new = or_none (duplicate_refusal s (put_of t values)) _ fit.1 in
      let binds = or_none (tuple_refusal t.columns values) (first_refusal (tuple_refusal t.columns) tuples) bound in
      All-cons (PutsWhole t) (put_of t values) (flat_map (writes_of t) tuples) (put_whole values binds.0 fit.0) (tuples_whole tuples (with_write s (put_of t values)) binds.1 new.1)

  -- a row of the table behind an UPDATE
  updated_row : (sets : List Assignment) → sets_refusal t sets ≡ None → (row : TableKey × List Value) → IsWhole t row → (new : List Value) → new_values t sets (values_of t row) ≡ Some new
      → row_refusal format t row.0.key new ≡ None → PutsWhole t (write_at t row.0 (Some (row_of t new)))
  updated_row sets bound row old new is fits r e = (
    old.0,
    subst (λ (x : List Value). HasColumns t row.0.key x) (inside_some (row_of t new) r e)
        (record {
          key_values = old.1.key_values;
          row_values = length-map (places_outside t) (value_at new);
          each = update_taken format t names sets bound row.0.key row.1 old.1.each new is fits;
        }),
  )

  updated_whole : (sets : List Assignment) → sets_refusal t sets ≡ None → (rows : List (TableKey × List Value)) → first_refusal (update_refusal format t sets) rows ≡ None → All (IsWhole t) rows
      → All (PutsWhole t) (flat_map (update_writes t sets) rows)
  updated_whole sets bound [] e all = nothing
  updated_whole sets bound (row ∷ rows) e all =
      let rest = updated_whole sets bound rows (or_none (update_refusal format t sets row) (first_refusal (update_refusal format t sets) rows) e).1 (All-tail (IsWhole t) row rows all) in
      let old : IsWhole t row = All-head (IsWhole t) row rows all in
      elim (new_values t sets (values_of t row)) as (λ o. new_values t sets (values_of t row) ≡ o → option_or (new_row_refusal format t row.0 o) (first_refusal (update_refusal format t sets) rows) ≡ None
      → All (PutsWhole t) (new_row_writes t row.0 o ++ flat_map (update_writes t sets) rows)) [
        | None ↦ λ is none. rest
        | Some new ↦ λ is none.
            let fit = or_none (row_refusal format t row.0.key new) (first_refusal (update_refusal format t sets) rows) none in
            All-cons (PutsWhole t) (write_at t row.0 (Some (row_of t new))) (flat_map (update_writes t sets) rows) (updated_row sets bound row old new is fit.0) rest
      ] refl e

  gone_whole : (row : TableKey × List Value) → PutsWhole t (record { bank = t.bank; table = row.0.table; key = row.0.key; row = None })
  gone_whole row r e = let no : None ≡ Some r = e in cc

  deleted_whole : (rows : List (TableKey × List Value)) → All (PutsWhole t) (flat_map (delete_writes t) rows)
  deleted_whole [] = nothing
  deleted_whole (row ∷ rows) = All-cons (PutsWhole t) _ (flat_map (delete_writes t) rows) (gone_whole row) (deleted_whole rows)

  kept_whole : (s : State) → All (IsWhole t) (rows_of t.number s) → (filter_of : Option Predicate) → All (IsWhole t) (kept_rows t filter_of s)
  kept_whole s all filter_of = All-filter (λ e. matches t.columns filter_of (values_of t e)) (IsWhole t) (rows_of t.number s) all

  executed_whole : (st : Statement) (s : State) (written : List TableKey) → binding_refusal t st ≡ None → All (IsWhole t) (rows_of t.number s) → All (PutsWhole t) (executed t st s written format).writes
  executed_whole (Select what table filter_of) s written bound all = nothing
  executed_whole (Insert table tuples) s written bound all =
      unless_whole (tuples_refusal format t s tuples) written (length tuples) (flat_map (writes_of t) tuples) (tuples_whole tuples s bound)
  executed_whole (Update table sets filter_of) s written bound all =
      let rows : List (TableKey × List Value) = kept_rows t filter_of s in
      let binds = or_none (sets_refusal t sets) (filter_refusal t.columns filter_of) bound in
      unless_whole (first_refusal (update_refusal format t sets) rows) written (length rows) (flat_map (update_writes t sets) rows)
      (λ e. updated_whole sets binds.0 rows e (kept_whole s all filter_of))
  executed_whole (Delete table filter_of) s written bound all =
      let rows : List (TableKey × List Value) = kept_rows t filter_of s in
      done_whole written (length rows) (flat_map (delete_writes t) rows) (deleted_whole rows)
  executed_whole other s written bound all = nothing

  bound_whole : (o : Option Reply) (st : Statement) (s : State) (written : List TableKey) → binding_refusal t st ≡ o → All (IsWhole t) (rows_of t.number s)
      → All (PutsWhole t) (refused_or o (executed t st s written format)).writes
  bound_whole None st s written bound all = executed_whole st s written bound all
  bound_whole (Some reply) st s written bound all = nothing

module _ (base : State) (order : IsInOrder base) where
  -- the rows of a table that is there
  table_whole : (s : State) → OfRows (IsShape base) s → (name : List ℕ) (t : Table) → table_of base name ≡ Some t → All (IsWhole t) (rows_of t.number s)
  table_whole s all name t there =
      to_rows (IsWhole t) t.number s
      (All-weaker (Holds (IsShape base)) (WhereIn (IsWhole t) t.number) (λ e p same. (same, p name t there same)) (entries s) all)

  -- such a write puts a row of a table that is there
  shaped : (name : List ℕ) (t : Table) → table_of base name ≡ Some t → (w : Write) → PutsWhole t w → OfWrite (IsShape base) w
  shaped name t there w puts row is other u told same =
      let whole = puts row is in
      let one : name ≡ other = order.tables name other t u there told (sym whole.0 ∙ same) in
      let tables : t ≡ u = inside_some t u (sym there ∙ ap (table_of base) one ∙ told) in
      subst (λ (x : Table). HasColumns x w.key row) tables whole.1

  module _ (s : State) (same : (name : List ℕ) → table_of s name ≡ table_of base name) (all : OfRows (IsShape base) s) (written : List TableKey) (format : ℕ) where
    on_table_shaped : (name : List ℕ) (o : Option Table) → table_of base name ≡ o → (st : Statement) → All (OfWrite (IsShape base)) (on_table o st s written format).writes
    on_table_shaped name None is st = All-nil (OfWrite (IsShape base))
    on_table_shaped name (Some t) is st =
        All-weaker (PutsWhole t) (OfWrite (IsShape base)) (shaped name t is) _
        (bound_whole format t (table_names base name t is) (binding_refusal t st) st s written refl (table_whole s all name t is))

    writes_shaped : (st : Statement) → All (OfWrite (IsShape base)) (meaning st s written format).writes
    writes_shaped (Select what table filter_of) = on_table_shaped table (table_of s table) (sym (same table)) (Select what table filter_of)
    writes_shaped (Insert table tuples) = on_table_shaped table (table_of s table) (sym (same table)) (Insert table tuples)
    writes_shaped (Update table sets filter_of) = on_table_shaped table (table_of s table) (sym (same table)) (Update table sets filter_of)
    writes_shaped (Delete table filter_of) = on_table_shaped table (table_of s table) (sym (same table)) (Delete table filter_of)
    writes_shaped other = All-nil (OfWrite (IsShape base))

  -- what statements put one after another
  pub alone_shaped : OfRows (IsShape base) base → (ws : List Write) (sts : List Statement) (format : ℕ) → All (IsMade base) ws → All (OfWrite (IsShape base)) ws → All (OfWrite (IsShape base)) (alone_writes base ws sts format)
  alone_shaped rows ws [] format all shape = shape
  alone_shaped rows ws (st ∷ sts) format all shape =
      let more : List Write = (meaning_over st base ws format).writes in
      let s : State = after_writes base ws in
      let same = tables_stay base base ws all in
      alone_shaped rows (ws ++ more) sts format
      (All-append (IsMade base) ws more all (made base s same (table_keys ws) format st))
      (All-append (OfWrite (IsShape base)) ws more shape (writes_shaped s same (of_after (IsShape base) ws base shape rows) (table_keys ws) format st))

-- of the rows of a state whose tables have their columns
pub rows_shaped : (s : State) → HaveColumns s → OfRows (IsShape s) s
rows_shaped s have k d within name t there same =
    from_rows (λ e. HasColumns t e.0.key e.1) t.number s (have name t there) k d within same

-- and back, on a later state: of a table that was there before
pub table_shaped : (base s : State) → OfRows (IsShape base) s → (name : List ℕ) (t : Table) → table_of base name ≡ Some t → All (λ e. HasColumns t e.0.key e.1) (rows_of t.number s)
table_shaped base s all name t there =
    to_rows (λ e. HasColumns t e.0.key e.1) t.number s
    (All-weaker (Holds (IsShape base)) (WhereIn (λ e. HasColumns t e.0.key e.1) t.number) (λ e p same. p name t there same) (entries s) all)
