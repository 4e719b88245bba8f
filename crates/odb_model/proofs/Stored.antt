-- What a transaction writes can always be stored.
use Rattle.std.proofs.Common.{◌≡◌, ℕ, ◌≤◌, Bool, true, false, cond, nat_lt, nat_le, List, [], ◌∷◌, ◌++◌, map, length, refl, sym, ap, subst, Option, Some, None, arith, lit≤, append-nil}
use Rattle.std.specs.Option.{option_or}
use Rattle.std.specs.List.{All, flat_map}
use Rattle.std.specs.List.Sorted.{IsStrictlySortedBy}
use Rattle.std.specs.FinMap.{entries, entries_sorted, retain_keys}
use Rattle.std.proofs.lemmas.Bool.Decides.{nat_tests}
use Rattle.std.proofs.lemmas.List.{map-append, length-map}
use Rattle.std.proofs.lemmas.List.Elements.{All-nil, All-cons, All-head, All-tail, All-append, All-filter, All-map, All-weaker}
use Rattle.odb_values.specs.declared.value.Value.{Value}
use Rattle.odb_values.specs.Key.{width_of_all}
use Rattle.odb_model.specs.declared.write.Write.{Write}
use Rattle.odb_model.specs.declared.reply.Reply.{Reply}
use Rattle.odb_model.specs.declared.reply.Reply.TheVariants.{NullNotAllowed, TooLong, KeyTooWide, RowTooWide, TooManyWrites, Done}
use Rattle.odb_model.specs.declared.statement.Assignment.{Assignment}
use Rattle.odb_model.specs.declared.statement.Statement.{Statement}
use Rattle.odb_model.specs.declared.statement.Statement.TheVariants.{Select, Insert, Update, Delete}
use Rattle.odb_model.specs.declared.table_key.TableKey.{TableKey}
use Rattle.odb_model.specs.State.{State, table_key_cmp, table_key_of}
use Rattle.odb_model.specs.Table.{Table, key_of, row_of}
use Rattle.odb_model.specs.Dictionary.{table_of}
use Rattle.odb_model.specs.Binding.{first_refusal, binding_refusal}
use Rattle.odb_model.specs.Width.{row_fits}
use Rattle.odb_model.specs.Fitting.{lacks_value, has_long_text, widest_key, row_refusal}
use Rattle.odb_model.specs.Truth.{matches}
use Rattle.odb_model.specs.Meaning.{meaning, refused, refused_or, done, different, most_writes, executed, on_table, values_of, kept_rows, write_at, place_of, put_of, writes_of, with_write, duplicate_refusal, tuples_refusal, new_values, new_row_refusal, update_refusal, new_row_writes, update_writes, delete_writes}
use Rattle.odb_model.specs.Transaction.{table_keys, last_writes, is_there, net}
use Rattle.odb_model.specs.Storable.{IsNarrow, AreStorable, IsStorableList, HasKeys}
use Rattle.odb_model.proofs.Parts.{entries-retain_keys}
use Rattle.odb_model.proofs.Keys.{entries-empty, length-last_writes, IsAtItsKey, All-last_writes, table_keys_of_entries, keys_ascend, length-filter-le}
use Rattle.odb_model.proofs.Agree.{none_refused}
use Rattle.odb_model.proofs.KeysKept.{or_none, IsKeyedRow, kept_keyed}

pub nothing_stored : AreStorable []
nothing_stored = record { few = subst (λ (n : ℕ). n ≤ 4096) (sym (ap length (entries-empty (Unit {0})))) (lit≤ tt); narrow = All-nil IsNarrow }

-- a statement without writes
nothing_more : (write_set : List Write) → AreStorable write_set → AreStorable (write_set ++ [])
nothing_more write_set f = subst AreStorable (sym (append-nil write_set)) f

not_above : (a b : ℕ) → nat_lt a b ≡ false → b ≤ a
not_above a b e = grind (arith, nat_tests)

at_most : (a b : ℕ) → nat_le a b ≡ true → a ≤ b
at_most a b e = grind (arith, nat_tests)

-- narrow writes, unless they are too many
done_stored : (write_set : List Write) (count : ℕ) (writes : List Write) → All IsNarrow writes → AreStorable write_set → AreStorable (write_set ++ (done (table_keys write_set) count writes).writes)
done_stored write_set count writes narrow f =
    elim (nat_lt most_writes (different (table_keys write_set ++ map table_key_of writes))) as (λ b. nat_lt most_writes (different (table_keys write_set ++ map table_key_of writes)) ≡ b
    → AreStorable (write_set ++ (cond b (refused TooManyWrites) (record { reply = Done count; writes = writes })).writes)) [
      | true ↦ λ e. nothing_more write_set f
      | false ↦ λ e. record {
        few = subst (λ (ps : List TableKey). different ps ≤ 4096) (sym (map-append table_key_of write_set writes)) (not_above most_writes _ e);
        narrow = All-append IsNarrow write_set writes f.narrow narrow;
      }
    ] refl

-- the same, unless they are refused: then nothing is asked of them
unless_stored : (write_set : List Write) (count : ℕ) (writes : List Write) (o : Option Reply) → (o ≡ None → All IsNarrow writes) → AreStorable write_set
    → AreStorable (write_set ++ (refused_or o (done (table_keys write_set) count writes)).writes)
unless_stored write_set count writes None narrow f = done_stored write_set count writes (narrow refl) f
unless_stored write_set count writes (Some reply) narrow f = nothing_more write_set f

-- a row that isn't refused in format 1 is narrow
fits_narrow : (t : Table) (at : TableKey) (values : List Value) → row_refusal 1 t at.key values ≡ None → IsNarrow (write_at t at (Some (row_of t values)))
fits_narrow t at values e =
    let full = none_refused (lacks_value t at.key values) NullNotAllowed _ e in
    let short = none_refused (has_long_text t values) TooLong _ full.1 in
    let keyed = none_refused (nat_lt widest_key (width_of_all at.key)) KeyTooWide _ short.1 in
    fits (row_fits 1 at.key (row_of t values)) refl keyed.1
  where
    fits : (b : Bool) → row_fits 1 at.key (row_of t values) ≡ b → cond b None (Some RowTooWide) ≡ None → IsNarrow (write_at t at (Some (row_of t values)))
    fits true is none = at_most _ 1006 is
    fits false is none = cc

tuples_narrow : (t : Table) (tuples : List (List Value)) (s : State) → tuples_refusal 1 t s tuples ≡ None → All IsNarrow (flat_map (writes_of t) tuples)
tuples_narrow t [] s e = All-nil IsNarrow
tuples_narrow t (values ∷ tuples) s e =
    let fit = or_none (row_refusal 1 t (key_of t values) values) _ e in
    let new = or_none (duplicate_refusal s (put_of t values)) _ fit.1 in
    All-cons IsNarrow (put_of t values) (flat_map (writes_of t) tuples) (fits_narrow t (place_of t values) values fit.0) (tuples_narrow t tuples (with_write s (put_of t values)) new.1)

rows_narrow : (t : Table) (sets : List Assignment) (rows : List (TableKey × List Value)) → first_refusal (update_refusal 1 t sets) rows ≡ None
    → All IsNarrow (flat_map (update_writes t sets) rows)
rows_narrow t sets [] e = All-nil IsNarrow
rows_narrow t sets (row ∷ rows) e =
    elim (new_values t sets (values_of t row)) as (λ o. option_or (new_row_refusal 1 t row.0 o) (first_refusal (update_refusal 1 t sets) rows) ≡ None
    → All IsNarrow (new_row_writes t row.0 o ++ flat_map (update_writes t sets) rows)) [
      | None ↦ λ none. cc
      | Some new ↦ λ none.
          let fit = or_none (row_refusal 1 t row.0.key new) _ none in
          All-cons IsNarrow (write_at t row.0 (Some (row_of t new))) (flat_map (update_writes t sets) rows) (fits_narrow t row.0 new fit.0) (rows_narrow t sets rows fit.1)
    ] e

deleted_narrow : (t : Table) (rows : List (TableKey × List Value)) → All IsKeyedRow rows → All IsNarrow (flat_map (delete_writes t) rows)
deleted_narrow t [] all = All-nil IsNarrow
deleted_narrow t (e ∷ rows) all =
    let head : IsKeyedRow e = All-head IsKeyedRow e rows all in
    let narrow : width_of_all e.0.key ≤ 256 = head.narrow in
    All-cons IsNarrow _ (flat_map (delete_writes t) rows) (omega (arith, narrow)) (deleted_narrow t rows (All-tail IsKeyedRow e rows all))

module _ (s : State) (write_set : List Write) (keyed : HasKeys s) (f : AreStorable write_set) where
  executed_stored : (t : Table) (st : Statement) → AreStorable (write_set ++ (executed t st s (table_keys write_set) 1).writes)
  executed_stored t (Select what table filter_of) = nothing_more write_set f
  executed_stored t (Insert table tuples) =
      unless_stored write_set (length tuples) (flat_map (writes_of t) tuples) (tuples_refusal 1 t s tuples) (tuples_narrow t tuples s) f
  executed_stored t (Update table sets filter_of) =
      let rows : List (TableKey × List Value) = kept_rows t filter_of s in
      unless_stored write_set (length rows) (flat_map (update_writes t sets) rows) (first_refusal (update_refusal 1 t sets) rows) (rows_narrow t sets rows) f
  executed_stored t (Delete table filter_of) =
      let rows : List (TableKey × List Value) = kept_rows t filter_of s in
      done_stored write_set (length rows) (flat_map (delete_writes t) rows)
      (deleted_narrow t rows (kept_keyed t s (λ e. matches t.columns filter_of (values_of t e)) keyed)) f
  executed_stored t other = nothing_more write_set f

  bound_stored : (t : Table) (st : Statement) (o : Option Reply) → AreStorable (write_set ++ (refused_or o (executed t st s (table_keys write_set) 1)).writes)
  bound_stored t st None = executed_stored t st
  bound_stored t st (Some reply) = nothing_more write_set f

  on_table_stored : (o : Option Table) (st : Statement) → AreStorable (write_set ++ (on_table o st s (table_keys write_set) 1).writes)
  on_table_stored None st = nothing_more write_set f
  on_table_stored (Some t) st = bound_stored t st (binding_refusal t st)

  -- whatever a statement writes in format 1
  pub any_stored : (st : Statement) → AreStorable (write_set ++ (meaning st s (table_keys write_set) 1).writes)
  any_stored (Select what table filter_of) = on_table_stored (table_of s table) (Select what table filter_of)
  any_stored (Insert table tuples) = on_table_stored (table_of s table) (Insert table tuples)
  any_stored (Update table sets filter_of) = on_table_stored (table_of s table) (Update table sets filter_of)
  any_stored (Delete table filter_of) = on_table_stored (table_of s table) (Delete table filter_of)
  any_stored other = nothing_more write_set f

pub net_stored : (s : State) (write_set : List Write) → AreStorable write_set → IsStorableList (net s write_set)
net_stored s write_set f =
    let es : List (TableKey × Write) = entries (retain_keys (last_writes write_set) (is_there s write_set)) in
    let kept = entries-retain_keys (last_writes write_set) (is_there s write_set) in
    let at_key : All (IsAtItsKey IsNarrow) es = subst (All (IsAtItsKey IsNarrow)) (sym kept) (All-filter (λ e. is_there s write_set e.0) (IsAtItsKey IsNarrow) (entries (last_writes write_set)) (All-last_writes IsNarrow write_set f.narrow)) in
    let fewer : length es ≤ length (entries (last_writes write_set)) =
    subst (λ (xs : List (TableKey × Write)). length xs ≤ length (entries (last_writes write_set))) (sym kept) (length-filter-le (λ e. is_there s write_set e.0) (entries (last_writes write_set))) in
    let few : different (table_keys write_set) ≤ 4096 = f.few in
    record {
      few = omega (arith, length-map es (λ e. e.1), length-last_writes write_set);
      ascending = subst (IsStrictlySortedBy table_key_cmp) (sym (table_keys_of_entries IsNarrow es at_key)) (keys_ascend es (entries_sorted (retain_keys (last_writes write_set) (is_there s write_set))));
      narrow = All-map IsNarrow (λ e. e.1) es (All-weaker (IsAtItsKey IsNarrow) (λ e. IsNarrow e.1) (λ e h. h.1) es at_key);
    }
