-- The writes of a statement have keys where the rows of the state do, and so does what they leave.
use Rattle.std.proofs.Common.{◌≡◌, ℕ, ◌<◌, ◌≤◌, Bool, true, false, ◌&&◌, ◌||◌, ◌==◌, not, cond, nat_lt, List, [], ◌∷◌, ◌++◌, map, length, refl, sym, ap, subst, ◌∙◌, Option, Some, None, arith}
use Rattle.std.specs.Option.{option_or}
use Rattle.std.specs.List.{All, filter, flat_map, list_any, list_all}
use Rattle.std.specs.declared.cmp.Ordering.TheVariants.{Less, Equal, Greater}
use Rattle.std.specs.Ordering.{eq_by_cmp}
use Rattle.std.specs.FinMap.{empty, get, remove, entries, entries-insert, retain_keys, get-remove, get-retain_keys, same_map}
use Rattle.std.specs.FinMap.Entries.{put, by_order}
use Rattle.std.proofs.lemmas.Bool.Decides.{nat_tests}
use Rattle.std.proofs.lemmas.List.{length-map}
use Rattle.std.proofs.lemmas.List.Elements.{All-nil, All-cons, All-head, All-tail, All-filter}
use Rattle.odb_values.specs.declared.value.Value.{Value}
use Rattle.odb_values.specs.Value.{is_null}
use Rattle.odb_values.specs.Key.{IsKey, width_of_all}
use Rattle.odb_model.specs.declared.write.Write.{Write}
use Rattle.odb_model.specs.declared.entry.Entry.{Entry}
use Rattle.odb_model.specs.declared.reply.Reply.{Reply}
use Rattle.odb_model.specs.declared.reply.Reply.TheVariants.{NullNotAllowed, TooLong, KeyTooWide, TooManyWrites, Done}
use Rattle.odb_model.specs.declared.predicate.Predicate.{Predicate}
use Rattle.odb_model.specs.declared.statement.Assignment.{Assignment}
use Rattle.odb_model.specs.declared.statement.Statement.{Statement}
use Rattle.odb_model.specs.declared.statement.Statement.TheVariants.{Select, Insert, Update, Delete}
use Rattle.odb_model.specs.declared.table_key.TableKey.{TableKey}
use Rattle.odb_model.specs.State.{State, table_key_cmp, table_key_of, changed, after_writes, replay, replay_from, rows_of}
use Rattle.odb_model.specs.Table.{Table, IsTable, value_at, key_of}
use Rattle.odb_model.specs.Dictionary.{table_of}
use Rattle.odb_model.specs.Binding.{first_refusal, binding_refusal}
use Rattle.odb_model.specs.Fitting.{lacks_value, has_long_text, widest_key, row_refusal}
use Rattle.odb_model.specs.Truth.{matches}
use Rattle.odb_model.specs.Meaning.{meaning, refused, refused_or, done, different, most_writes, executed, on_table, values_of, kept_rows, put_of, writes_of, with_write, duplicate_refusal, tuples_refusal, new_values, new_row_writes, update_refusal, update_writes, delete_writes}
use Rattle.odb_model.specs.Storable.{HaveKeys, HasKeys}
use Rattle.odb_model.proofs.Replay.{table_key_cmp_total, table_key_cmp_exact}
use Rattle.odb_model.proofs.Parts.{entries-retain_keys}
use Rattle.odb_model.proofs.Keys.{entries-empty}
use Rattle.odb_model.proofs.Keyed.{table-is}
use Rattle.odb_model.proofs.Agree.{none_refused, fits_full}

pub or_none : (o p : Option Reply) → option_or o p ≡ None → (o ≡ None) × (p ≡ None)
or_none None p e = (refl, e)
or_none (Some r) p e = cc

abbrev IsKeyedWrite : Write → Type 0
IsKeyedWrite w = IsKey w.key

-- the key of a row is one
abbrev pub IsKeyedRow : TableKey × List Value → Type 0
IsKeyedRow e = IsKey e.0.key

-- what has no Null is full
none_null : (values : List Value) → list_any is_null values ≡ false → list_all (λ v. not (is_null v)) values ≡ true
none_null [] e = refl
none_null (v ∷ values) e =
    elim (is_null v) as (λ b. (b || list_any is_null values) ≡ false → (not b && list_all (λ v. not (is_null v)) values) ≡ true) [
      | true ↦ λ some. cc
      | false ↦ λ none. none_null values none
    ] e

not_above : (a b : ℕ) → nat_lt a b ≡ false → b ≤ a
not_above a b e = grind (arith, nat_tests)

-- the key of a row that isn't refused is one, if it has as many values
is_key_of : (format : ℕ) (t : Table) (key values : List Value) → 0 < length key → length key ≤ 15 → row_refusal format t key values ≡ None → IsKey key
is_key_of format t key values some few e =
    let full = none_refused (lacks_value t key values) NullNotAllowed _ e in
    let short = none_refused (has_long_text t values) TooLong _ full.1 in
    let keyed = none_refused (nat_lt widest_key (width_of_all key)) KeyTooWide _ short.1 in
    record {
      keyed = record { some = some; few = few; full = none_null key (fits_full format t key values e) };
      narrow = not_above 256 (width_of_all key) keyed.0;
    }

pub accepted_key : (format : ℕ) (t : Table) (values : List Value) → IsTable t → row_refusal format t (key_of t values) values ≡ None → IsKey (key_of t values)
accepted_key format t values is e =
    let count : length (key_of t values) ≡ length t.key = length-map t.key (value_at values) in
    let some : 0 < length t.key = is.some in
    let few : length t.key ≤ 15 = is.few in
    is_key_of format t (key_of t values) values (omega arith) (omega arith) e

-- the writes of a refused statement, and of one that writes
none_keyed : HaveKeys []
none_keyed = All-nil IsKeyedWrite

done_keyed : (written : List TableKey) (count : ℕ) (writes : List Write) → HaveKeys writes → HaveKeys (done written count writes).writes
done_keyed written count writes keyed =
    elim (nat_lt most_writes (different (written ++ map table_key_of writes))) as (λ b. HaveKeys (cond b (refused TooManyWrites) (record { reply = Done count; writes = writes })).writes) [
      | true ↦ none_keyed
      | false ↦ keyed
    ]

unless_keyed : (o : Option Reply) (written : List TableKey) (count : ℕ) (writes : List Write) → (o ≡ None → HaveKeys writes) → HaveKeys (refused_or o (done written count writes)).writes
unless_keyed None written count writes keyed = done_keyed written count writes (keyed refl)
unless_keyed (Some reply) written count writes keyed = none_keyed

module _ (format : ℕ) (t : Table) where
  tuples_keyed : IsTable t → (tuples : List (List Value)) (s : State) → tuples_refusal format t s tuples ≡ None → HaveKeys (flat_map (writes_of t) tuples)
  tuples_keyed is [] s e = none_keyed
  tuples_keyed is (values ∷ tuples) s e =
      let fit = or_none (row_refusal format t (key_of t values) values) _ e in
      let new = or_none (duplicate_refusal s (put_of t values)) _ fit.1 in
      All-cons IsKeyedWrite (put_of t values) (flat_map (writes_of t) tuples) (accepted_key format t values is fit.0) (tuples_keyed is tuples (with_write s (put_of t values)) new.1)

  updated_keyed : (sets : List Assignment) (rows : List (TableKey × List Value)) → All IsKeyedRow rows → HaveKeys (flat_map (update_writes t sets) rows)
  updated_keyed sets [] all = none_keyed
  updated_keyed sets (row ∷ rows) all =
      let rest = updated_keyed sets rows (All-tail IsKeyedRow row rows all) in
      elim (new_values t sets (values_of t row)) as (λ o. HaveKeys (new_row_writes t row.0 o ++ flat_map (update_writes t sets) rows)) [
        | None ↦ rest
        | Some new ↦ All-cons IsKeyedWrite _ (flat_map (update_writes t sets) rows) (All-head IsKeyedRow row rows all) rest
      ]

  deleted_keyed : (rows : List (TableKey × List Value)) → All IsKeyedRow rows → HaveKeys (flat_map (delete_writes t) rows)
  deleted_keyed [] all = none_keyed
  deleted_keyed (row ∷ rows) all =
      All-cons IsKeyedWrite _ (flat_map (delete_writes t) rows) (All-head IsKeyedRow row rows all) (deleted_keyed rows (All-tail IsKeyedRow row rows all))

pub kept_keyed : (t : Table) (s : State) (keep : TableKey × List Value → Bool) → HasKeys s → All IsKeyedRow (filter keep (rows_of t.number s))
kept_keyed t s keep all =
    All-filter keep IsKeyedRow (rows_of t.number s)
    (subst (All IsKeyedRow) (sym (entries-retain_keys s (λ at. t.number == at.table))) (All-filter (λ e. t.number == e.0.table) IsKeyedRow (entries s) all))

module _ (s : State) (keyed : HasKeys s) (written : List TableKey) (format : ℕ) where
  kept : (t : Table) (filter_of : Option Predicate) → All IsKeyedRow (kept_rows t filter_of s)
  kept t filter_of = kept_keyed t s (λ e. matches t.columns filter_of (values_of t e)) keyed

  executed_keyed : (t : Table) → IsTable t → (st : Statement) → HaveKeys (executed t st s written format).writes
  executed_keyed t is (Select what table filter_of) = none_keyed
  executed_keyed t is (Insert table tuples) =
      unless_keyed (tuples_refusal format t s tuples) written (length tuples) (flat_map (writes_of t) tuples) (tuples_keyed format t is tuples s)
  executed_keyed t is (Update table sets filter_of) =
      let rows : List (TableKey × List Value) = kept_rows t filter_of s in
      unless_keyed (first_refusal (update_refusal format t sets) rows) written (length rows) (flat_map (update_writes t sets) rows) (λ e. updated_keyed format t sets rows (kept t filter_of))
  executed_keyed t is (Delete table filter_of) =
      let rows : List (TableKey × List Value) = kept_rows t filter_of s in
      done_keyed written (length rows) (flat_map (delete_writes t) rows) (deleted_keyed format t rows (kept t filter_of))
  executed_keyed t is other = none_keyed

  bound_keyed : (t : Table) → IsTable t → (st : Statement) (o : Option Reply) → HaveKeys (refused_or o (executed t st s written format)).writes
  bound_keyed t is st None = executed_keyed t is st
  bound_keyed t is st (Some reply) = none_keyed

  on_table_keyed : (o : Option Table) → ((t : Table) → o ≡ Some t → IsTable t) → (st : Statement) → HaveKeys (on_table o st s written format).writes
  on_table_keyed None is st = none_keyed
  on_table_keyed (Some t) is st = bound_keyed t (is t refl) st (binding_refusal t st)

  pub writes_keyed : (st : Statement) → HaveKeys (meaning st s written format).writes
  writes_keyed (Select what table filter_of) = on_table_keyed (table_of s table) (table-is s table) (Select what table filter_of)
  writes_keyed (Insert table tuples) = on_table_keyed (table_of s table) (table-is s table) (Insert table tuples)
  writes_keyed (Update table sets filter_of) = on_table_keyed (table_of s table) (table-is s table) (Update table sets filter_of)
  writes_keyed (Delete table filter_of) = on_table_keyed (table_of s table) (table-is s table) (Delete table filter_of)
  writes_keyed other = none_keyed

-- what such writes leave has keys

All-put : (at : TableKey) (row : List Value) (es : List (TableKey × List Value)) → IsKeyedRow (at, row) → All IsKeyedRow es → All IsKeyedRow (put table_key_cmp at row es)
All-put at row [] p all = All-cons IsKeyedRow (at, row) [] p (All-nil IsKeyedRow)
All-put at row (e ∷ es) p all =
    let head : IsKeyedRow e = All-head IsKeyedRow e es all in
    let tail : All IsKeyedRow es = All-tail IsKeyedRow e es all in
    elim (table_key_cmp at e.0) as (λ o. All IsKeyedRow (by_order o ((at, row) ∷ e ∷ es) ((e.0, row) ∷ es) (e ∷ put table_key_cmp at row es))) [
      | Less ↦ All-cons IsKeyedRow (at, row) (e ∷ es) p all
      | Equal ↦ All-cons IsKeyedRow (e.0, row) es head tail
      | Greater ↦ All-cons IsKeyedRow e (put table_key_cmp at row es) head (All-put at row es p tail)
    ]

other_side : (b : Bool) (o : Option (List Value)) → cond b None o ≡ cond (not b) o None
other_side true o = refl
other_side false o = refl

-- what is left where a key is taken away
remove-retained : (s : State) (at : TableKey) → remove s at ≡ retain_keys s (λ q. not (eq_by_cmp table_key_cmp q at))
remove-retained s at =
    let p : TableKey → Bool = λ q. not (eq_by_cmp table_key_cmp q at) in
    same_map table_key_cmp_total table_key_cmp_exact (remove s at) (retain_keys s p)
    (λ q. get-remove table_key_cmp_total s at q ∙ other_side (eq_by_cmp table_key_cmp q at) (get s q) ∙ sym (get-retain_keys s p q (λ x tied. ap p (sym (table_key_cmp_exact q x tied)))))

changed_keyed : (s : State) (at : TableKey) (row : Option (List Value)) → IsKey at.key → HasKeys s → HasKeys (changed s at row)
changed_keyed s at None p all =
    subst HasKeys (sym (remove-retained s at))
    (subst (All IsKeyedRow) (sym (entries-retain_keys s (λ q. not (eq_by_cmp table_key_cmp q at)))) (All-filter (λ e. not (eq_by_cmp table_key_cmp e.0 at)) IsKeyedRow (entries s) all))
changed_keyed s at (Some values) p all = subst (All IsKeyedRow) (sym (entries-insert table_key_cmp_total s at values)) (All-put at values (entries s) p all)

pub after_keyed : (ws : List Write) (s : State) → HaveKeys ws → HasKeys s → HasKeys (after_writes s ws)
after_keyed [] s keyed all = all
after_keyed (w ∷ ws) s keyed all =
    after_keyed ws (changed s (table_key_of w) w.row) (All-tail IsKeyedWrite w ws keyed) (changed_keyed s (table_key_of w) w.row (All-head IsKeyedWrite w ws keyed) all)

abbrev IsKeyedEntry : Entry → Type 0
IsKeyedEntry e = HaveKeys e.writes

replay_keyed : (h : List Entry) (s : State) → All IsKeyedEntry h → HasKeys s → HasKeys (replay_from s h)
replay_keyed [] s keyed all = all
replay_keyed (e ∷ h) s keyed all =
    let head : HaveKeys e.writes = All-head IsKeyedEntry e h keyed in
    replay_keyed h (after_writes s e.writes) (All-tail IsKeyedEntry e h keyed) (after_keyed e.writes s head all)

-- the rows of a history of writes with keys have keys, with the writes of a transaction laid over them
pub history_keyed : (h : List Entry) (write_set : List Write) → All IsKeyedEntry h → HaveKeys write_set → HasKeys (after_writes (replay h) write_set)
history_keyed h write_set keyed writes =
    after_keyed write_set (replay h) writes (replay_keyed h empty keyed (subst (All IsKeyedRow) (sym (entries-empty (List Value))) (All-nil IsKeyedRow)))
