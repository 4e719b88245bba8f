-- Whether rows were there before a statement's writes is told by the statement.
use Rattle.std.proofs.Common.{◌≡◌, ℕ, Bool, true, false, ◌||◌, ◌==◌, cond, List, [], ◌∷◌, ◌++◌, map, length, nat_lt, is_some, refl, sym, ap, subst, ◌∙◌, Option, Some, None}
use Rattle.std.specs.List.{filter, flat_map}
use Rattle.std.specs.Ordering.{is_eq, eq_by_cmp}
use Rattle.std.specs.Cmp.{tied_itself}
use Rattle.std.specs.FinMap.{get, entries, get-entries}
use Rattle.std.specs.FinMap as finite
use Rattle.odb_values.specs.declared.value.Value.{Value}
use Rattle.odb_model.specs.declared.write.Write.{Write}
use Rattle.odb_model.specs.declared.reply.Reply.{Reply}
use Rattle.odb_model.specs.declared.reply.Reply.TheVariants.{TooManyWrites, Done, Duplicate}
use Rattle.odb_model.specs.declared.predicate.Predicate.{Predicate}
use Rattle.odb_model.specs.declared.statement.Assignment.{Assignment}
use Rattle.odb_model.specs.declared.statement.Statement.{Statement}
use Rattle.odb_model.specs.declared.statement.Statement.TheVariants.{Select, Insert, Update, Delete}
use Rattle.odb_model.specs.declared.table_key.TableKey.{TableKey}
use Rattle.odb_model.specs.State.{State, table_key_cmp, table_key_of}
use Rattle.odb_model.specs.Table.{Table, key_of, row_of}
use Rattle.odb_model.specs.Dictionary.{table_of}
use Rattle.odb_model.specs.Binding.{binding_refusal, first_refusal, refuse_if}
use Rattle.odb_model.specs.Fitting.{row_refusal}
use Rattle.odb_model.specs.Truth.{matches}
use Rattle.odb_model.specs.Meaning.{meaning, refused, refused_or, done, different, most_writes, executed, on_table, values_of, kept_rows, write_at, put_of, writes_of, with_write, duplicate_refusal, tuples_refusal, new_values, new_row_writes, update_refusal, update_writes, delete_writes}
use Rattle.odb_model.specs.Intentions.{writes_to}
use Rattle.odb_model.proofs.Replay.{table_key_cmp_total, get-changed_at}
use Rattle.odb_model.proofs.Parts.{entries-retain_keys}
use Rattle.odb_model.proofs.Written.{tied}
use Rattle.odb_model.proofs.KeysKept.{or_none}
use Rattle.odb_txn.specs.Transaction.{writes_found_rows}

-- what is written is done, where it isn't refused
done_writes : (at : TableKey) (written : List TableKey) (n : ℕ) (ws : List Write) → writes_to at (done written n ws).writes ≡ true → writes_to at ws ≡ true
done_writes at written n ws e =
    elim (nat_lt most_writes (different (written ++ map table_key_of ws))) as (λ b. writes_to at (cond b (refused TooManyWrites) (record { reply = Done n; writes = ws })).writes ≡ true → writes_to at ws ≡ true) [
      | true ↦ λ none. cc
      | false ↦ λ some. some
    ] e

unless_writes : (at : TableKey) (written : List TableKey) (n : ℕ) (ws : List Write) (o : Option Reply) → writes_to at (refused_or o (done written n ws)).writes ≡ true → (o ≡ None) × (writes_to at ws ≡ true)
unless_writes at written n ws None e = (refl, done_writes at written n ws e)
unless_writes at written n ws (Some r) e = cc

either_writes : (at : TableKey) (ws vs : List Write) (P : Type 0) → (writes_to at ws ≡ true → P) → (writes_to at vs ≡ true → P) → writes_to at (ws ++ vs) ≡ true → P
either_writes at [] vs P first second e = second e
either_writes at (w ∷ ws) vs P first second e =
    elim (eq_by_cmp table_key_cmp at (table_key_of w)) as (λ b. ((b || writes_to at ws) ≡ true → P) → (b || writes_to at (ws ++ vs)) ≡ true → P) [
      | true ↦ λ here some. here refl
      | false ↦ λ here some. either_writes at ws vs P here second some
    ] first e

-- one of two is found
found_either : (b : Bool) (row : List Value) (o : Option (List Value)) → is_some o ≡ true → is_some (cond b (Some row) o) ≡ true
found_either true row o e = refl
found_either false row o e = e

module _ (t : Table) (at : TableKey) (f : Option Predicate) (w : TableKey × List Value → List Write) (own : (e : TableKey × List Value) → writes_to at (w e) ≡ true → at ≡ e.0) where
  found_here : (x : TableKey × List Value) (es : List (TableKey × List Value)) → at ≡ x.0 → is_some (finite.find table_key_cmp at (x ∷ es)) ≡ true
  found_here x es same =
      ap (λ b. is_some (cond b (Some x.1) (finite.find table_key_cmp at es)))
      (ap (eq_by_cmp table_key_cmp at) (sym same) ∙ ap is_eq (tied_itself table_key_cmp_total at))

  -- what is written at rows that a WHERE keeps is at one of them
  rows_found : (es : List (TableKey × List Value)) → writes_to at (flat_map w (filter (λ e. matches t.columns f (values_of t e)) (filter (λ e. t.number == e.0.table) es))) ≡ true → is_some (finite.find table_key_cmp at es) ≡ true
  rows_found [] e = cc
  rows_found (x ∷ es) e =
      let behind : is_some (finite.find table_key_cmp at es) ≡ true → is_some (finite.find table_key_cmp at (x ∷ es)) ≡ true =
      found_either (is_eq (table_key_cmp at x.0)) x.1 (finite.find table_key_cmp at es) in
      elim (t.number == x.0.table) as (λ b.
      writes_to at (flat_map w (filter (λ e. matches t.columns f (values_of t e)) (cond b (x ∷ filter (λ e. t.number == e.0.table) es) (filter (λ e. t.number == e.0.table) es)))) ≡ true
      → is_some (finite.find table_key_cmp at (x ∷ es)) ≡ true) [
        | false ↦ λ some. behind (rows_found es some)
        | true ↦ λ some.
            elim (matches t.columns f (values_of t x)) as (λ b.
            writes_to at (flat_map w (cond b (x ∷ filter (λ e. matches t.columns f (values_of t e)) (filter (λ e. t.number == e.0.table) es)) (filter (λ e. matches t.columns f (values_of t e)) (filter (λ e. t.number == e.0.table) es)))) ≡ true
            → is_some (finite.find table_key_cmp at (x ∷ es)) ≡ true) [
              | false ↦ λ more. behind (rows_found es more)
              | true ↦ λ more.
                  either_writes at (w x) (flat_map w (filter (λ e. matches t.columns f (values_of t e)) (filter (λ e. t.number == e.0.table) es))) (is_some (finite.find table_key_cmp at (x ∷ es)) ≡ true)
                  (λ mine. found_here x es (own x mine)) (λ later. behind (rows_found es later)) more
            ] some
      ] e

  kept_found : (s : State) → writes_to at (flat_map w (kept_rows t f s)) ≡ true → is_some (get s at) ≡ true
  kept_found s e =
      ap is_some (get-entries s at)
      ∙ rows_found (entries s) (subst (λ (es : List (TableKey × List Value)). writes_to at (flat_map w (filter (λ x. matches t.columns f (values_of t x)) es)) ≡ true) (entries-retain_keys s (λ q. t.number == q.table)) e)

at_one : (at other : TableKey) (w : Write) → table_key_of w ≡ other → writes_to at (w ∷ []) ≡ true → at ≡ other
at_one at other w same e = tied at (table_key_of w) (lone (eq_by_cmp table_key_cmp at (table_key_of w)) e) ∙ same
  where
    lone : (b : Bool) → (b || false) ≡ true → b ≡ true
    lone true e = refl
    lone false e = e

updates_own : (t : Table) (sets : List Assignment) (at : TableKey) (e : TableKey × List Value) → writes_to at (update_writes t sets e) ≡ true → at ≡ e.0
updates_own t sets at e some =
    elim (new_values t sets (values_of t e)) as (λ o. writes_to at (new_row_writes t e.0 o) ≡ true → at ≡ e.0) [
      | None ↦ λ none. cc
      | Some values ↦ λ some. at_one at e.0 (write_at t e.0 (Some (row_of t values))) refl some
    ] some

not_refused : (b : Bool) (reply : Reply) → refuse_if b reply ≡ None → b ≡ false
not_refused true reply e = cc
not_refused false reply e = refl

-- no row is there that an INSERT writes
new_rows : (format : ℕ) (t : Table) (tuples : List (List Value)) (s : State) (at : TableKey) → tuples_refusal format t s tuples ≡ None → writes_to at (flat_map (writes_of t) tuples) ≡ true
    → is_some (get s at) ≡ false
new_rows format t [] s at none e = cc
new_rows format t (values ∷ tuples) s at none e =
    let w : Write = put_of t values in
    let fit = or_none (row_refusal format t (key_of t values) values) _ none in
    let new = or_none (duplicate_refusal s w) _ fit.1 in
    elim (eq_by_cmp table_key_cmp at (table_key_of w)) as (λ b. eq_by_cmp table_key_cmp at (table_key_of w) ≡ b
    → (b || writes_to at (flat_map (writes_of t) tuples)) ≡ true → is_some (get s at) ≡ false) [
      | true ↦ λ p more. ap (λ q. is_some (get s q)) (tied at (table_key_of w) p) ∙ not_refused (is_some (get s (table_key_of w))) Duplicate new.0
      | false ↦ λ p more.
          ap is_some (sym (ap (λ b. cond b w.row (get s at)) p) ∙ sym (get-changed_at s (table_key_of w) w.row at))
          ∙ new_rows format t tuples (with_write s w) at new.1 more
    ] refl e

module _ (s : State) (written : List TableKey) (format : ℕ) (at : TableKey) where
  executed_told : (t : Table) (st : Statement) → writes_to at (executed t st s written format).writes ≡ true → writes_found_rows st ≡ is_some (get s at)
  executed_told t (Select what table f) e = cc
  executed_told t (Insert table tuples) e =
      let parts = unless_writes at written (length tuples) (flat_map (writes_of t) tuples) (tuples_refusal format t s tuples) e in
      sym (new_rows format t tuples s at parts.0 parts.1)
  executed_told t (Update table sets f) e =
      let rows : List (TableKey × List Value) = kept_rows t f s in
      let parts = unless_writes at written (length rows) (flat_map (update_writes t sets) rows) (first_refusal (update_refusal format t sets) rows) e in
      sym (kept_found t at f (update_writes t sets) (updates_own t sets at) s parts.1)
  executed_told t (Delete table f) e =
      let rows : List (TableKey × List Value) = kept_rows t f s in
      sym (kept_found t at f (delete_writes t) (λ x some. at_one at x.0 (write_at t x.0 None) refl some) s (done_writes at written (length rows) (flat_map (delete_writes t) rows) e))
  executed_told t other e = cc

  bound_told : (t : Table) (st : Statement) (o : Option Reply) → writes_to at (refused_or o (executed t st s written format)).writes ≡ true → writes_found_rows st ≡ is_some (get s at)
  bound_told t st None e = executed_told t st e
  bound_told t st (Some r) e = cc

  on_table_told : (o : Option Table) (st : Statement) → writes_to at (on_table o st s written format).writes ≡ true → writes_found_rows st ≡ is_some (get s at)
  on_table_told None st e = cc
  on_table_told (Some t) st e = bound_told t st (binding_refusal t st) e

  pub all_told : (st : Statement) → writes_to at (meaning st s written format).writes ≡ true → writes_found_rows st ≡ is_some (get s at)
  all_told (Select what table f) e = on_table_told (table_of s table) (Select what table f) e
  all_told (Insert table tuples) e = on_table_told (table_of s table) (Insert table tuples) e
  all_told (Update table sets f) e = on_table_told (table_of s table) (Update table sets f) e
  all_told (Delete table f) e = on_table_told (table_of s table) (Delete table f) e
  all_told other e = cc
