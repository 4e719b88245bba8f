-- A statement reads each key that it writes.
use Rattle.std.proofs.Common.{◌≡◌, ℕ, Bool, true, false, ◌||◌, ◌==◌, not, cond, List, [], ◌∷◌, ◌++◌, map, length, nat_lt, refl, sym, ap, subst, ◌∙◌, Option, Some, None}
use Rattle.std.specs.List.{filter, flat_map}
use Rattle.std.specs.declared.cmp.Ordering.TheVariants.{Less, Equal, Greater}
use Rattle.std.specs.Ordering.{is_eq, eq_by_cmp}
use Rattle.std.specs.FinMap.{entries}
use Rattle.odb_values.specs.declared.value.Value.{Value}
use Rattle.odb_values.specs.declared.range.Range.{Range}
use Rattle.odb_model.specs.declared.write.Write.{Write}
use Rattle.odb_model.specs.declared.reply.Reply.{Reply}
use Rattle.odb_model.specs.declared.reply.Reply.TheVariants.{TooManyWrites, Done}
use Rattle.odb_model.specs.declared.predicate.Predicate.{Predicate}
use Rattle.odb_model.specs.declared.statement.Assignment.{Assignment}
use Rattle.odb_model.specs.declared.statement.Statement.{Statement}
use Rattle.odb_model.specs.declared.statement.Statement.TheVariants.{Select, Insert, Update, Delete}
use Rattle.odb_model.specs.declared.table_key.TableKey.{TableKey}
use Rattle.odb_model.specs.State.{State, table_key_cmp, table_key_of, is_in, is_in_any}
use Rattle.odb_model.specs.Table.{Table, key_of, row_of}
use Rattle.odb_model.specs.Dictionary.{table_of}
use Rattle.odb_model.specs.Binding.{binding_refusal, first_refusal}
use Rattle.odb_model.specs.Fitting.{row_refusal}
use Rattle.odb_model.specs.Where.{range_of}
use Rattle.odb_model.specs.Truth.{matches}
use Rattle.odb_model.specs.Meaning.{meaning, refused, refused_or, done, different, most_writes, executed, on_table, values_of, kept_rows, write_at, put_of, writes_of, with_write, duplicate_refusal, tuples_refusal, new_values, new_row_writes, update_refusal, update_writes, delete_writes}
use Rattle.odb_model.specs.Reads.{reads, reads_on, table_reads, unless_refused, dictionary_row, point, full_keys}
use Rattle.odb_model.specs.Intentions.{writes_to}
use Rattle.odb_model.proofs.Replay.{table_key_cmp_exact}
use Rattle.odb_model.proofs.Parts.{entries-retain_keys}
use Rattle.odb_model.proofs.Covering.{both_true}
use Rattle.odb_model.proofs.Keyed.{IsPlaced, table-placed}
use Rattle.odb_model.proofs.Agree.{or_left, or_right, in_point, covers, fits_full}
use Rattle.odb_model.proofs.KeysKept.{or_none}

-- table keys that tie are one
pub tied : (q at : TableKey) → eq_by_cmp table_key_cmp q at ≡ true → q ≡ at
tied q at e =
    elim (table_key_cmp q at) as (λ o. table_key_cmp q at ≡ o → is_eq o ≡ true → q ≡ at) [
      | Less ↦ λ p f. cc
      | Equal ↦ λ p f. table_key_cmp_exact q at p
      | Greater ↦ λ p f. cc
    ] refl e

either_writes : (at : TableKey) (ws vs : List Write) (P : Type 0) → (writes_to at ws ≡ true → P) → (writes_to at vs ≡ true → P) → writes_to at (ws ++ vs) ≡ true → P
either_writes at [] vs P first second e = second e
either_writes at (w ∷ ws) vs P first second e =
    elim (eq_by_cmp table_key_cmp at (table_key_of w)) as (λ b. ((b || writes_to at ws) ≡ true → P) → (b || writes_to at (ws ++ vs)) ≡ true → P) [
      | true ↦ λ here some. here refl
      | false ↦ λ here some. either_writes at ws vs P here second some
    ] first e

-- what is written is done, where it isn't refused
done_writes : (at : TableKey) (written : List TableKey) (n : ℕ) (ws : List Write) → writes_to at (done written n ws).writes ≡ true → writes_to at ws ≡ true
done_writes at written n ws e =
    elim (nat_lt most_writes (different (written ++ map table_key_of ws))) as (λ b. writes_to at (cond b (refused TooManyWrites) (record { reply = Done n; writes = ws })).writes ≡ true → writes_to at ws ≡ true) [
      | true ↦ λ none. cc
      | false ↦ λ some. some
    ] e

unless_writes : (at : TableKey) (written : List TableKey) (n : ℕ) (ws : List Write) (o : Option Reply) → writes_to at (refused_or o (done written n ws)).writes ≡ true → (o ≡ None) × (writes_to at ws ≡ true)
unless_writes at written n ws None e = (refl, done_writes at written n ws e)
unless_writes at written n ws (Some r) e = cc

module _ (t : Table) (keyed : IsPlaced t) (at : TableKey) (f : Option Predicate) (w : TableKey × List Value → List Write) (own : (e : TableKey × List Value) → writes_to at (w e) ≡ true → at ≡ e.0) where
  keep : TableKey × List Value → Bool
  keep e = matches t.columns f (values_of t e)

  -- what is written at rows that a WHERE keeps is in its range
  rows_read : (es : List (TableKey × List Value)) → writes_to at (flat_map w (filter (λ e. matches t.columns f (values_of t e)) (filter (λ e. t.number == e.0.table) es))) ≡ true → is_in (range_of t f) at ≡ true
  rows_read [] e = cc
  rows_read (x ∷ es) e =
      elim (t.number == x.0.table) as (λ b. (t.number == x.0.table) ≡ b
      → writes_to at (flat_map w (filter (λ e. matches t.columns f (values_of t e)) (cond b (x ∷ filter (λ e. t.number == e.0.table) es) (filter (λ e. t.number == e.0.table) es)))) ≡ true → is_in (range_of t f) at ≡ true) [
        | false ↦ λ other some. rows_read es some
        | true ↦ λ here some.
            elim (matches t.columns f (values_of t x)) as (λ b. matches t.columns f (values_of t x) ≡ b
            → writes_to at (flat_map w (cond b (x ∷ filter (λ e. matches t.columns f (values_of t e)) (filter (λ e. t.number == e.0.table) es)) (filter (λ e. matches t.columns f (values_of t e)) (filter (λ e. t.number == e.0.table) es)))) ≡ true → is_in (range_of t f) at ≡ true) [
              | false ↦ λ other more. rows_read es more
              | true ↦ λ is more.
                  either_writes at (w x) (flat_map w (filter (λ e. matches t.columns f (values_of t e)) (filter (λ e. t.number == e.0.table) es))) (is_in (range_of t f) at ≡ true)
                  (λ mine. ap (is_in (range_of t f)) (own x mine) ∙ covers t keyed f x (both_true _ _ here is)) (rows_read es) more
            ] refl some
      ] refl e

  pub kept_read : (s : State) → writes_to at (flat_map w (kept_rows t f s)) ≡ true → is_in (range_of t f) at ≡ true
  kept_read s e = rows_read (entries s) (subst (λ (es : List (TableKey × List Value)). writes_to at (flat_map w (filter (λ x. matches t.columns f (values_of t x)) es)) ≡ true) (entries-retain_keys s (λ q. t.number == q.table)) e)

at_one : (at other : TableKey) (w : Write) → table_key_of w ≡ other → writes_to at (w ∷ []) ≡ true → at ≡ other
at_one at other w same e = tied at (table_key_of w) (lone (eq_by_cmp table_key_cmp at (table_key_of w)) e) ∙ same
  where
    lone : (b : Bool) → (b || false) ≡ true → b ≡ true
    lone true e = refl
    lone false e = e

updates_own : (t : Table) (sets : List Assignment) (at : TableKey) (e : TableKey × List Value) → writes_to at (update_writes t sets e) ≡ true → at ≡ e.0
updates_own t sets at e some =
    elim (new_values t sets (values_of t e)) as (λ o. writes_to at (new_row_writes t e.0 o) ≡ true → at ≡ e.0) [
      | None ↦ λ none. cc
      | Some values ↦ λ some. at_one at e.0 (write_at t e.0 (Some (row_of t values))) refl some
    ] some

-- the points of an INSERT's tuples have each key that it writes
points_cover : (format : ℕ) (t : Table) (tuples : List (List Value)) (s : State) (at : TableKey) → tuples_refusal format t s tuples ≡ None → writes_to at (flat_map (writes_of t) tuples) ≡ true
    → is_in_any (map (point t.number) (full_keys t tuples)) at ≡ true
points_cover format t [] s at none e = cc
points_cover format t (values ∷ tuples) s at none e =
    let key : List Value = key_of t values in
    let fit = or_none (row_refusal format t key values) _ none in
    let new = or_none (duplicate_refusal s (put_of t values)) _ fit.1 in
    let rest : List (List Value) = full_keys t tuples in
    subst (λ (b : Bool). is_in_any (map (point t.number) (cond (not b) (key ∷ rest) rest)) at ≡ true) (sym (fits_full format t key values fit.0))
    (elim (eq_by_cmp table_key_cmp at (table_key_of (put_of t values))) as (λ b. eq_by_cmp table_key_cmp at (table_key_of (put_of t values)) ≡ b
    → (b || writes_to at (flat_map (writes_of t) tuples)) ≡ true → is_in_any (point t.number key ∷ map (point t.number) rest) at ≡ true) [
      | true ↦ λ p f. or_left (is_in (point t.number key) at) (is_in_any (map (point t.number) rest) at) (ap (is_in (point t.number key)) (tied at (table_key_of (put_of t values)) p) ∙ in_point t.number key)
      | false ↦ λ p f. or_right (is_in (point t.number key) at) (is_in_any (map (point t.number) rest) at) (points_cover format t tuples (with_write s (put_of t values)) at new.1 f)
    ] refl e)

module _ (s : State) (written : List TableKey) (format : ℕ) (at : TableKey) where
  one_range : (range : Range) → is_in range at ≡ true → is_in_any (range ∷ []) at ≡ true
  one_range range e = or_left (is_in range at) false e

  executed_read : (t : Table) → IsPlaced t → (st : Statement) → writes_to at (executed t st s written format).writes ≡ true → is_in_any (table_reads t st) at ≡ true
  executed_read t keyed (Select what table f) e = cc
  executed_read t keyed (Insert table tuples) e =
      let parts = unless_writes at written (length tuples) (flat_map (writes_of t) tuples) (tuples_refusal format t s tuples) e in
      points_cover format t tuples s at parts.0 parts.1
  executed_read t keyed (Update table sets f) e =
      let rows : List (TableKey × List Value) = kept_rows t f s in
      let parts = unless_writes at written (length rows) (flat_map (update_writes t sets) rows) (first_refusal (update_refusal format t sets) rows) e in
      one_range (range_of t f) (kept_read t keyed at f (update_writes t sets) (updates_own t sets at) s parts.1)
  executed_read t keyed (Delete table f) e =
      let rows : List (TableKey × List Value) = kept_rows t f s in
      one_range (range_of t f) (kept_read t keyed at f (delete_writes t) (λ x some. at_one at x.0 (write_at t x.0 None) refl some) s (done_writes at written (length rows) (flat_map (delete_writes t) rows) e))
  executed_read t keyed other e = cc

  bound_read : (t : Table) → IsPlaced t → (st : Statement) (o : Option Reply) → writes_to at (refused_or o (executed t st s written format)).writes ≡ true → is_in_any (unless_refused o (table_reads t st)) at ≡ true
  bound_read t keyed st None e = executed_read t keyed st e
  bound_read t keyed st (Some r) e = cc

  on_table_read : (name : List ℕ) (o : Option Table) → ((t : Table) → o ≡ Some t → IsPlaced t) → (st : Statement) → writes_to at (on_table o st s written format).writes ≡ true
      → is_in_any (dictionary_row name ∷ reads_on o st) at ≡ true
  on_table_read name None keyed st e = cc
  on_table_read name (Some t) keyed st e =
      or_right (is_in (dictionary_row name) at) (is_in_any (reads_on (Some t) st) at) (bound_read t (keyed t refl) st (binding_refusal t st) e)

  -- a statement reads each key that it writes
  pub all_read : (st : Statement) → writes_to at (meaning st s written format).writes ≡ true → is_in_any (reads st s) at ≡ true
  all_read (Select what table f) e = on_table_read table (table_of s table) (table-placed s table) (Select what table f) e
  all_read (Insert table tuples) e = on_table_read table (table_of s table) (table-placed s table) (Insert table tuples) e
  all_read (Update table sets f) e = on_table_read table (table_of s table) (table-placed s table) (Update table sets f) e
  all_read (Delete table f) e = on_table_read table (table_of s table) (table-placed s table) (Delete table f) e
  all_read other e = cc
