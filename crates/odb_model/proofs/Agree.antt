-- States that agree on the ranges that a statement reads give it the same meaning.
use Rattle.std.proofs.Common.{◌≡◌, ℕ, Bool, true, false, ◌&&◌, ◌||◌, ◌==◌, not, cond, List, [], ◌∷◌, map, length, codes, is_some, refl, sym, ap, subst, ◌∙◌, eq-eqb, Option, Some, None}
use Rattle.std.specs.Option.{option_or, option_and_then}
use Rattle.std.specs.List.{filter, flat_map, list_any}
use Rattle.std.specs.Ordering.{is_eq, eq_by_cmp}
use Rattle.std.specs.Cmp.{tied_itself}
use Rattle.std.specs.Cmp.Lexicographic.{pointwise}
use Rattle.std.proofs.Math.Seq.{take-length}
use Rattle.std.specs.FinMap.{get, entries}
use Rattle.odb_values.specs.declared.value.Value.{Value}
use Rattle.odb_values.specs.declared.range.Range.{Range}
use Rattle.odb_values.specs.Value.{value_cmp, is_null}
use Rattle.odb_values.specs.ValueOrder.{value_cmp_total}
use Rattle.odb_model.specs.declared.write.Write.{Write}
use Rattle.odb_model.specs.declared.reply.Reply.{Reply}
use Rattle.odb_model.specs.declared.reply.Reply.TheVariants.{NullNotAllowed, Duplicate}
use Rattle.odb_model.specs.declared.predicate.Predicate.{Predicate}
use Rattle.odb_model.specs.declared.statement.Statement.{Statement}
use Rattle.odb_model.specs.declared.statement.Statement.TheVariants.{Start, Commit, Select, Insert, Rollback, Update, Delete}
use Rattle.odb_model.specs.declared.table_key.TableKey.{TableKey}
use Rattle.odb_model.specs.State.{State, table_key_cmp, table_key_of, changed, after_writes, is_in, is_in_any, AgreeOn}
use Rattle.odb_model.specs.Table.{Table, kv, is_named, key_of}
use Rattle.odb_model.specs.Dictionary.{table_of, table_in_row, in_dictionary, dictionary_key, has_name_form}
use Rattle.odb_model.specs.Binding.{binding_refusal, refuse_if}
use Rattle.odb_model.specs.Fitting.{lacks_value, row_refusal}
use Rattle.odb_model.specs.Where.{tests_of, range_of}
use Rattle.odb_model.specs.Truth.{matches}
use Rattle.odb_model.specs.Meaning.{meaning, refused_or, selected, updated, deleted, done, executed, on_table, values_of, kept_rows, put_of, writes_of, with_write, duplicate_refusal, tuples_refusal}
use Rattle.odb_model.specs.Reads.{IsLawful, reads, reads_on, table_reads, unless_refused, dictionary_row, point, full_keys}
use Rattle.odb_model.proofs.Replay.{get-changed_at, part_in-same}
use Rattle.odb_model.proofs.Parts.{rows_of-part}
use Rattle.odb_model.proofs.Covering.{and_true, both_true, filter_passes, inside}
use Rattle.odb_model.proofs.Keyed.{IsPlaced, table-placed, value_at-in_columns}

pub or_left : (a b : Bool) → a ≡ true → (a || b) ≡ true
or_left true b e = refl
or_left false b e = cc

pub or_right : (a b : Bool) → b ≡ true → (a || b) ≡ true
or_right true b e = refl
or_right false b e = e

or_false : (a b : Bool) → (a || b) ≡ false → a ≡ false
or_false true b e = cc
or_false false b e = refl

-- the states are alike in a range
abbrev pub AlikeIn : Range → State → State → Type 0
AlikeIn range s t = (q : TableKey) → is_in range q ≡ true → get s q ≡ get t q

pub AgreeOn-head : (r : Range) (rs : List Range) (s t : State) → AgreeOn (r ∷ rs) s t → AlikeIn r s t
AgreeOn-head r rs s t same q inside = same q (or_left (is_in r q) (is_in_any rs q) inside)

pub AgreeOn-tail : (r : Range) (rs : List Range) (s t : State) → AgreeOn (r ∷ rs) s t → AgreeOn rs s t
AgreeOn-tail r rs s t same q inside = same q (or_right (is_in r q) (is_in_any rs q) inside)

pub AgreeOn-cons : (r : Range) (rs : List Range) (s t : State) → AlikeIn r s t → AgreeOn rs s t → AgreeOn (r ∷ rs) s t
AgreeOn-cons r rs s t here more q inside =
    elim (is_in r q) as (λ b. is_in r q ≡ b → (b || is_in_any rs q) ≡ true → get s q ≡ get t q) [
      | true ↦ λ e i. here q e
      | false ↦ λ e i. more q i
    ] refl inside

-- a change keeps two states alike where they were
pub get-changed-same : (s t : State) (at : TableKey) (row : Option (List Value)) (q : TableKey) → get s q ≡ get t q → get (changed s at row) q ≡ get (changed t at row) q
get-changed-same s t at row q same =
    get-changed_at s at row q ∙ ap (cond (eq_by_cmp table_key_cmp q at) row) same ∙ sym (get-changed_at t at row q)

-- each value ties with itself, so a key starts with itself
ties_itself : (key : List Value) → pointwise (eq_by_cmp value_cmp) key key ≡ true
ties_itself [] = refl
ties_itself (x ∷ key) = both_true (eq_by_cmp value_cmp x x) _ (ap is_eq (tied_itself value_cmp_total x)) (ties_itself key)

-- a key is in its point
pub in_point : (table : ℕ) (key : List Value) → is_in (point table key) (record { table = table; key = key }) ≡ true
in_point table key =
    both_true (table == table) _ (eq-eqb table table refl)
    (both_true _ true (both_true _ true (ap (pointwise (eq_by_cmp value_cmp) key) (take-length key) ∙ ties_itself key) refl) refl)

-- states that agree on the dictionary's row of a table have the same table of that name
pub table_of-same : (name : List ℕ) (s t : State) → AlikeIn (dictionary_row name) s t → table_of s name ≡ table_of t name
table_of-same name s t same =
    ap (λ o. cond (is_named name (codes "KV")) (Some kv) (cond (has_name_form name) (option_and_then table_in_row o) None))
    (same (in_dictionary name) (in_point 6 (dictionary_key name)))

module _ (t : Table) (keyed : IsPlaced t) where
  -- every row at which a WHERE is True has its key in the range of the WHERE
  pub covers : (f : Option Predicate) (e : TableKey × List Value) → ((t.number == e.0.table) && matches t.columns f (values_of t e)) ≡ true → is_in (range_of t f) e.0 ≡ true
  covers f e kept =
      let parts = and_true (t.number == e.0.table) (matches t.columns f (values_of t e)) kept in
      both_true (t.number == e.0.table) _ parts.0
      (inside (values_of t e) (tests_of t.columns f) t.key e.0.key (filter_passes (values_of t e) t.columns f parts.1) (value_at-in_columns t keyed e.0.key e.1))

  kept_rows-same : (f : Option Predicate) (s u : State) → AlikeIn (range_of t f) s u → kept_rows t f s ≡ kept_rows t f u
  kept_rows-same f s u same =
      let keep : TableKey × List Value → Bool = λ e. matches t.columns f (values_of t e) in
      rows_of-part t.number (range_of t f) keep (covers f) s
      ∙ ap (λ part. filter (λ e. (t.number == e.0.table) && keep e) (entries part)) (part_in-same (range_of t f) s u same)
      ∙ sym (rows_of-part t.number (range_of t f) keep (covers f) u)

-- what isn't refused passes each test
pub none_refused : (b : Bool) (r : Reply) (o : Option Reply) → cond b (Some r) o ≡ None → (b ≡ false) × (o ≡ None)
none_refused true r o e = cc
none_refused false r o e = (refl, e)

-- a row that fits has no Null in its key
pub fits_full : (format : ℕ) (t : Table) (key values : List Value) → row_refusal format t key values ≡ None → list_any is_null key ≡ false
fits_full format t key values e = or_false _ _ (none_refused (lacks_value t key values) NullNotAllowed _ e).0

module _ (format : ℕ) (t : Table) where
  -- the points of tuples, by the keys that they have
  abbrev points : List (List Value) → List Range
  points keys = map (point t.number) keys

  tuples_refusal-same : (tuples : List (List Value)) (s u : State) → AgreeOn (points (full_keys t tuples)) s u → tuples_refusal format t s tuples ≡ tuples_refusal format t u tuples
  tuples_refusal-same [] s u same = refl
  tuples_refusal-same (values ∷ tuples) s u same =
      let w : Write = put_of t values in
      let key : List Value = key_of t values in
      elim (row_refusal format t key values) as (λ o. row_refusal format t key values ≡ o → option_or o (option_or (duplicate_refusal s w) (tuples_refusal format t (with_write s w) tuples))
      ≡ option_or o (option_or (duplicate_refusal u w) (tuples_refusal format t (with_write u w) tuples))) [
        | Some r ↦ λ e. refl
        | None ↦ λ e.
            let agree : AgreeOn (point t.number key ∷ points (full_keys t tuples)) s u =
            subst (λ (b : Bool). AgreeOn (points (cond (not b) (key ∷ full_keys t tuples) (full_keys t tuples))) s u) (fits_full format t key values e) same in
            let here : get s (table_key_of w) ≡ get u (table_key_of w) = AgreeOn-head (point t.number key) (points (full_keys t tuples)) s u agree (table_key_of w) (in_point t.number key) in
            let rest : AgreeOn (points (full_keys t tuples)) (with_write s w) (with_write u w) =
            λ q inside. get-changed-same s u (table_key_of w) w.row q (AgreeOn-tail (point t.number key) (points (full_keys t tuples)) s u agree q inside) in
            ap (λ o. option_or (refuse_if (is_some o) Duplicate) (tuples_refusal format t (with_write s w) tuples)) here
            ∙ ap (option_or (duplicate_refusal u w)) (tuples_refusal-same tuples (with_write s w) (with_write u w) rest)
      ] refl

module _ (t : Table) (keyed : IsPlaced t) (written : List TableKey) (format : ℕ) where
  executed-same : (st : Statement) (s u : State) → AgreeOn (table_reads t st) s u → executed t st s written format ≡ executed t st u written format
  executed-same (Select what table f) s u same =
      ap (λ rows. selected t what (map (values_of t) rows)) (kept_rows-same t keyed f s u (AgreeOn-head (range_of t f) [] s u same))
  executed-same (Insert table tuples) s u same =
      ap (λ o. refused_or o (done written (length tuples) (flat_map (writes_of t) tuples))) (tuples_refusal-same format t tuples s u same)
  executed-same (Update table sets f) s u same =
      ap (λ rows. updated t sets rows written format) (kept_rows-same t keyed f s u (AgreeOn-head (range_of t f) [] s u same))
  executed-same (Delete table f) s u same =
      ap (λ rows. deleted t rows written) (kept_rows-same t keyed f s u (AgreeOn-head (range_of t f) [] s u same))
  executed-same other s u same = refl

  bound-same : (st : Statement) (s u : State) (o : Option Reply) → AgreeOn (unless_refused o (table_reads t st)) s u → refused_or o (executed t st s written format) ≡ refused_or o (executed t st u written format)
  bound-same st s u None same = executed-same st s u same
  bound-same st s u (Some reply) same = refl

on_table-same : (o : Option Table) → ((t : Table) → o ≡ Some t → IsPlaced t) → (st : Statement) (s u : State) (written : List TableKey) (format : ℕ)
    → AgreeOn (reads_on o st) s u → on_table o st s written format ≡ on_table o st u written format
on_table-same None keyed st s u written format same = refl
on_table-same (Some t) keyed st s u written format same = bound-same t (keyed t refl) written format st s u (binding_refusal t st) same

module _ (s u : State) (written : List TableKey) (format : ℕ) where
  -- a statement on rows of a table
  named-same : (name : List ℕ) (st : Statement) → AgreeOn (dictionary_row name ∷ reads_on (table_of s name) st) s u
      → on_table (table_of s name) st s written format ≡ on_table (table_of u name) st u written format
  named-same name st same =
      on_table-same (table_of s name) (table-placed s name) st s u written format (AgreeOn-tail (dictionary_row name) (reads_on (table_of s name) st) s u same)
      ∙ ap (λ o. on_table o st u written format) (table_of-same name s u (AgreeOn-head (dictionary_row name) (reads_on (table_of s name) st) s u same))

  meant-same : (st : Statement) → AgreeOn (reads st s) s u → meaning st s written format ≡ meaning st u written format
  meant-same (Select what table f) same = named-same table (Select what table f) same
  meant-same (Insert table tuples) same = named-same table (Insert table tuples) same
  meant-same (Update table sets f) same = named-same table (Update table sets f) same
  meant-same (Delete table f) same = named-same table (Delete table f) same
  meant-same Start same = refl
  meant-same Commit same = refl
  meant-same Rollback same = refl
  meant-same other same = refl

  named_reads-same : (name : List ℕ) (st : Statement) → AgreeOn (dictionary_row name ∷ reads_on (table_of s name) st) s u
      → dictionary_row name ∷ reads_on (table_of s name) st ≡ dictionary_row name ∷ reads_on (table_of u name) st
  named_reads-same name st same =
      ap (λ o. dictionary_row name ∷ reads_on o st) (table_of-same name s u (AgreeOn-head (dictionary_row name) (reads_on (table_of s name) st) s u same))

  read-same : (st : Statement) → AgreeOn (reads st s) s u → reads st s ≡ reads st u
  read-same (Select what table f) same = named_reads-same table (Select what table f) same
  read-same (Insert table tuples) same = named_reads-same table (Insert table tuples) same
  read-same (Update table sets f) same = named_reads-same table (Update table sets f) same
  read-same (Delete table f) same = named_reads-same table (Delete table f) same
  read-same other same = refl

pub meaning-same : (st : Statement) (s t : State) (written : List TableKey) (format : ℕ) → IsLawful s → IsLawful t → AgreeOn (reads st s) s t → meaning st s written format ≡ meaning st t written format
meaning-same st s t written format first second same = meant-same s t written format st same

-- they give it the same ranges too
pub reads-same : (st : Statement) (s t : State) → IsLawful s → IsLawful t → AgreeOn (reads st s) s t → reads st s ≡ reads st t
reads-same st s t first second same = read-same s t [] 1 st same

-- the same writes keep states alike
pub get-after_writes-same : (s t : State) (ws : List Write) (q : TableKey) → get s q ≡ get t q → get (after_writes s ws) q ≡ get (after_writes t ws) q
get-after_writes-same s t [] q same = same
get-after_writes-same s t (w ∷ ws) q same =
    get-after_writes-same (changed s (table_key_of w) w.row) (changed t (table_key_of w) w.row) ws q (get-changed-same s t (table_key_of w) w.row q same)

pub AgreeOn-after_writes : (rs : List Range) (s t : State) (ws : List Write) → AgreeOn rs s t → AgreeOn rs (after_writes s ws) (after_writes t ws)
AgreeOn-after_writes rs s t ws same q inside = get-after_writes-same s t ws q (same q inside)
