-- The values that statements put are ones that their columns take.
use Rattle.std.proofs.Common.{◌≡◌, ℕ, ℤ, ◌<◌, Bool, true, false, ◌&&◌, ◌||◌, ◌==◌, not, cond, nat_lt, nat_le, List, [], ◌∷◌, map, length, find, refl, sym, ap, subst, ◌∙◌, Option, Some, None, option_map, slice_get, is_some, arith}
use Rattle.std.specs.Option.{option_and_then, option_map_or}
use Rattle.std.specs.List.{list_any, zip}
use Rattle.std.proofs.lemmas.Bool.Decides.{nat_tests}
use Rattle.std.proofs.lemmas.Option.{slice_get_within, slice_get-map}
use Rattle.odb_values.specs.declared.value.Value.{Value}
use Rattle.odb_values.specs.declared.value.Value.TheVariants.{Null, Int, Text}
use Rattle.odb_values.specs.Value.{is_null}
use Rattle.odb_model.specs.declared.reply.Reply.{Reply}
use Rattle.odb_model.specs.declared.reply.Reply.TheVariants.{NullNotAllowed, TooLong, NoColumn, KeyColumn, ColumnCount, KindMismatch}
use Rattle.odb_model.specs.declared.predicate.Operand.{Operand}
use Rattle.odb_model.specs.declared.predicate.Operand.TheVariants.{Column as ColumnOf, Literal}
use Rattle.odb_model.specs.declared.statement.Expression.{Expression}
use Rattle.odb_model.specs.declared.statement.Assignment.{Assignment}
use Rattle.odb_model.specs.Table.{Column, Table, is_named, value_at, column_place, column_value, place_in, key_of, row_of, stored_value, in_columns}
use Rattle.odb_model.specs.Dictionary.{names_differ}
use Rattle.odb_model.specs.Binding.{refuse_if, first_refusal, Kind, Number, Words, value_kind, column_kind, is_words, differ, named_kind, operand_kind, column_refusal, operand_refusal, item_refusal, tuple_refusal, operands, is_sum, term_refusal, is_key_column, set_refusal, sets_after}
use Rattle.odb_model.specs.Truth.{operand_value}
use Rattle.odb_model.specs.Sums.{is_i64, number_value, operand_values, sum_of, value_of}
use Rattle.odb_model.specs.Fitting.{characters, lacks_item, lacks_value, is_long_for, has_long_text, row_refusal}
use Rattle.odb_model.specs.Meaning.{value_or, new_value, new_values}
use Rattle.odb_model.proofs.Covering.{both_true, same_number}
use Rattle.odb_model.proofs.Agree.{none_refused}
use Rattle.odb_model.proofs.KeysKept.{or_none}
use Rattle.odb_catalog.proofs.Names.{inside_some, same_names}
use Rattle.odb_sound.specs.Sound.{takes}
use Rattle.odb_sound.proofs.Places.{beside, none_at, fails_at, each_some, value_there, value_found, stored_inside, stored_outside, stored_put, stored_there, column_there, own_place}

-- what isn't refused isn't so
not_so : (b : Bool) (reply : Reply) → refuse_if b reply ≡ None → b ≡ false
not_so true reply e = cc
not_so false reply e = refl

not_longer : (a b : ℕ) → nat_lt a b ≡ false → nat_le b a ≡ true
not_longer a b e = grind (arith, nat_tests)

first_false : (a b : Bool) → (a || b) ≡ false → a ≡ false
first_false true b e = cc
first_false false b e = refl

second_false : (a b : Bool) → (a || b) ≡ false → b ≡ false
second_false true b e = cc
second_false false b e = e

-- a value that no rule refuses is taken
pub taken : (c : Column) (v : Value) → lacks_item (c, v) ≡ false → is_long_for c.kind v ≡ false → differ (Some (column_kind c)) (value_kind v) ≡ false → takes c v ≡ true
taken c Null lacks long kind =
    elim (c.not_null) as (λ b. (b && true) ≡ false → not b ≡ true) [
      | true ↦ λ e. cc
      | false ↦ λ e. refl
    ] lacks
taken c (Int n) lacks long kind =
    elim (c.kind == 0) as (λ b. differ (Some (cond b Number Words)) (Some Number) ≡ false → b ≡ true) [
      | true ↦ λ e. refl
      | false ↦ λ e. cc
    ] kind
taken c (Text t) lacks long kind =
    both_true (not (c.kind == 0)) (nat_le (characters t) c.kind)
    (elim (c.kind == 0) as (λ b. differ (Some (cond b Number Words)) (Some Words) ≡ false → not b ≡ true) [
      | true ↦ λ e. cc
      | false ↦ λ e. refl
    ] kind)
    (not_longer c.kind (characters t) long)

no_kind : (kind : Option Kind) → differ kind None ≡ false
no_kind None = refl
no_kind (Some Number) = refl
no_kind (Some Words) = refl

-- a value that a column takes is of any kind that the column's is
alike : (kind : Option Kind) (c : Column) (v : Value) → takes c v ≡ true → differ kind (Some (column_kind c)) ≡ false → differ kind (value_kind v) ≡ false
alike kind c Null e same = no_kind kind
alike kind c (Int n) e same = subst (λ b. differ kind (Some (cond b Number Words)) ≡ false) e same
alike kind c (Text t) e same = subst (λ b. differ kind (Some (cond b Number Words)) ≡ false) (other (c.kind == 0) (nat_le (characters t) c.kind) e) same
  where
    other : (a b : Bool) → (not a && b) ≡ true → a ≡ false
    other true b f = cc
    other false b f = refl

-- what isn't words is a number
alike_number : (kind : Option Kind) (k : Kind) → is_words (Some k) ≡ false → differ kind (Some k) ≡ false → differ kind (Some Number) ≡ false
alike_number kind Number words same = same
alike_number kind Words words same = cc

-- the row with these values isn't refused, so each column takes its value, if the kinds are right
module _ (format : ℕ) (t : Table) (key values : List Value) (fits : row_refusal format t key values ≡ None) where
  pub fits_column : (place : ℕ) (c : Column) (v : Value) → slice_get t.columns place ≡ Some c → slice_get values place ≡ Some v → differ (Some (column_kind c)) (value_kind v) ≡ false → takes c v ≡ true
  fits_column place c v at there kind =
      let full = none_refused (lacks_value t key values) NullNotAllowed _ fits in
      let short = none_refused (has_long_text t values) TooLong _ full.1 in
      let item = beside t.columns values place c v at there in
      taken c v
      (fails_at lacks_item (zip t.columns values) place (c, v) (second_false (list_any is_null key) (list_any lacks_item (zip t.columns values)) full.0) item)
      (fails_at (λ i. is_long_for i.0.kind i.1) (zip t.columns values) place (c, v) short.0 item)
      kind

unless_count : (b : Bool) (o : Option Reply) (reply : Reply) → cond b o (Some reply) ≡ None → (b ≡ true) × (o ≡ None)
unless_count true o reply e = (refl, e)
unless_count false o reply e = cc

-- a tuple that isn't refused puts a row of the table
pub tuple_taken : (format : ℕ) (t : Table) (values : List Value) → tuple_refusal t.columns values ≡ None → row_refusal format t (key_of t values) values ≡ None
    → (place : ℕ) (c : Column) → slice_get t.columns place ≡ Some c → takes c (stored_value t (key_of t values) (row_of t values) place) ≡ true
tuple_taken format t values bound fits place c at =
    let parts = unless_count (length values == length t.columns) (first_refusal item_refusal (zip t.columns values)) ColumnCount bound in
    let count : length values ≡ length t.columns = same_number (length values) (length t.columns) parts.0 in
    let inside : place < length t.columns = slice_get_within t.columns place c at in
    let there : slice_get values place ≡ Some (value_at values place) = value_there values place (omega (arith, count, inside)) in
    let item = beside t.columns values place c (value_at values place) at there in
    let kind = not_so (differ (Some (column_kind c)) (value_kind (value_at values place))) KindMismatch
    (none_at item_refusal (zip t.columns values) place (c, value_at values place) parts.1 item) in
    subst (λ (v : Value). takes c v ≡ true) (sym (stored_put t values place inside))
    (fits_column format t (key_of t values) values fits place c (value_at values place) at there kind)

-- an assignment that is made isn't refused
record IsBound (t : Table) (test : Assignment → Bool) (a : Assignment) : Type 0 where
  pub found : test a ≡ true
  pub values : first_refusal (term_refusal t.columns (is_sum a.value) (named_kind t.columns a.column)) (operands a.value) ≡ None

set_bound : (t : Table) (test : Assignment → Bool) (earlier : List (List ℕ)) (sets : List Assignment) (a : Assignment) → sets_after t earlier sets ≡ None → find test sets ≡ Some a → IsBound t test a
set_bound t test earlier [] a none e = cc
set_bound t test earlier (x ∷ sets) a none e =
    let parts = or_none (set_refusal t earlier x) (sets_after t (x.column ∷ earlier) sets) none in
    elim (test x) as (λ b. test x ≡ b → cond b (Some x) (find test sets) ≡ Some a → IsBound t test a) [
      | true ↦ λ is f.
          let there = or_none (column_refusal t.columns x.column) _ parts.0 in
          let free = or_none (refuse_if (is_key_column t x.column) KeyColumn) _ there.1 in
          let once = or_none (refuse_if (list_any (is_named x.column) earlier) ColumnCount) _ free.1 in
          subst (IsBound t test) (inside_some x a f) (record { found = is; values = once.1 })
      | false ↦ λ is f. set_bound t test (x.column ∷ earlier) sets a parts.1 f
    ] refl e

-- the column of an operand takes the operand's value
record IsColumn (columns : List Column) (values : List Value) (name : List ℕ) : Type 0 where
  pub column : Column
  pub kind : named_kind columns name ≡ Some (column_kind column)
  pub value : takes column (column_value columns values name) ≡ true

-- over values that their columns take
module _ (columns : List Column) (values : List Value) (all : (place : ℕ) (c : Column) → slice_get columns place ≡ Some c → takes c (value_at values place) ≡ true) where
  is_column : (name : List ℕ) → column_refusal columns name ≡ None → IsColumn columns values name
  is_column name e =
      elim (column_place columns name) as (λ o. column_place columns name ≡ o → cond (is_some o) None (Some NoColumn) ≡ None → IsColumn columns values name) [
        | None ↦ λ is none. cc
        | Some place ↦ λ is none.
            let there = column_there columns name place is in
            record {
              column = there.0;
              kind = ap (λ o. option_map column_kind (option_and_then (slice_get columns) o)) is ∙ ap (option_map column_kind) there.1;
              value = subst (λ (v : Value). takes there.0 v ≡ true) (sym (ap (λ o. option_map_or (value_at values) o Null) is)) (all place there.0 there.1);
            }
      ] refl e

  -- the value of an operand is of a kind that the operand's is
  operand_alike : (kind : Option Kind) (o : Operand) → operand_refusal columns o ≡ None → differ kind (operand_kind columns o) ≡ false → differ kind (value_kind (operand_value columns values o)) ≡ false
  operand_alike kind (Literal v) there same = same
  operand_alike kind (ColumnOf name) there same =
      let is = is_column name there in
      alike kind is.column (column_value columns values name) is.value (subst (λ (k : Option Kind). differ kind k ≡ false) is.kind same)

  -- and a number is, where the operand is no words and isn't Null
  number_alike : (kind : Option Kind) (o : Operand) → operand_refusal columns o ≡ None → is_words (operand_kind columns o) ≡ false → is_null (operand_value columns values o) ≡ false
      → differ kind (operand_kind columns o) ≡ false → differ kind (Some Number) ≡ false
  number_alike kind (Literal Null) there words full same = cc
  number_alike kind (Literal (Int n)) there words full same = same
  number_alike kind (Literal (Text t)) there words full same = cc
  number_alike kind (ColumnOf name) there words full same =
      let is = is_column name there in
      alike_number kind (column_kind is.column) (subst (λ (k : Option Kind). is_words k ≡ false) is.kind words) (subst (λ (k : Option Kind). differ kind k ≡ false) is.kind same)

  is_number : (n : ℤ) (w : Value) → number_value n ≡ Some w → value_kind w ≡ Some Number
  is_number n w e =
      elim (is_i64 n) as (λ b. cond b (Some (Int n)) None ≡ Some w → value_kind w ≡ Some Number) [
        | true ↦ λ f. ap value_kind (sym (inside_some (Int n) w f))
        | false ↦ λ f. cc
      ] e

  -- the value of an expression is of the kind that is set
  pub value_alike : (kind : Option Kind) (e : Expression) (w : Value) → first_refusal (term_refusal columns (is_sum e) kind) (operands e) ≡ None → value_of columns values e ≡ Some w → differ kind (value_kind w) ≡ false
  value_alike kind e w bound is =
      let first = or_none (term_refusal columns (is_sum e) kind e.first) _ bound in
      let there = or_none (operand_refusal columns e.first) _ first.0 in
      let number = or_none (refuse_if (is_sum e && is_words (operand_kind columns e.first)) KindMismatch) _ there.1 in
      let same : differ kind (operand_kind columns e.first) ≡ false = not_so (differ kind (operand_kind columns e.first)) KindMismatch number.1 in
      by (is_sum e) there.0 same (not_so (is_sum e && is_words (operand_kind columns e.first)) KindMismatch number.0) is
    where
      summed : (b : Bool) → operand_refusal columns e.first ≡ None → differ kind (operand_kind columns e.first) ≡ false → is_words (operand_kind columns e.first) ≡ false
          → list_any is_null (operand_values columns values e) ≡ b → cond b (Some Null) (number_value (sum_of columns values e)) ≡ Some w → differ kind (value_kind w) ≡ false
      summed true there same words some f = subst (λ (v : Value). differ kind (value_kind v) ≡ false) (inside_some Null w f) (no_kind kind)
      summed false there same words none f =
          subst (λ (k : Option Kind). differ kind k ≡ false) (sym (is_number (sum_of columns values e) w f))
          (number_alike kind e.first there words (first_false (is_null (operand_value columns values e.first)) _ none) same)

      by : (b : Bool) → operand_refusal columns e.first ≡ None → differ kind (operand_kind columns e.first) ≡ false → (b && is_words (operand_kind columns e.first)) ≡ false
          → cond (not b) (Some (operand_value columns values e.first)) (cond (list_any is_null (operand_values columns values e)) (Some Null) (number_value (sum_of columns values e))) ≡ Some w
          → differ kind (value_kind w) ≡ false
      by false there same words f = subst (λ (v : Value). differ kind (value_kind v) ≡ false) (inside_some (operand_value columns values e.first) w f) (operand_alike kind e.first there same)
      by true there same words f = summed (list_any is_null (operand_values columns values e)) there same words refl f

-- an UPDATE that isn't refused puts a row of the table where one was before
module _ (format : ℕ) (t : Table) (names : names_differ (map (λ c. c.name) t.columns) ≡ true) (sets : List Assignment) (bound : sets_after t [] sets ≡ None)
    (key row : List Value) (old : (place : ℕ) (c : Column) → slice_get t.columns place ≡ Some c → takes c (stored_value t key row place) ≡ true)
    (new : List Value) (is : new_values t sets (in_columns t key row) ≡ Some new) (fits : row_refusal format t key new ≡ None) where
  abbrev before : List Value
  before = in_columns t key row

  before_at : (place : ℕ) (c : Column) → slice_get t.columns place ≡ Some c → value_at before place ≡ stored_value t key row place
  before_at place c at = value_found before place (stored_value t key row place) (stored_there t key row place (slice_get_within t.columns place c at))

  all_before : (place : ℕ) (c : Column) → slice_get t.columns place ≡ Some c → takes c (value_at before place) ≡ true
  all_before place c at = subst (λ (v : Value). takes c v ≡ true) (sym (before_at place c at)) (old place c at)

  -- the kind of the column that is set is the column's
  own_kind : (place : ℕ) (c : Column) (name : List ℕ) → slice_get t.columns place ≡ Some c → is_named name c.name ≡ true → named_kind t.columns name ≡ Some (column_kind c)
  own_kind place c name at same =
      ap (named_kind t.columns) (same_names name c.name same)
      ∙ ap (λ o. option_map column_kind (option_and_then (slice_get t.columns) o)) (own_place t.columns place c names at)
      ∙ ap (option_map column_kind) at

  -- a value that was set, or wasn't
  set_taken : (place : ℕ) (c : Column) (w : Value) (found : Option Assignment) → slice_get t.columns place ≡ Some c → find (λ a. is_named a.column c.name) sets ≡ found
      → value_or t.columns before (stored_value t key row place) found ≡ Some w → slice_get new place ≡ Some w → takes c w ≡ true
  set_taken place c w None at none e there = subst (λ (v : Value). takes c v ≡ true) (inside_some (stored_value t key row place) w e) (old place c at)
  set_taken place c w (Some a) at found e there =
      let set : IsBound t (λ x. is_named x.column c.name) a = set_bound t (λ x. is_named x.column c.name) [] sets a bound found in
      let kind = value_alike t.columns before all_before (named_kind t.columns a.column) a.value w set.values e in
      fits_column format t key new fits place c w at there (subst (λ (k : Option Kind). differ k (value_kind w) ≡ false) (own_kind place c a.column at set.found) kind)

  new_taken : (place : ℕ) (c : Column) → slice_get t.columns place ≡ Some c → takes c (value_at new place) ≡ true
  new_taken place c at =
      let v : Value = stored_value t key row place in
      let item = beside t.columns before place c v at (stored_there t key row place (slice_get_within t.columns place c at)) in
      let made : slice_get (map (new_value t.columns sets before) (zip t.columns before)) place ≡ Some (new_value t.columns sets before (c, v)) =
      slice_get-map (new_value t.columns sets before) (zip t.columns before) place ∙ ap (option_map (new_value t.columns sets before)) item in
      let some = each_some (map (new_value t.columns sets before) (zip t.columns before)) new is place (new_value t.columns sets before (c, v)) made in
      subst (λ (w : Value). takes c w ≡ true) (sym (value_found new place some.0 some.2))
      (set_taken place c some.0 (find (λ a. is_named a.column c.name) sets) at refl some.1 some.2)

  pub update_taken : (place : ℕ) (c : Column) → slice_get t.columns place ≡ Some c → takes c (stored_value t key (row_of t new) place) ≡ true
  update_taken place c at =
      let inside : place < length t.columns = slice_get_within t.columns place c at in
      elim (place_in t.key place) as (λ o. place_in t.key place ≡ o → takes c (stored_value t key (row_of t new) place) ≡ true) [
        | Some i ↦ λ e. subst (λ (v : Value). takes c v ≡ true) (stored_inside t key row place i e ∙ sym (stored_inside t key (row_of t new) place i e)) (old place c at)
        | None ↦ λ e. subst (λ (v : Value). takes c v ≡ true) (sym (stored_outside t key new place inside e)) (new_taken place c at)
      ] refl
