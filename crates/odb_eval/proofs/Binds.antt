-- What is bound gives on each row what the names give.
use Rattle.std.proofs.Common.{◌≡◌, ℕ, suc, ◌+◌, ◌<◌, ℤ, pos, ◌+ℤ◌, neg_ℤ, Bool, true, false, not, ◌||◌, cond, List, [], ◌∷◌, map, length, fold, refl, sym, ap, subst, ◌∙◌, Option, Some, None, option_map, is_some, slice_get, unwrap_or, arith, if◌then◌else◌}
use Rattle.std.specs.Option.{option_map_or}
use Rattle.std.specs.List.{list_any}
use Rattle.std.proofs.Math.IntN.{+ℤ_assoc, +ℤ_idr}
use Rattle.std.proofs.lemmas.Option.{unwrap_or-slice_get}
use Rattle.std.proofs.lemmas.List.FromFn.{get_or-map-range_with_len}
use Rattle.odb_values.specs.declared.value.Value.{Value}
use Rattle.odb_values.specs.declared.value.Value.TheVariants.{Null}
use Rattle.odb_values.specs.Value.{is_null}
use Rattle.odb_model.specs.declared.predicate.Compare.{Compare}
use Rattle.odb_model.specs.declared.predicate.Operand.{Operand}
use Rattle.odb_model.specs.declared.predicate.Operand.TheVariants as operand
use Rattle.odb_model.specs.declared.predicate.Predicate.{Predicate}
use Rattle.odb_model.specs.declared.predicate.Predicate.TheVariants as predicate
use Rattle.odb_model.specs.declared.statement.Expression.{Expression}
use Rattle.odb_model.specs.declared.statement.Term.{Term}
use Rattle.odb_model.specs.declared.truth.Truth.{Truth}
use Rattle.odb_model.specs.Table.{Column, Table, is_named, value_at, column_place, column_value, place_in, places_outside, stored_value, in_columns}
use Rattle.odb_model.specs.Truth.{compared, operand_value, truth_if, not_of, both_of, either_of, truth_step, truth_of}
use Rattle.odb_model.specs.Binding.{operands}
use Rattle.odb_model.specs.Sums.{number_of, int_sum, number_value, operand_values, addend, sum_of, value_of}
use Rattle.odb_model.proofs.Induct as model
use Rattle.odb_eval.specs.declared.source.Source.{Source}
use Rattle.odb_eval.specs.declared.source.Source.TheVariants.{InKey, InRow, Literal}
use Rattle.odb_eval.specs.declared.filter.Filter.{Filter}
use Rattle.odb_eval.specs.declared.filter.Filter.TheVariants as filter
use Rattle.odb_eval.specs.declared.expression.BoundTerm.{BoundTerm}
use Rattle.odb_eval.specs.declared.expression.BoundExpression.{BoundExpression}
use Rattle.odb_eval.specs.Bound.{source_value, null_truth, filter_step, filter_truth, bound_addend, bound_sum, has_null, value_by, bound_value, IsColumnOf, IsOperandOf, IsFilterOf, IsExpressionOf, place_source, column_source, operand_source, bound_step, bound_filter, bound_term, bound_expression}
use Rattle.odb_eval.proofs.Folds as own

-- the place behind the first one
within_more : (o : Option ℕ) (n p : ℕ) → ((q : ℕ) → o ≡ Some q → q < n) → option_map (λ q. q + 1) o ≡ Some p → p < suc n
within_more None n p inside e = cc
within_more (Some q) n p inside e =
    let h : q < n = inside q refl in
    let same : q + 1 ≡ p = ap (λ o. unwrap_or o p) e in
    omega arith

-- a column's place is inside the table
column_place-within : (columns : List Column) (name : List ℕ) (p : ℕ) → column_place columns name ≡ Some p → p < length columns
column_place-within [] name p e = cc
column_place-within (c ∷ columns) name p e =
    elim (is_named name c.name) as (λ b. cond b (Some 0) (option_map (λ q. q + 1) (column_place columns name)) ≡ Some p → p < suc (length columns)) [
      | true ↦ λ same. let first : 0 ≡ p = ap (λ o. unwrap_or o p) same in omega arith
      | false ↦ λ later. within_more (column_place columns name) (length columns) p (column_place-within columns name) later
    ] e

module _ (t : Table) (key row : List Value) where
  abbrev columns_of : List Value
  columns_of = in_columns t key row

  -- the value at a place of the table
  value_at-columns : (p : ℕ) → p < length t.columns → value_at columns_of p ≡ stored_value t key row p
  value_at-columns p inside =
      let at : 0 + p ≡ p = omega arith in
      unwrap_or-slice_get columns_of p Null ∙ get_or-map-range_with_len (stored_value t key row) 0 (length t.columns) p p Null inside at

  pub place_bound : (p : ℕ) → source_value key row (place_source t p) ≡ stored_value t key row p
  place_bound p =
      elim (place_in t.key p) as (λ o. source_value key row (option_map_or InKey o (option_map_or InRow (place_in (places_outside t) p) (Literal Null))) ≡ option_map_or (value_at key) o (option_map_or (value_at row) (place_in (places_outside t) p) Null)) [
        | Some at ↦ refl
        | None ↦ elim (place_in (places_outside t) p) as (λ o. source_value key row (option_map_or InRow o (Literal Null)) ≡ option_map_or (value_at row) o Null) [ Some at ↦ refl | None ↦ refl ]
      ]

  column_bound : (name : List ℕ) → source_value key row (column_source t name) ≡ column_value t.columns columns_of name
  column_bound name =
      elim (column_place t.columns name) as (λ o. column_place t.columns name ≡ o → source_value key row (option_map_or (place_source t) o (Literal Null)) ≡ option_map_or (value_at columns_of) o Null) [
        | None ↦ λ e. refl
        | Some p ↦ λ e. place_bound p ∙ sym (value_at-columns p (column_place-within t.columns name p e))
      ] refl

  operand_bound : (o : Operand) → source_value key row (operand_source t o) ≡ operand_value t.columns columns_of o
  operand_bound (operand.Column name) = column_bound name
  operand_bound (operand.Literal v) = refl

  abbrev truth_in : Predicate → Truth
  truth_in p = truth_of t.columns columns_of p

  abbrev bound_truth : Predicate → Truth
  bound_truth p = filter_truth key row (bound_filter t p)

  abbrev Same : Predicate → Type 0
  Same p = bound_truth p ≡ truth_in p

  test_bound : (op : Compare) (left right : Operand) → Same (predicate.Test op left right)
  test_bound op left right =
      ap (filter_truth key row) (model.fold_test Filter (bound_step t) op left right)
      ∙ own.fold_test Truth (filter_step key row) op (operand_source t left) (operand_source t right)
      ∙ ap (λ v. compared op v (source_value key row (operand_source t right))) (operand_bound left)
      ∙ ap (compared op (operand_value t.columns columns_of left)) (operand_bound right)
      ∙ sym (model.fold_test Truth (truth_step t.columns columns_of) op left right)

  null_bound : (name : List ℕ) (negated : Bool) → Same (predicate.Null name negated)
  null_bound name negated =
      ap (filter_truth key row) (model.fold_null Filter (bound_step t) name negated)
      ∙ own.fold_null Truth (filter_step key row) (column_source t name) negated
      ∙ ap (null_truth negated) (column_bound name)
      ∙ sym (model.fold_null Truth (truth_step t.columns columns_of) name negated)

  not_bound : (a : Predicate) → Same a → Same (predicate.Not a)
  not_bound a p =
      ap (filter_truth key row) (model.fold_not Filter (bound_step t) a)
      ∙ own.fold_not Truth (filter_step key row) (bound_filter t a)
      ∙ ap not_of p
      ∙ sym (model.fold_not Truth (truth_step t.columns columns_of) a)

  and_bound : (a b : Predicate) → Same a → Same b → Same (predicate.And a b)
  and_bound a b p q =
      ap (filter_truth key row) (model.fold_and Filter (bound_step t) a b)
      ∙ own.fold_and Truth (filter_step key row) (bound_filter t a) (bound_filter t b)
      ∙ ap (λ x. both_of x (bound_truth b)) p
      ∙ ap (both_of (truth_in a)) q
      ∙ sym (model.fold_and Truth (truth_step t.columns columns_of) a b)

  or_bound : (a b : Predicate) → Same a → Same b → Same (predicate.Or a b)
  or_bound a b p q =
      ap (filter_truth key row) (model.fold_or Filter (bound_step t) a b)
      ∙ own.fold_or Truth (filter_step key row) (bound_filter t a) (bound_filter t b)
      ∙ ap (λ x. either_of x (bound_truth b)) p
      ∙ ap (either_of (truth_in a)) q
      ∙ sym (model.fold_or Truth (truth_step t.columns columns_of) a b)

  predicate_bound : (p : Predicate) → Same p
  predicate_bound = model.induct_all Same test_bound null_bound not_bound and_bound or_bound

  addend_bound : (term : Term) → bound_addend key row (bound_term t term) ≡ addend t.columns columns_of term
  addend_bound term = ap (λ v. if term.minus then neg_ℤ (number_of v) else number_of v) (operand_bound term.operand)

  sum_bound : (terms : List Term) (first : ℤ) → fold (λ sum term. sum +ℤ bound_addend key row term) first (map (bound_term t) terms) ≡ first +ℤ int_sum (map (addend t.columns columns_of) terms)
  sum_bound [] first = sym (+ℤ_idr first)
  sum_bound (term ∷ terms) first =
      sum_bound terms (first +ℤ bound_addend key row (bound_term t term))
      ∙ ap (λ n. first +ℤ n +ℤ int_sum (map (addend t.columns columns_of) terms)) (addend_bound term)
      ∙ +ℤ_assoc first (addend t.columns columns_of term) (int_sum (map (addend t.columns columns_of) terms))

  nulls_bound : (terms : List Term) → list_any (λ term. is_null (source_value key row term.source)) (map (bound_term t) terms) ≡ list_any is_null (map (operand_value t.columns columns_of) (map (λ term. term.operand) terms))
  nulls_bound [] = refl
  nulls_bound (term ∷ terms) =
      ap (λ v. is_null v || list_any (λ term. is_null (source_value key row term.source)) (map (bound_term t) terms)) (operand_bound term.operand)
      ∙ ap (λ b. is_null (operand_value t.columns columns_of term.operand) || b) (nulls_bound terms)

  has_null_bound : (e : Expression) → has_null key row (bound_expression t e) ≡ list_any is_null (operand_values t.columns columns_of e)
  has_null_bound e =
      ap (λ v. is_null v || list_any (λ term. is_null (source_value key row term.source)) (map (bound_term t) e.rest)) (operand_bound e.first)
      ∙ ap (λ b. is_null (operand_value t.columns columns_of e.first) || b) (nulls_bound e.rest)

  whole_sum_bound : (e : Expression) → bound_sum key row (bound_expression t e) ≡ sum_of t.columns columns_of e
  whole_sum_bound e =
      ap (λ v. fold (λ sum term. sum +ℤ bound_addend key row term) (number_of v) (map (bound_term t) e.rest)) (operand_bound e.first)
      ∙ sum_bound e.rest (number_of (operand_value t.columns columns_of e.first))

  -- the value by what follows the first operand
  value_bound-by : (e : Expression) (rest : List Term) → value_by key row (bound_expression t e) (map (bound_term t) rest)
      ≡ (if not (is_some (slice_get rest 0)) then Some (operand_value t.columns columns_of e.first)
      else if list_any is_null (operand_values t.columns columns_of e) then Some Null else number_value (sum_of t.columns columns_of e))
  value_bound-by e [] = ap Some (operand_bound e.first)
  value_bound-by e (term ∷ rest) =
      ap (λ b. if b then Some Null else number_value (bound_sum key row (bound_expression t e))) (has_null_bound e)
      ∙ ap (λ n. if list_any is_null (operand_values t.columns columns_of e) then Some Null else number_value n) (whole_sum_bound e)

  pub expression_bound : (e : Expression) → bound_value key row (bound_expression t e) ≡ value_of t.columns columns_of e
  expression_bound e = value_bound-by e e.rest

pub is_column : (t : Table) (name : List ℕ) → IsColumnOf t name (column_source t name)
is_column t name key row = column_bound t key row name

pub is_operand : (t : Table) (o : Operand) → IsOperandOf t o (operand_source t o)
is_operand t o key row = operand_bound t key row o

pub is_filter : (t : Table) (p : Predicate) → IsFilterOf t p (bound_filter t p)
is_filter t p key row = predicate_bound t key row p

pub is_expression : (t : Table) (e : Expression) → IsExpressionOf t e (bound_expression t e)
is_expression t e key row = expression_bound t key row e
