-- Which replies refuse a statement by its text and the dictionary alone.
use Rattle.std.proofs.Common.{◌≡◌, ℕ, Bool, true, false, ◌&&◌, ◌==◌, List, [], ◌∷◌, length, sym, ap, subst, Option, Some, None, is_some, unwrap_or, if◌then◌else◌}
use Rattle.std.specs.Option.{option_or}
use Rattle.std.specs.List.{list_any, zip}
use Rattle.odb_values.specs.declared.value.Value.{Value}
use Rattle.odb_model.specs.declared.predicate.Operand.{Operand}
use Rattle.odb_model.specs.declared.predicate.Operand.TheVariants as operand
use Rattle.odb_model.specs.declared.predicate.Predicate.{Predicate}
use Rattle.odb_model.specs.declared.reply.Reply.{Reply}
use Rattle.odb_model.specs.declared.reply.Reply.TheVariants.{NoColumn, KeyColumn, ColumnCount, KindMismatch}
use Rattle.odb_model.specs.declared.statement.What.{What}
use Rattle.odb_model.specs.declared.statement.What.TheVariants as what
use Rattle.odb_model.specs.declared.statement.Assignment.{Assignment}
use Rattle.odb_model.specs.declared.statement.Statement.{Statement}
use Rattle.odb_model.specs.declared.statement.Statement.TheVariants.{Select, Insert, Update, Delete}
use Rattle.odb_model.specs.Table.{Column, Table, is_named, column_place}
use Rattle.odb_model.specs.Binding.{Kind, refuse_if, first_refusal, differ, is_words, column_kind, value_kind, named_kind, operand_kind, column_refusal, operand_refusal, test_refusal, filter_step, predicate_refusal, filter_refusal, what_refusal, item_refusal, tuple_refusal, operands, is_sum, term_refusal, is_key_column, set_refusal, sets_after, sets_refusal, binding_refusal}
use Rattle.odb_model.proofs.Induct.{fold_test, fold_null, fold_not, fold_and, fold_or, induct_all}
use Rattle.odb_plan.specs.Bound.{IsBindingReply}

-- what refuses is one of these replies
abbrev Only : Option Reply → Type 0
Only o = (r : Reply) → o ≡ Some r → IsBindingReply r

only_none : Only None
only_none r e = cc

only_some : (q : Reply) → IsBindingReply q → Only (Some q)
only_some q is r e = subst IsBindingReply (ap (λ o. unwrap_or o q) e) is

only_or : (a b : Option Reply) → Only a → Only b → Only (option_or a b)
only_or None b p q = q
only_or (Some x) b p q = p

only_if : (b : Bool) (q : Reply) → IsBindingReply q → Only (refuse_if b q)
only_if true q is = only_some q is
only_if false q is = only_none

only_first : {X : Type 0} (f : X → Option Reply) → ((x : X) → Only (f x)) → (xs : List X) → Only (first_refusal f xs)
only_first f all [] = only_none
only_first f all (x ∷ xs) = only_or (f x) (first_refusal f xs) (all x) (only_first f all xs)

module _ (columns : List Column) where
  only_column : (name : List ℕ) → Only (column_refusal columns name)
  only_column name = elim (is_some (column_place columns name)) as (λ b. Only (if b then None else Some NoColumn)) [ true ↦ only_none | false ↦ only_some NoColumn tt ]

  only_operand : (o : Operand) → Only (operand_refusal columns o)
  only_operand (operand.Column name) = only_column name
  only_operand (operand.Literal v) = only_none

  only_test : (left right : Operand) → Only (test_refusal columns left right)
  only_test left right =
      only_or (operand_refusal columns left) _ (only_operand left)
      (only_or (operand_refusal columns right) _ (only_operand right) (only_if (differ (operand_kind columns left) (operand_kind columns right)) KindMismatch tt))

  only_predicate : (p : Predicate) → Only (predicate_refusal columns p)
  only_predicate =
      induct_all (λ p. Only (predicate_refusal columns p))
      (λ op left right. subst Only (sym (fold_test (Option Reply) (filter_step columns) op left right)) (only_test left right))
      (λ name negated. subst Only (sym (fold_null (Option Reply) (filter_step columns) name negated)) (only_column name))
      (λ a p. subst Only (sym (fold_not (Option Reply) (filter_step columns) a)) p)
      (λ a b p q. subst Only (sym (fold_and (Option Reply) (filter_step columns) a b)) (only_or (predicate_refusal columns a) (predicate_refusal columns b) p q))
      (λ a b p q. subst Only (sym (fold_or (Option Reply) (filter_step columns) a b)) (only_or (predicate_refusal columns a) (predicate_refusal columns b) p q))

  only_filter : (f : Option Predicate) → Only (filter_refusal columns f)
  only_filter None = only_none
  only_filter (Some p) = only_predicate p

  only_what : (w : What) → Only (what_refusal columns w)
  only_what what.All = only_none
  only_what (what.Columns names) = only_first (column_refusal columns) only_column names
  only_what what.Count = only_none
  only_what (what.Sum name) = only_or (column_refusal columns name) _ (only_column name) (only_if (is_words (named_kind columns name)) KindMismatch tt)

  only_tuple : (values : List Value) → Only (tuple_refusal columns values)
  only_tuple values =
      elim (length values == length columns) as (λ b. Only (if b then first_refusal item_refusal (zip columns values) else Some ColumnCount)) [
        | true ↦ only_first item_refusal (λ item. only_if (differ (Some (column_kind item.0)) (value_kind item.1)) KindMismatch tt) (zip columns values)
        | false ↦ only_some ColumnCount tt
      ]

  only_term : (several : Bool) (kind : Option Kind) (o : Operand) → Only (term_refusal columns several kind o)
  only_term several kind o =
      only_or (operand_refusal columns o) _ (only_operand o)
      (only_or (refuse_if (several && is_words (operand_kind columns o)) KindMismatch) _ (only_if (several && is_words (operand_kind columns o)) KindMismatch tt) (only_if (differ kind (operand_kind columns o)) KindMismatch tt))

module _ (t : Table) where
  only_set : (earlier : List (List ℕ)) (a : Assignment) → Only (set_refusal t earlier a)
  only_set earlier a =
      only_or (column_refusal t.columns a.column) _ (only_column t.columns a.column)
      (only_or (refuse_if (is_key_column t a.column) KeyColumn) _ (only_if (is_key_column t a.column) KeyColumn tt)
      (only_or (refuse_if (list_any (is_named a.column) earlier) ColumnCount) _ (only_if (list_any (is_named a.column) earlier) ColumnCount tt)
      (only_first (term_refusal t.columns (is_sum a.value) (named_kind t.columns a.column)) (only_term t.columns (is_sum a.value) (named_kind t.columns a.column)) (operands a.value))))

  only_sets : (earlier : List (List ℕ)) (sets : List Assignment) → Only (sets_after t earlier sets)
  only_sets earlier [] = only_none
  only_sets earlier (a ∷ sets) = only_or (set_refusal t earlier a) _ (only_set earlier a) (only_sets (a.column ∷ earlier) sets)

  pub binding_reply : (st : Statement) → Only (binding_refusal t st)
  binding_reply (Select w table f) = only_or (what_refusal t.columns w) _ (only_what t.columns w) (only_filter t.columns f)
  binding_reply (Insert table tuples) = only_first (tuple_refusal t.columns) (only_tuple t.columns) tuples
  binding_reply (Update table sets f) = only_or (sets_refusal t sets) _ (only_sets [] sets) (only_filter t.columns f)
  binding_reply (Delete table f) = only_filter t.columns f
  binding_reply other = only_none
