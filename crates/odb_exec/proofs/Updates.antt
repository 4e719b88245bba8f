-- What an UPDATE leaves of the columns of a row.
use Rattle.std.proofs.Common.{◌≡◌, ℕ, suc, ◌+◌, true, false, List, [], ◌∷◌, map, length, cond, refl, sym, ap, ◌∙◌, Option, Some, None, option_map, slice_get, unwrap_or, add-one, add-zero, arith}
use Rattle.std.specs.Option.{option_map_or, option_and_then}
use Rattle.std.specs.List.{zip, find, range_with_len}
use Rattle.odb_values.specs.declared.value.Value.{Value}
use Rattle.odb_values.specs.declared.value.Value.TheVariants.{Null}
use Rattle.odb_model.specs.declared.statement.Assignment.{Assignment}
use Rattle.odb_model.specs.Table.{Column, Table, is_named, value_at, place_in, places, places_outside, stored_value, in_columns}
use Rattle.odb_model.specs.Meaning.{value_or, new_value}
use Rattle.odb_eval.specs.declared.source.Source.TheVariants.{InKey, InRow, Literal}
use Rattle.odb_eval.specs.Bound.{source_value, place_source, bound_value}
use Rattle.odb_plan.specs.declared.binding.Set.{Set}
use Rattle.odb_plan.specs.Bound.{AreSetsOf}
use Rattle.odb_exec.specs.Columns.{column_by, name_at, set_place, new_column, column_after, AreColumnsAfter}

module _ (t : Table) (key row : List Value) where
  abbrev values : List Value
  values = in_columns t key row

  place_bound : (p : ℕ) → source_value key row (place_source t p) ≡ stored_value t key row p
  place_bound p =
      elim (place_in t.key p) as (λ o. source_value key row (option_map_or InKey o (option_map_or InRow (place_in (places_outside t) p) (Literal Null))) ≡ option_map_or (value_at key) o (option_map_or (value_at row) (place_in (places_outside t) p) Null)) [
        | Some at ↦ refl
        | None ↦ elim (place_in (places_outside t) p) as (λ o. source_value key row (option_map_or InRow o (Literal Null)) ≡ option_map_or (value_at row) o Null) [ Some at ↦ refl | None ↦ refl ]
      ]

  -- behind the first assignment
  later : (set : Set) (sets : List Set) (p : ℕ) (o : Option ℕ) → column_after (set ∷ sets) key row (column_by t p (option_map (λ i. i + 1) o)) ≡ column_after sets key row (column_by t p o)
  later set sets p None = refl
  later set sets p (Some i) = ap (λ n. option_and_then (λ s. bound_value key row s.value) (slice_get (set ∷ sets) n)) (add-one i)

  module _ (p : ℕ) (name : List ℕ) where
    one_column : (assigned : List Assignment) (sets : List Set) → AreSetsOf t assigned sets
        → column_after sets key row (column_by t p (set_place assigned name)) ≡ value_or t.columns values (stored_value t key row p) (find (λ a. is_named a.column name) assigned)
    one_column [] [] are = ap Some (place_bound p)
    one_column [] (set ∷ sets) are = absurd are
    one_column (a ∷ assigned) [] are = absurd are
    one_column (a ∷ assigned) (set ∷ sets) are =
        elim (is_named a.column name) as (λ b. column_after (set ∷ sets) key row (column_by t p (cond b (Some 0) (option_map (λ i. i + 1) (set_place assigned name)))) ≡ value_or t.columns values (stored_value t key row p) (cond b (Some a) (find (λ x. is_named x.column name) assigned))) [
          | true ↦ are.0.value key row
          | false ↦ later set sets p (set_place assigned name) ∙ one_column assigned sets are.1
        ]

  module _ (assigned : List Assignment) (sets : List Set) (are : AreSetsOf t assigned sets) where
    next_place : (cs : List Column) (c : Column) (from : ℕ) → ((i : ℕ) → slice_get t.columns (from + i) ≡ slice_get (c ∷ cs) i) → (i : ℕ) → slice_get t.columns (from + 1 + i) ≡ slice_get cs i
    next_place cs c from at i = let same : from + 1 + i ≡ from + suc i = omega arith in ap (slice_get t.columns) same ∙ at (suc i)

    named : (cs : List Column) (c : Column) (from : ℕ) → ((i : ℕ) → slice_get t.columns (from + i) ≡ slice_get (c ∷ cs) i) → name_at t from ≡ c.name
    named cs c from at = ap (λ o. unwrap_or (option_map (λ (x : Column). x.name) o) []) (ap (slice_get t.columns) (sym (add-zero from)) ∙ at 0)

    from_place : (cs : List Column) (from : ℕ) → ((i : ℕ) → slice_get t.columns (from + i) ≡ slice_get cs i)
        → map (column_after sets key row) (map (new_column t assigned) (range_with_len from (length cs)))
        ≡ map (new_value t.columns assigned values) (zip cs (map (stored_value t key row) (range_with_len from (length cs))))
    from_place [] from at = refl
    from_place (c ∷ cs) from at =
        ap (λ v. v ∷ map (column_after sets key row) (map (new_column t assigned) (range_with_len (from + 1) (length cs))))
        (ap (λ n. column_after sets key row (column_by t from (set_place assigned n))) (named cs c from at) ∙ one_column from c.name assigned sets are)
        ∙ ap (λ l. new_value t.columns assigned values (c, stored_value t key row from) ∷ l) (from_place cs (from + 1) (next_place cs c from at))

-- each column gets what the UPDATE leaves of it
pub columns-are : (t : Table) (assigned : List Assignment) (sets : List Set) → AreSetsOf t assigned sets → AreColumnsAfter t assigned sets (map (new_column t assigned) (places t))
columns-are t assigned sets are key row =
    from_place t key row assigned sets are t.columns 0 (λ i. let same : 0 + i ≡ i = omega arith in ap (slice_get t.columns) same)
