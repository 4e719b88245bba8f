-- What the bound parts of a statement stand for.
use Rattle.std.proofs.Common.{◌≡◌, ℕ, List, [], ◌∷◌, map, length, refl, ap, ◌∙◌, Option, Some, None, is_some, IsSome, slice_get, if◌then◌else◌}
use Rattle.std.specs.Option.{option_or}
use Rattle.std.proofs.lemmas.List.Elements.{All-nil, All-cons}
use Rattle.odb_values.specs.declared.value.Value.{Value}
use Rattle.odb_values.specs.declared.edge.Edge.{Edge}
use Rattle.odb_values.specs.declared.range.Range.{Range}
use Rattle.odb_model.specs.declared.reply.Reply.{Reply}
use Rattle.odb_model.specs.declared.reply.Reply.TheVariants.{NoColumn}
use Rattle.odb_model.specs.declared.statement.What.{What}
use Rattle.odb_model.specs.declared.statement.What.TheVariants as what
use Rattle.odb_model.specs.declared.statement.Assignment.{Assignment}
use Rattle.odb_model.specs.Table.{Table, places, column_place, column_value, stored_value, in_columns}
use Rattle.odb_model.specs.Binding.{column_refusal, set_refusal, sets_after}
use Rattle.odb_model.specs.Where.{ColumnTest, prefix_of, tests_at, low_of, high_of, range_by}
use Rattle.odb_eval.specs.Bound.{source_value, place_source, column_source}
use Rattle.odb_eval.proofs.Binds.{place_bound, is_column}
use Rattle.odb_plan.specs.Bound.{IsWhatOf, what_bound, HasColumns}

pub or_none : (o p : Option Reply) → option_or o p ≡ None → (o ≡ None) × (p ≡ None)
or_none None p e = (refl, e)
or_none (Some r) p e = cc

is_there : (o : Option ℕ) → (if is_some o then None else Some NoColumn) ≡ None → IsSome o
is_there None e = cc
is_there (Some p) e = refl

-- the columns that are set are there where nothing is refused
pub columns_there : (t : Table) (earlier : List (List ℕ)) (sets : List Assignment) → sets_after t earlier sets ≡ None → HasColumns t sets
columns_there t earlier [] e = All-nil (λ a. IsSome (column_place t.columns a.column))
columns_there t earlier (a ∷ sets) e =
    let parts = or_none (set_refusal t earlier a) (sets_after t (a.column ∷ earlier) sets) e in
    let column = or_none (column_refusal t.columns a.column) _ parts.0 in
    All-cons (λ a. IsSome (column_place t.columns a.column)) a sets (is_there (column_place t.columns a.column) column.0) (columns_there t (a.column ∷ earlier) sets parts.1)

module _ (t : Table) (key row : List Value) where
  all_values : (ps : List ℕ) → map (source_value key row) (map (place_source t) ps) ≡ map (stored_value t key row) ps
  all_values [] = refl
  all_values (p ∷ ps) = ap (λ v. v ∷ map (source_value key row) (map (place_source t) ps)) (place_bound t key row p) ∙ ap (λ vs. stored_value t key row p ∷ vs) (all_values ps)

  named_values : (names : List (List ℕ)) → map (source_value key row) (map (column_source t) names) ≡ map (column_value t.columns (in_columns t key row)) names
  named_values [] = refl
  named_values (name ∷ names) =
      ap (λ v. v ∷ map (source_value key row) (map (column_source t) names)) (is_column t name key row)
      ∙ ap (λ vs. column_value t.columns (in_columns t key row) name ∷ vs) (named_values names)

-- what a SELECT gives
pub is_what : (t : Table) (w : What) → IsWhatOf t w (what_bound t w)
is_what t what.All = λ key row. all_values t key row (places t)
is_what t (what.Columns names) = λ key row. named_values t key row names
is_what t what.Count = tt
is_what t (what.Sum name) = is_column t name

-- a range of these parts
abbrev range_with : ℕ → List Value → Edge → Edge → Range
range_with table prefix low high = record { table = table; prefix = prefix; low = low; high = high }

-- the range of comparisons, from its parts
pub range_is : (t : Table) (tests : List ColumnTest) (number : ℕ) (prefix : List Value) (next : Option ℕ) (low high : Edge) → number ≡ t.number → prefix ≡ prefix_of tests t.key → next ≡ slice_get t.key (length prefix)
    → low ≡ low_of (tests_at tests next) → high ≡ high_of (tests_at tests next) → range_with number prefix low high ≡ range_by t tests
range_is t tests number prefix next low high n p x l h =
    let place : next ≡ slice_get t.key (length (prefix_of tests t.key)) = x ∙ ap (λ values. slice_get t.key (length values)) p in
    ap (λ m. range_with m prefix low high) n
    ∙ ap (λ values. range_with t.number values low high) p
    ∙ ap (λ e. range_with t.number (prefix_of tests t.key) e high) (l ∙ ap (λ o. low_of (tests_at tests o)) place)
    ∙ ap (range_with t.number (prefix_of tests t.key) (low_of (tests_at tests (slice_get t.key (length (prefix_of tests t.key)))))) (h ∙ ap (λ o. high_of (tests_at tests o)) place)
