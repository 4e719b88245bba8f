-- What a bound SELECT tells is what the SELECT tells.
use Rattle.std.proofs.Common.{◌≡◌, pos, List, [], ◌∷◌, map, refl, sym, ap, ◌∙◌}
use Rattle.std.proofs.lemmas.List.{length-map}
use Rattle.odb_values.specs.declared.value.Value.TheVariants.{Int}
use Rattle.odb_model.specs.declared.reply.Reply.TheVariants.{Rows}
use Rattle.odb_model.specs.declared.statement.What.{What}
use Rattle.odb_model.specs.declared.statement.What.TheVariants as what
use Rattle.odb_model.specs.Table.{Table, column_value}
use Rattle.odb_model.specs.Sums.{total_of}
use Rattle.odb_model.specs.Meaning.{values_of, told, single_or_overflow}
use Rattle.odb_eval.specs.Bound.{source_value}
use Rattle.odb_plan.specs.declared.what.BoundWhat.{BoundWhat}
use Rattle.odb_plan.specs.declared.what.BoundWhat.TheVariants as bound
use Rattle.odb_plan.specs.Bound.{IsWhatOf}
use Rattle.odb_exec.specs.Told.{told_by}
use Rattle.odb_rowsource.proofs.Above.{Entry}

alike : {A B : Type 0} (f g : A → B) → ((x : A) → f x ≡ g x) → (xs : List A) → map f xs ≡ map g xs
alike f g same [] = refl
alike f g same (x ∷ xs) = ap (λ y. y ∷ map f xs) (same x) ∙ ap (λ l. g x ∷ l) (alike f g same xs)

twice : {A B C : Type 0} (f : A → B) (g : B → C) (xs : List A) → map (λ x. g (f x)) xs ≡ map g (map f xs)
twice f g [] = refl
twice f g (x ∷ xs) = ap (λ l. g (f x) ∷ l) (twice f g xs)

module _ (t : Table) (rows : List Entry) where
  pub told-is : (w : What) (b : BoundWhat) → IsWhatOf t w b → told_by b rows ≡ told t.columns w (map (values_of t) rows)
  told-is what.All (bound.Columns sources) is =
      ap Rows (alike (λ (e : Entry). map (source_value e.0.key e.1) sources) (values_of t) (λ e. is e.0.key e.1) rows)
  told-is what.All bound.Count is = absurd is
  told-is what.All (bound.Sum source) is = absurd is
  told-is (what.Columns names) (bound.Columns sources) is =
      ap Rows (alike (λ (e : Entry). map (source_value e.0.key e.1) sources) (λ e. map (column_value t.columns (values_of t e)) names) (λ e. is e.0.key e.1) rows
      ∙ twice (values_of t) (λ values. map (column_value t.columns values) names) rows)
  told-is (what.Columns names) bound.Count is = absurd is
  told-is (what.Columns names) (bound.Sum source) is = absurd is
  told-is what.Count bound.Count is = ap (λ n. Rows ((Int (pos n) ∷ []) ∷ [])) (sym (length-map rows (values_of t)))
  told-is what.Count (bound.Columns sources) is = absurd is
  told-is what.Count (bound.Sum source) is = absurd is
  told-is (what.Sum name) (bound.Sum source) is =
      ap (λ values. single_or_overflow (total_of values))
      (alike (λ (e : Entry). source_value e.0.key e.1 source) (λ e. column_value t.columns (values_of t e) name) (λ e. is e.0.key e.1) rows
      ∙ twice (values_of t) (λ values. column_value t.columns values name) rows)
  told-is (what.Sum name) (bound.Columns sources) is = absurd is
  told-is (what.Sum name) bound.Count is = absurd is
