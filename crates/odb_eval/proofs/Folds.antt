-- The truth of bound predicates, by their form.
use Rattle.std.proofs.Common.{◌≡◌, Bool, ap, sym, ◌∙◌}
use Rattle.odb_model.specs.declared.predicate.Compare.{Compare}
use Rattle.odb_eval.specs.declared.source.Source.{Source}
use Rattle.odb_eval.specs.declared.filter.Filter.{Filter, fold-Filter, fold-roll-Filter}
use Rattle.odb_eval.specs.declared.filter.Filter.TheOpen.{Filter-F}
use Rattle.odb_eval.specs.declared.filter.Filter.TheVariants as f

module _ (A : Type 0) (step : Filter-F A → A) where
  pub fold_test : (op : Compare) (left right : Source) → fold-Filter A step (f.Test op left right) ≡ step (Filter-F.Test op left right)
  fold_test op left right = ap (fold-Filter A step) (sym (f.rolls-Test op left right)) ∙ fold-roll-Filter A step (Filter-F.Test op left right)

  pub fold_null : (source : Source) (negated : Bool) → fold-Filter A step (f.Null source negated) ≡ step (Filter-F.Null source negated)
  fold_null source negated = ap (fold-Filter A step) (sym (f.rolls-Null source negated)) ∙ fold-roll-Filter A step (Filter-F.Null source negated)

  pub fold_not : (a : Filter) → fold-Filter A step (f.Not a) ≡ step (Filter-F.Not (fold-Filter A step a))
  fold_not a = ap (fold-Filter A step) (sym (f.rolls-Not a)) ∙ fold-roll-Filter A step (Filter-F.Not a)

  pub fold_and : (a b : Filter) → fold-Filter A step (f.And a b) ≡ step (Filter-F.And (fold-Filter A step a) (fold-Filter A step b))
  fold_and a b = ap (fold-Filter A step) (sym (f.rolls-And a b)) ∙ fold-roll-Filter A step (Filter-F.And a b)

  pub fold_or : (a b : Filter) → fold-Filter A step (f.Or a b) ≡ step (Filter-F.Or (fold-Filter A step a) (fold-Filter A step b))
  fold_or a b = ap (fold-Filter A step) (sym (f.rolls-Or a b)) ∙ fold-roll-Filter A step (Filter-F.Or a b)
