-- What a fold over a predicate gives at each kind of predicate.
use Rattle.std.proofs.Common.{◌≡◌, ℕ, List, Bool, ap, sym, ◌∙◌}
use Rattle.odb_model.specs.declared.predicate.Compare.{Compare}
use Rattle.odb_model.specs.declared.predicate.Operand.{Operand}
use Rattle.odb_model.specs.declared.predicate.Predicate.{Predicate, fold-Predicate, fold-roll-Predicate}
use Rattle.odb_model.specs.declared.predicate.Predicate.TheOpen.{Predicate-F}
use Rattle.odb_model.specs.declared.predicate.Predicate.TheVariants as p

module _ (A : Type 0) (step : Predicate-F A → A) where
  pub fold_test : (op : Compare) (left right : Operand)
      → fold-Predicate A step (p.Test op left right) ≡ step (Predicate-F.Test op left right)
  fold_test op left right =
      ap (fold-Predicate A step) (sym (p.rolls-Test op left right)) ∙ fold-roll-Predicate A step (Predicate-F.Test op left right)

  pub fold_null : (column : List ℕ) (negated : Bool)
      → fold-Predicate A step (p.Null column negated) ≡ step (Predicate-F.Null column negated)
  fold_null column negated =
      ap (fold-Predicate A step) (sym (p.rolls-Null column negated)) ∙ fold-roll-Predicate A step (Predicate-F.Null column negated)

  pub fold_not : (a : Predicate) → fold-Predicate A step (p.Not a) ≡ step (Predicate-F.Not (fold-Predicate A step a))
  fold_not a = ap (fold-Predicate A step) (sym (p.rolls-Not a)) ∙ fold-roll-Predicate A step (Predicate-F.Not a)

  pub fold_and : (a b : Predicate)
      → fold-Predicate A step (p.And a b) ≡ step (Predicate-F.And (fold-Predicate A step a) (fold-Predicate A step b))
  fold_and a b = ap (fold-Predicate A step) (sym (p.rolls-And a b)) ∙ fold-roll-Predicate A step (Predicate-F.And a b)

  pub fold_or : (a b : Predicate)
      → fold-Predicate A step (p.Or a b) ≡ step (Predicate-F.Or (fold-Predicate A step a) (fold-Predicate A step b))
  fold_or a b = ap (fold-Predicate A step) (sym (p.rolls-Or a b)) ∙ fold-roll-Predicate A step (Predicate-F.Or a b)
