-- Induction over predicates.
use Rattle.std.proofs.Common.{◌≡◌, ℕ, List, Bool, ap, sym, subst, ◌∙◌}
use Rattle.odb_model.specs.declared.predicate.Compare.{Compare}
use Rattle.odb_model.specs.declared.predicate.Operand.{Operand}
use Rattle.odb_model.specs.declared.predicate.Predicate.{Predicate, ind-Predicate, fold-Predicate, fold-roll-Predicate, roll-Predicate}
use Rattle.odb_model.specs.declared.predicate.Predicate.TheFolds.{map-Predicate}
use Rattle.odb_model.specs.declared.predicate.Predicate.TheOpen.{Predicate-F}
use Rattle.odb_model.specs.declared.predicate.Predicate.TheVariants as p

module _ (A : Type 0) (step : Predicate-F A → A) where
  pub fold_test : (op : Compare) (left right : Operand)
      → fold-Predicate A step (p.Test op left right) ≡ step (Predicate-F.Test op left right)
  fold_test op left right =
      ap (fold-Predicate A step) (sym (p.rolls-Test op left right)) ∙ fold-roll-Predicate A step (Predicate-F.Test op left right)

  pub fold_null : (column : List ℕ) (negated : Bool)
      → fold-Predicate A step (p.Null column negated) ≡ step (Predicate-F.Null column negated)
  fold_null column negated =
      ap (fold-Predicate A step) (sym (p.rolls-Null column negated)) ∙ fold-roll-Predicate A step (Predicate-F.Null column negated)

  pub fold_not : (a : Predicate) → fold-Predicate A step (p.Not a) ≡ step (Predicate-F.Not (fold-Predicate A step a))
  fold_not a = ap (fold-Predicate A step) (sym (p.rolls-Not a)) ∙ fold-roll-Predicate A step (Predicate-F.Not a)

  pub fold_and : (a b : Predicate)
      → fold-Predicate A step (p.And a b) ≡ step (Predicate-F.And (fold-Predicate A step a) (fold-Predicate A step b))
  fold_and a b = ap (fold-Predicate A step) (sym (p.rolls-And a b)) ∙ fold-roll-Predicate A step (Predicate-F.And a b)

  pub fold_or : (a b : Predicate)
      → fold-Predicate A step (p.Or a b) ≡ step (Predicate-F.Or (fold-Predicate A step a) (fold-Predicate A step b))
  fold_or a b = ap (fold-Predicate A step) (sym (p.rolls-Or a b)) ∙ fold-roll-Predicate A step (Predicate-F.Or a b)

module _ (P : Predicate → Type 0)
    (test : (op : Compare) (left right : Operand) → P (p.Test op left right))
    (null : (column : List ℕ) (negated : Bool) → P (p.Null column negated))
    (nots : (a : Predicate) → P a → P (p.Not a))
    (ands : (a b : Predicate) → P a → P b → P (p.And a b))
    (ors : (a b : Predicate) → P a → P b → P (p.Or a b)) where
  abbrev Proved : Type 0
  Proved = (a : Predicate) × P a

  layer : (y : Predicate-F Proved) → P (roll-Predicate (map-Predicate Proved Predicate (λ e. e.0) y))
  layer (Predicate-F.Test op left right) = subst P (sym (p.rolls-Test op left right)) (test op left right)
  layer (Predicate-F.Null column negated) = subst P (sym (p.rolls-Null column negated)) (null column negated)
  layer (Predicate-F.Not a) = subst P (sym (p.rolls-Not a.0)) (nots a.0 a.1)
  layer (Predicate-F.And a b) = subst P (sym (p.rolls-And a.0 b.0)) (ands a.0 b.0 a.1 b.1)
  layer (Predicate-F.Or a b) = subst P (sym (p.rolls-Or a.0 b.0)) (ors a.0 b.0 a.1 b.1)

  pub induct_all : (a : Predicate) → P a
  induct_all = ind-Predicate P (λ x y is. subst (λ (z : Predicate-F Predicate). P (roll-Predicate z)) is (layer y))
