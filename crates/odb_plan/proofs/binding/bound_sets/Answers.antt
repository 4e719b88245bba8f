use Rattle.std.proofs.Common.{◌<◌, ◌∷◌, [], ◌++◌, List, length, take, ap, sym, subst, ◌∙◌, ◌+◌, arith}
use Rattle.std.specs.List.{AllZip}
use Rattle.std.proofs.lemmas.List.{take_more}
use Rattle.odb_model.specs.declared.statement.Assignment.{Assignment}
use Rattle.odb_plan.specs.declared.binding.Set.{Set}
use Rattle.odb_plan.specs.Bound.{IsSetOf}
use Rattle.odb_plan.proofs.Lists.{AllZip-both}
use Rattle.odb_plan.proofs.binding.bound_sets.Goals as goal

pub loop-set-preserved : goal.loop-set-preserved
loop-set-preserved c =
    let t = c.args.table.now in
    let sets = c.args.sets.now in
    let i = c.loop-set.set-index in
    let within : i < length sets = omega arith in
    let R : Assignment → Set → Type 0 = IsSetOf t in
    subst (λ (bound : List Set). AllZip R (take (i + 1) sets) bound) (sym c.in_ok-push.ensures.items)
    (subst (λ (xs : List Assignment). AllZip R xs (c.loop-set.bound.items ++ c.in_ok-bound_set.field-0 ∷ [])) (sym (take_more sets i c.set-item.result within ∙ ap (λ a. take i sets ++ a ∷ []) (sym c.set-item.is)))
    (AllZip-both R (take i sets) c.loop-set.bound.items c.set-item.result c.in_ok-bound_set.field-0 c.loop-set.invariant c.in_ok-bound_set.ensures))
