use Rattle.std.proofs.Common.{◌≡◌, [], None, sym, subst}
use Rattle.odb_model.specs.declared.statement.Statement.{Statement}
use Rattle.odb_model.specs.Binding.{binding_refusal, sets_refusal, filter_refusal}
use Rattle.odb_plan.specs.Bound.{HasColumns}
use Rattle.odb_plan.proofs.Parts.{or_none, columns_there}
use Rattle.odb_plan.proofs.binding.bound_parts.Goals as goal

pub bound_sets-requires : goal.bound_sets-requires
bound_sets-requires c =
    let t = c.args.table.now in
    let none = subst (λ (st : Statement). binding_refusal t st ≡ None) c.in-Update.is c.requires in
    let there : HasColumns t c.in-Update.sets = columns_there t [] c.in-Update.sets (or_none (sets_refusal t c.in-Update.sets) (filter_refusal t.columns c.in-Update.filter) none).0 in
    subst (HasColumns t) (sym c.as_slice.ensures) there
