use Rattle.std.proofs.Common.{◌≡◌, sym, subst}
use Rattle.std.proofs.lemmas.Result.{IfOk-weaker}
use Rattle.odb_eval.specs.declared.filter.Filter.{Filter}
use Rattle.odb_eval.specs.Bound.{bound_filter, IsFilterOf}
use Rattle.odb_eval.proofs.Binds.{is_filter}
use Rattle.odb_eval.proofs.filter.Filter.of.Goals as goal

pub returns : goal.returns
returns c =
    let t = c.args.table.now in
    let o = c.args.predicate.now in
    IfOk-weaker c.bound_filter.result (λ (b : Filter). b ≡ bound_filter t o) (IsFilterOf t o)
    (λ b same. subst (IsFilterOf t o) (sym same) (is_filter t o)) c.bound_filter.ensures
