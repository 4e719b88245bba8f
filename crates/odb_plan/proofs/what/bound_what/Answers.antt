use Rattle.std.proofs.Common.{◌≡◌, sym, subst}
use Rattle.std.proofs.lemmas.Result.{IfOk-weaker}
use Rattle.odb_plan.specs.declared.what.BoundWhat.{BoundWhat}
use Rattle.odb_plan.specs.Bound.{IsWhatOf, what_bound}
use Rattle.odb_plan.proofs.Parts.{is_what}
use Rattle.odb_plan.proofs.what.bound_what.Goals as goal

pub returns : goal.returns
returns c =
    let t = c.args.table.now in
    let what = c.args.what.now in
    IfOk-weaker c.what_bound.result (λ (b : BoundWhat). b ≡ what_bound t what) (IsWhatOf t what)
    (λ b same. subst (IsWhatOf t what) (sym same) (is_what t what)) c.what_bound.ensures
