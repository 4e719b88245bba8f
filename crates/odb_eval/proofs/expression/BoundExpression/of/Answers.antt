use Rattle.std.proofs.Common.{◌≡◌, sym, subst}
use Rattle.std.proofs.lemmas.Result.{IfOk-weaker}
use Rattle.odb_eval.specs.declared.expression.BoundExpression.{BoundExpression}
use Rattle.odb_eval.specs.Bound.{bound_expression, IsExpressionOf}
use Rattle.odb_eval.proofs.Binds.{is_expression}
use Rattle.odb_eval.proofs.expression.BoundExpression.of.Goals as goal

pub returns : goal.returns
returns c =
    let t = c.args.table.now in
    let o = c.args.expression.now in
    IfOk-weaker c.bound_expression.result (λ (b : BoundExpression). b ≡ bound_expression t o) (IsExpressionOf t o)
    (λ b same. subst (IsExpressionOf t o) (sym same) (is_expression t o)) c.bound_expression.ensures
