use Rattle.std.proofs.Common.{◌≡◌, sym, subst}
use Rattle.std.proofs.lemmas.Result.{IfOk-weaker}
use Rattle.odb_eval.specs.declared.source.Source.{Source}
use Rattle.odb_eval.specs.Bound.{operand_source, IsOperandOf}
use Rattle.odb_eval.proofs.Binds.{is_operand}
use Rattle.odb_eval.proofs.source.Source.of.Goals as goal

pub returns : goal.returns
returns c =
    let t = c.args.table.now in
    let o = c.args.operand.now in
    IfOk-weaker c.operand_source.result (λ (b : Source). b ≡ operand_source t o) (IsOperandOf t o)
    (λ b same. subst (IsOperandOf t o) (sym same) (is_operand t o)) c.operand_source.ensures
