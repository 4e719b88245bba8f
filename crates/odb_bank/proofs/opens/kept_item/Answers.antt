use Rattle.std.proofs.Common.{sym, ◌∙◌, arith}
use Rattle.odb_bank.proofs.Items.{kept_lawfully}
use Rattle.odb_bank.proofs.opens.kept_item.Goals as goal

pub returns : goal.returns
returns c =
    kept_lawfully c.args.number c.args.item.now c.as_slice.result.now c.in-Some.key c.as_slice.ensures (sym c.in-Some.is ∙ c.in_ok-key.ensures) (sym c.in_ok-has_lawful_row.ensures ∙ c.if-not-branch.false) (omega arith) (omega arith)
