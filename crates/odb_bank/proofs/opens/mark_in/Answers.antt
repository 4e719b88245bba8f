use Rattle.std.proofs.Common.{sym, ◌∙◌, arith}
use Rattle.odb_bank.proofs.Marks.{mark_found, mark_lacks, mark_is}
use Rattle.odb_bank.proofs.opens.mark_in.Goals as goal
use Rattle.odb_bank.proofs.opens.mark_in.Goals.{else-fields-eq1-via-then-fields-eq1+then-fields-bank+else-fields-number, else-fields-eq1-via-then-fields-eq1+else-fields-bank, else-fields-eq1-via-else-fields-eq1}

pub returns-in_err-fields-clause-none : goal.returns-in_err-fields-clause-none
returns-in_err-fields-clause-none c = λ e mark is low. mark_lacks c.args.bytes.now c.args.bank mark (omega arith) (omega arith) (sym c.from_bytes.ensures ∙ c.in_err-fields.was) is

pub returns-then-fields-number-clause-found : goal.returns-then-fields-number-clause-found
returns-then-fields-number-clause-found c =
    (mark_found c.args.bytes.now c.args.bank c.in_ok-fields.fields (sym c.from_bytes.ensures ∙ c.in_ok-fields.was) c.if-fields-eq1.true c.if-fields-bank.true, c.if-fields-number.true)

pub returns-else-fields-eq1-clause-none : goal.returns-else-fields-eq1-clause-none
returns-else-fields-eq1-clause-none c = λ e mark is low.
    let its = mark_is c.args.bytes.now c.args.bank mark c.in_ok-fields.fields (omega arith) (omega arith) (sym c.from_bytes.ensures ∙ c.in_ok-fields.was) is in
    elim c.else-fields-eq1.branch [
      | else-fields-eq1-via-then-fields-eq1+then-fields-bank+else-fields-number w ↦ omega (arith, w.if-fields-number.false, its.2, low)
      | else-fields-eq1-via-then-fields-eq1+else-fields-bank w ↦ w.if-fields-bank.false its.1
      | else-fields-eq1-via-else-fields-eq1 w ↦ w.if-fields-eq1.false its.0
    ]
