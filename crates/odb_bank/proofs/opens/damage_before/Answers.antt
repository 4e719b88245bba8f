use Rattle.std.proofs.Common.{◌≡◌, Result, Err, subst, arith, rules}
use Rattle.std.specs.Prelude.{⊤}
use Rattle.odb_device.specs.Told.{IfTold}
use Rattle.odb_bank.specs.declared.error.BankError.{BankError}
use Rattle.odb_bank.specs.Finding.{IsDamageBefore}
use Rattle.odb_bank.proofs.Searching.{searching_more, searching_reads, searching_breaks}
use Rattle.odb_bank.proofs.opens.damage_before.Goals as goal

pub loop-n-preserved : goal.loop-n-preserved
loop-n-preserved g c =
    searching_more c.args.file c.args.number c.loop-n.n (g.S.Outside.world c.args.store.now) (g.S.Outside.world c.loop-n.store) (g.S.Outside.world c.check_slot.new.store)
    c.loop-n.invariant c.check_slot.ensures.run c.in_ok-check_slot.ensures.answer

pub returns-in_err-check_slot-clause-run : goal.returns-in_err-check_slot-clause-run
returns-in_err-check_slot-clause-run g c =
    searching_reads c.args.file c.args.number c.loop-n.n (g.S.Outside.world c.args.store.now) (g.S.Outside.world c.loop-n.store) (g.S.Outside.world c.check_slot.new.store)
    c.loop-n.invariant c.check_slot.ensures.run

pub returns-in_err-check_slot-clause-answer : goal.returns-in_err-check_slot-clause-answer
returns-in_err-check_slot-clause-answer g c =
    let same : ◌≡◌ {A = Result ⊤ BankError} (Err c.in_err-check_slot.field-0.0) c.from_residual.result = search rules in
    subst (λ (r : Result ⊤ BankError). IfTold c.args.file (g.S.Outside.world c.args.store.now) (IsDamageBefore c.args.number c.args.slot r)) same
    (searching_breaks c.args.file c.args.number c.loop-n.n (g.S.Outside.world c.args.store.now) (g.S.Outside.world c.loop-n.store) (g.S.Outside.world c.check_slot.new.store)
    c.loop-n.invariant c.check_slot.ensures.run c.args.slot c.in_err-check_slot.field-0.0 (omega arith) c.in_err-check_slot.ensures.answer)
