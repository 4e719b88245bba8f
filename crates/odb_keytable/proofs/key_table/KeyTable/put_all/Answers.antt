use Rattle.std.proofs.Common.{◌≡◌, ap, ◌∙◌, arith}
use Rattle.std.proofs.lemmas.List.{take_all}
use Rattle.odb_model.specs.State.{State, table_key_of, changed, after_writes}
use Rattle.odb_keytable.proofs.Folds.{after_writes-item, after_writes-again, on_err}
use Rattle.odb_keytable.proofs.key_table.KeyTable.put_all.Goals as goal

pub loop-write-preserved : goal.loop-write-preserved
loop-write-preserved c =
    let w = c.write-item.result in
    c.in_ok-put.ensures.ok
    ∙ ap (λ (s : State). changed s (table_key_of w) w.row) c.loop-write.invariant
    ∙ after_writes-item c.args.self.now c.args.writes.now c.loop-write.write-index w c.loop-write-test.true c.write-item.is

pub returns-clause-ok : goal.returns-clause-ok
returns-clause-ok c =
    c.loop-write.invariant ∙ ap (after_writes c.args.self.now) (take_all c.loop-write.write-index c.args.writes.now (omega arith))

pub returns-in_err-put-clause-err : goal.returns-in_err-put-clause-err
returns-in_err-put-clause-err c =
    on_err c.from_residual.result (after_writes c.put.new.self c.args.writes.now ≡ after_writes c.args.self.now c.args.writes.now)
    (ap (λ (s : State). after_writes s c.args.writes.now) (c.in_err-put.ensures.err ∙ c.loop-write.invariant)
    ∙ after_writes-again c.args.self.now c.args.writes.now c.loop-write.write-index)
