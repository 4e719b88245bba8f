use Rattle.std.proofs.Common.{◌≡◌, ◌∙◌, ap}
use Rattle.odb_model.specs.declared.outcome.Outcome.{Outcome}
use Rattle.odb_model.specs.declared.reply.Reply.TheVariants.{Okay}
use Rattle.odb_model.specs.Meaning.{meaning}
use Rattle.odb_rowsource.specs.Intentions.{laid_over}
use Rattle.odb_exec.specs.Written.{keys_written}
use Rattle.odb_keytable.specs.Committed.{Committed}
use Rattle.odb_txn.specs.Transaction.{Kept}
use Rattle.odb_txn.proofs.Counted.{can_be_kept}
use Rattle.odb_system.proofs.executing.run_statement.Goals as goal

pub add-requires : goal.add-requires
add-requires c =
    let t : Kept = c.args.transaction.now in
    let st = c.args.statement.now in
    let done : Outcome = record { reply = Okay; writes = c.in-Ok-outcome_in.outcome.writes; reads = c.in-Ok-outcome_in.outcome.reads } in
    let seen : c.rows.result.table.now ≡ c.args.rows.now.state = c.rows.ensures ∙ ap (λ (rows : Committed). rows.state) c.in-Ok.ensures.ok in
    can_be_kept t st c.args.rows.now.state done c.outcome_in.ensures.kept c.requires.keys
    (c.in-Ok-outcome_in.ensures.outcome.writes ∙ (λ i. (meaning st (laid_over (seen i) t.own) (keys_written t.own) (c.requires.format i)).writes))
